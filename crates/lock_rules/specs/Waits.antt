-- The waits-for graph, and how deadlocks are resolved.
use Rattle.std.specs.Prelude.{ℕ, zero, suc, Bool, true, false, not, ◌&&◌, ◌||◌, if◌then◌else◌, ◌==◌, nat_lt, List, [], ◌∷◌, length, map, filter, Option, Some, None}
use Rattle.std.specs.List.{list_any}
use Rattle.lock_modes.specs.declared.Mode.{Mode}
use Rattle.lock_modes.specs.Compatibility.{are_compatible}
use Rattle.lock_rules.specs.declared.calls.Transaction.{Transaction}
use Rattle.lock_rules.specs.State.{Claim, Table, State, held_mode, request_of, claims_but, number_of, with_begun, with_table}
use Rattle.lock_rules.specs.Queue.{queue, after_promotions}

-- the requested mode conflicts with the held mode; with None it doesn't
abbrev pub conflicts : Mode → Option Mode → Bool
conflicts m None = false
conflicts m (Some k) = not (are_compatible m k)

-- the list has a request of u before any request of s
abbrev pub stands_before : ℕ → ℕ → List Claim → Bool
stands_before u s [] = false
stands_before u s (q ∷ qs) = if q.session == s then false else ((q.session == u) || stands_before u s qs)

-- u blocks the request: u holds the resource in a conflicting mode, or has an earlier request in the queue
abbrev pub keeps_waiting : Table → ℕ → Option Claim → Bool
keeps_waiting t u None = false
keeps_waiting t u (Some q) = conflicts q.mode (held_mode t u q.resource) || stands_before u q.session (queue t q.resource)

-- an edge of the waits-for graph: s waits for another session u that blocks its request
abbrev pub waits_for : Table → ℕ → ℕ → Bool
waits_for t s u = not (u == s) && keeps_waiting t u (request_of s t.requests)

-- the sessions with a waiting request, in order of arrival
abbrev pub waiting_sessions : Table → List ℕ
waiting_sessions t = map (λ q. q.session) t.requests

-- a walk of at most n edges leads from t to u, and each session between them is one of vs
abbrev pub walks_within : (ℕ → ℕ → Bool) → List ℕ → ℕ → ℕ → ℕ → Bool
walks_within pairs vs zero t u = false
walks_within pairs vs (suc n) t u = pairs t u || list_any (λ v. pairs t v && walks_within pairs vs n v u) vs

-- a walk of the waits-for graph leads from s to u
-- Only waiting sessions have edges out, so only they lie between s and u, and no walk has to visit one of them twice.
abbrev pub reaches : Table → ℕ → ℕ → Bool
reaches t s u = walks_within (waits_for t) (waiting_sessions t) (suc (length (waiting_sessions t))) s u

-- of `best` and these sessions, the one with the greatest `age`, the first on a tie; ages are transaction numbers here
abbrev pub youngest_of : (ℕ → ℕ) → ℕ → List ℕ → ℕ
youngest_of age best [] = best
youngest_of age best (v ∷ vs) = youngest_of age (if nat_lt (age best) (age v) then v else best) vs

-- the victim for a session s on a cycle: of the sessions on a cycle with s, the one with the youngest transaction
abbrev pub victim_of : State → ℕ → ℕ
victim_of st s = youngest_of (number_of st) s (filter (λ v. reaches st.table s v && reaches st.table v s) (waiting_sessions st.table))

-- the transaction, marked as doomed
abbrev pub doom : Option Transaction → Option Transaction
doom None = None
doom (Some x) = Some (record { number = x.number; doomed = true })

-- the resource of the request, in a list; the empty list for None
abbrev pub resource_of_request : Option Claim → List (List ℕ)
resource_of_request None = []
resource_of_request (Some q) = q.resource ∷ []

-- the table without the session's waiting request
abbrev pub without_request : ℕ → Table → Table
without_request s t = record { held = t.held; requests = claims_but s t.requests }

-- the table after the session's request is cancelled: it is removed, and its resource is promoted
abbrev pub after_cancel : ℕ → Table → Table
after_cancel s t = after_promotions (resource_of_request (request_of s t.requests)) (without_request s t)

-- the state after v becomes a victim: its transaction is doomed, its request cancelled, its locks kept
abbrev pub after_victim : ℕ → State → State
after_victim v st = with_begun v (doom (st.begun v)) (with_table (after_cancel v st.table) st)

-- the state after victims are chosen one by one while s is on a cycle, at most n of them
abbrev pub after_victims : ℕ → ℕ → State → State
after_victims zero s st = st
after_victims (suc n) s st = if reaches st.table s s then after_victims n s (after_victim (victim_of st s) st) else st
