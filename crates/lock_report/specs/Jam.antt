-- The roots of a jam, found in the lists of a state: whom each blocks, and which requests its abort would grant.
use Rattle.std.specs.Prelude.{ℕ, suc, Bool, not, ◌&&◌, ◌||◌, if◌then◌else◌, ◌==◌, List, [], ◌∷◌, ◌++◌, length, filter, map, Option, Some, None, is_some}
use Rattle.std.specs.List.{flat_map, list_all, list_any, range_with_len}
use Rattle.lock_modes.specs.Compatibility.{are_compatible}
use Rattle.lock_rules.specs.declared.listing.Claim.{Claim}
use Rattle.lock_rules.specs.Waits.{walks_within}
use Rattle.lock_report.specs.declared.snapshot.OpenTransaction.{OpenTransaction}
use Rattle.lock_report.specs.declared.snapshot.Root.{Root}
use Rattle.lock_report.specs.declared.snapshot.WaitFor.{WaitFor}
use Rattle.lock_report.specs.LocksDot.{begins_queue, claims_on}
use Rattle.lock_report.specs.Blockers.{is_request, is_waited_for, request_of, requests_among}

-- the request is compatible with the locks of all other sessions among these
abbrev pub fits_beside : Claim → List Claim → Bool
fits_beside q locks = list_all (λ h. (h.session == q.session) || are_compatible q.mode h.mode) locks

-- the claims of all sessions but s
abbrev pub claims_but : ℕ → List Claim → List Claim
claims_but s claims = filter (λ c. not (c.session == s)) claims

-- the locks among the claims
abbrev pub locks_among : List Claim → List Claim
locks_among claims = filter (λ c. not (is_request c)) claims

-- the sessions of the requests that are granted beside these locks: those at the front of the queue that fit, one after another
abbrev pub granted_of : List Claim → List Claim → List ℕ
granted_of locks [] = []
granted_of locks (q ∷ qs) = if fits_beside q locks then q.session ∷ granted_of (claims_but q.session locks ++ q ∷ []) qs else []

-- session s holds one of these locks
abbrev pub is_holder : ℕ → List Claim → Bool
is_holder s locks = list_any (λ h. h.session == s) locks

-- the sessions of the requests that an abort of session s would grant on the one resource that these claims are on
abbrev pub granted_on : ℕ → List Claim → List ℕ
granted_on s claims = if is_holder s (locks_among claims) then granted_of (claims_but s (locks_among claims)) (requests_among claims) else []

-- the claims on resource r in a list, if the claims, the first of which is on r, begin with all those on r, and somebody waits for r
abbrev pub jammed_at : Option (List ℕ) → List ℕ → List Claim → List (List Claim)
jammed_at last r claims = if begins_queue last r claims then claims_on r claims ∷ [] else []

-- of claims in the order of a listing those on each resource that somebody waits for; `last` is the resource ahead of them
abbrev pub jammed_behind : Option (List ℕ) → List Claim → List (List Claim)
jammed_behind last [] = []
jammed_behind last (c ∷ cs) = jammed_at last c.resource (c ∷ cs) ++ jammed_behind (Some c.resource) cs

-- the sessions of the requests that an abort of session s would grant, of the claims on each resource that somebody waits for
abbrev pub granted_by_abort : ℕ → List (List Claim) → List ℕ
granted_by_abort s jammed = flat_map (granted_on s) jammed

-- one of the waits says that session s waits for session u
abbrev pub does_wait : List WaitFor → ℕ → ℕ → Bool
does_wait waits s u = list_any (λ w. (w.session == s) && (w.other == u)) waits

-- the sessions that wait, once for each wait
abbrev pub waiters : List WaitFor → List ℕ
waiters waits = map (λ w. w.session) waits

-- session s waits for session u, directly or through others
abbrev pub is_blocked : List WaitFor → ℕ → ℕ → Bool
is_blocked waits s u = walks_within (does_wait waits) (waiters waits) (suc (length (waiters waits))) s u

-- the sessions, of 1 to n, that wait for session s, directly or through others
abbrev pub blocked_by : ℕ → List WaitFor → ℕ → List ℕ
blocked_by n waits s = filter (λ u. is_blocked waits u s) (range_with_len 1 n)

-- session s doesn't wait, and others wait for it
abbrev pub is_root : List Claim → List WaitFor → ℕ → Bool
is_root requests waits s = not (is_some (request_of s requests)) && is_waited_for s waits

-- the root in a list, the empty list if the session is none
abbrev pub root_of : ℕ → List Claim → List (List Claim) → List WaitFor → OpenTransaction → List Root
root_of n requests jammed waits o =
    if is_root requests waits o.session
    then record {
      begun = o;
      blocks = length (blocked_by n waits o.session);
      grants = length (granted_by_abort o.session jammed);
    } ∷ []
    else []

-- the roots, in the order of the open transactions
abbrev pub roots_of : ℕ → List OpenTransaction → List Claim → List WaitFor → List Root
roots_of n opens claims waits = flat_map (root_of n (requests_among claims) (jammed_behind None claims) waits) opens
