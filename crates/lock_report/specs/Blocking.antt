-- Who waits for whom, as it follows from the locks and requests of a state; and the rows that tell it.
use Rattle.std.specs.Prelude.{ℕ, Bool, false, not, ◌&&◌, ◌||◌, if◌then◌else◌, ◌==◌, List, [], ◌∷◌, ◌++◌, filter, map, Option, Some, None}
use Rattle.std.specs.List.{flat_map, position_or_len, range_with_len}
use Rattle.lock_modes.specs.Compatibility.{are_compatible}
use Rattle.lock_tree.specs.Paths.{same_path}
use Rattle.lock_rules.specs.declared.listing.Claim.{Claim}
use Rattle.lock_report.specs.declared.snapshot.FirstWait.{FirstWait}
use Rattle.lock_report.specs.declared.snapshot.OpenTransaction.{OpenTransaction}
use Rattle.lock_report.specs.declared.snapshot.WaitLine.{WaitLine}
use Rattle.lock_report.specs.declared.snapshot.WaitFor.{WaitFor}
use Rattle.lock_report.specs.Blockers.{is_request, request_of, requests_among, told_waits}

-- the claim is a request of the session that makes request q
abbrev pub is_own : Claim → Claim → Bool
is_own q c = is_request c && (c.session == q.session)

-- ahead of request q, the claim keeps it waiting: it is of another session, and a request, or a lock that conflicts
abbrev pub is_in_the_way : Claim → Claim → Bool
is_in_the_way q c = not (c.session == q.session) && (is_request c || not (are_compatible q.mode c.mode))

-- of the claims on the resource of request q, one of session u stands ahead of it and keeps it waiting
abbrev pub is_ahead : Claim → ℕ → List Claim → Bool
is_ahead q u [] = false
is_ahead q u (c ∷ cs) = if is_own q c then false else ((is_in_the_way q c && (c.session == u)) || is_ahead q u cs)

-- the claims on the resource
abbrev pub claims_on : List ℕ → List Claim → List Claim
claims_on r claims = filter (λ c. same_path c.resource r) claims

-- the waits of a request for those of the sessions 1 to n that keep it waiting, by session number; none without a request
abbrev pub waits_of : ℕ → List Claim → Option Claim → List WaitFor
waits_of n claims None = []
waits_of n claims (Some q) = filter (λ w. is_ahead q w.other (claims_on q.resource claims)) (map (λ u. record { session = q.session; other = u }) (range_with_len 1 n))

-- who waits for whom, in the order of the open transactions
abbrev pub waits_among : ℕ → List OpenTransaction → List Claim → List WaitFor
waits_among n opens claims = flat_map (λ o. waits_of n claims (request_of o.session (requests_among claims))) opens

-- a wait in a list as a row tells it, with those told behind it; the empty list if it isn't for a first blocker
abbrev pub first_of : WaitLine → List WaitLine → List FirstWait
first_of w ws = if w.first then record { wait = w.wait; others = position_or_len (λ v. v.first) ws } ∷ [] else []

-- the waits for first blockers, each with the number of those told between it and the next one
abbrev pub first_waits : List WaitLine → List FirstWait
first_waits [] = []
first_waits (w ∷ ws) = first_of w ws ++ first_waits ws

-- the rows of waits that follow from these open transactions, locks and requests
abbrev pub rows_of_waits : ℕ → List OpenTransaction → List Claim → List FirstWait
rows_of_waits n opens claims = first_waits (told_waits opens claims (waits_among n opens claims))
