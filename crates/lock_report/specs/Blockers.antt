-- For whom the requests of a state wait, each session's first blocker first: who waits for whom is what the list of waits says.
use Rattle.std.specs.Prelude.{ℕ, Bool, true, false, ◌&&◌, if◌then◌else◌, ◌==◌, List, [], ◌∷◌, filter, Option, Some, None}
use Rattle.std.specs.List.{flat_map, list_any}
use Rattle.lock_tree.specs.Paths.{same_path}
use Rattle.lock_rules.specs.declared.listing.Claim.{Claim}
use Rattle.lock_report.specs.declared.snapshot.OpenTransaction.{OpenTransaction}
use Rattle.lock_report.specs.declared.snapshot.WaitLine.{WaitLine}
use Rattle.lock_report.specs.declared.snapshot.WaitFor.{WaitFor}
use Rattle.lock_report.specs.Claims.{is_request_kind}

-- the line is a waiting request
abbrev pub is_request : Claim → Bool
is_request c = is_request_kind c.kind

-- the waiting requests among the claims
abbrev pub requests_among : List Claim → List Claim
requests_among claims = filter is_request claims

-- the first of these requests that is the session's
abbrev pub request_of : ℕ → List Claim → Option Claim
request_of s [] = None
request_of s (q ∷ qs) = if q.session == s then Some q else request_of s qs

-- the waits of session s
abbrev pub waits_by : ℕ → List WaitFor → List WaitFor
waits_by s waits = filter (λ w. w.session == s) waits

-- one of the waits is for session u
abbrev pub is_waited_for : ℕ → List WaitFor → Bool
is_waited_for u waits = list_any (λ w. w.other == u) waits

-- the first session, in the order of the claims, that has a claim on the resource and that one of the waits is for
abbrev pub first_blocker : List WaitFor → List ℕ → List Claim → Option ℕ
first_blocker waits r [] = None
first_blocker waits r (c ∷ cs) = if same_path c.resource r && is_waited_for c.session waits then Some c.session else first_blocker waits r cs

-- the wait in a list, the empty list if it is for the first blocker
abbrev pub other_wait : ℕ → WaitFor → List WaitLine
other_wait first w = if w.other == first then [] else record { wait = w; first = false; since = None } ∷ []

-- the waits of session s, that for its first blocker first; none if there is no first blocker
abbrev pub told_behind : ℕ → List WaitFor → Option ℕ → List WaitLine
told_behind s waits None = []
told_behind s waits (Some first) = record { wait = record { session = s; other = first }; first = true; since = None } ∷ flat_map (other_wait first) waits

-- the same of a request; none without a request
abbrev pub told_of : List Claim → List WaitFor → Option Claim → List WaitLine
told_of claims waits None = []
told_of claims waits (Some q) = told_behind q.session (waits_by q.session waits) (first_blocker (waits_by q.session waits) q.resource claims)

-- the waits of all sessions, in the order of the open transactions
abbrev pub told_waits : List OpenTransaction → List Claim → List WaitFor → List WaitLine
told_waits opens claims waits = flat_map (λ o. told_of claims waits (request_of o.session (requests_among claims))) opens
