-- The wait queue of a resource, which requests fit beside its holders, grants and promotions.
use Rattle.std.specs.Prelude.{ℕ, Bool, true, false, not, ◌&&◌, ◌||◌, if◌then◌else◌, ◌==◌, nat_lt, List, [], ◌∷◌, ◌++◌, filter, is_some}
use Rattle.std.specs.List.{list_all}
use Rattle.lock_modes.specs.declared.Mode.{Mode}
use Rattle.lock_modes.specs.Compatibility.{are_compatible}
use Rattle.lock_tree.specs.Paths.{same_path}
use Rattle.lock_rules.specs.State.{Claim, Table, held_mode, holders, claims_but}

-- the waiting conversions: requests for the resource by sessions that hold it, in order of arrival
abbrev pub conversions : Table → List ℕ → List Claim
conversions t r = filter (λ q. same_path q.resource r && is_some (held_mode t q.session r)) t.requests

-- the waiting fresh requests: those by sessions that don't hold the resource, in order of arrival
abbrev pub fresh_requests : Table → List ℕ → List Claim
fresh_requests t r = filter (λ q. same_path q.resource r && not (is_some (held_mode t q.session r))) t.requests

-- the wait queue of the resource: conversions first, then fresh requests
abbrev pub queue : Table → List ℕ → List Claim
queue t r = conversions t r ++ fresh_requests t r

-- the list has no request
abbrev pub is_empty : List Claim → Bool
is_empty [] = true
is_empty (q ∷ qs) = false

-- the mode is compatible with the mode of every other holder of the resource; the session's own lock doesn't count
abbrev pub fits : Table → ℕ → List ℕ → Mode → Bool
fits t s r m = list_all (λ h. (h.0 == s) || are_compatible m h.1) (holders r t.held)

-- the locks with the session's lock on the resource set to this mode; a new lock is inserted by session number
abbrev pub with_lock : ℕ → List ℕ → Mode → List Claim → List Claim
with_lock s r m [] = record { session = s; resource = r; mode = m } ∷ []
with_lock s r m (c ∷ cs) =
    if same_path c.resource r
    then (if c.session == s then record { session = s; resource = r; mode = m } ∷ cs
    else (if nat_lt s c.session then record { session = s; resource = r; mode = m } ∷ c ∷ cs else c ∷ with_lock s r m cs))
    else c ∷ with_lock s r m cs

-- the locks without the session's lock on the resource
abbrev pub locks_but : ℕ → List ℕ → List Claim → List Claim
locks_but s r cs = filter (λ c. not ((c.session == s) && same_path c.resource r)) cs

-- the table after a grant: the session holds the resource in the mode and waits no more
abbrev pub after_grant : ℕ → List ℕ → Mode → Table → Table
after_grant s r m t = record { held = with_lock s r m t.held; requests = claims_but s t.requests }

-- a conversion is granted at once if it fits; a fresh request if it fits and nobody waits for the resource
abbrev pub is_granted_at_once : Table → ℕ → List ℕ → Mode → Bool
is_granted_at_once t s r m = fits t s r m && (is_some (held_mode t s r) || is_empty (queue t r))

-- the table after a request begins to wait: it is the last in order of arrival
abbrev pub with_request : ℕ → List ℕ → Mode → Table → Table
with_request s r m t = record { held = t.held; requests = t.requests ++ record { session = s; resource = r; mode = m } ∷ [] }

-- the table after these requests are granted one by one, up to the first that doesn't fit
abbrev pub granted_while_fitting : List Claim → Table → Table
granted_while_fitting [] t = t
granted_while_fitting (q ∷ qs) t = if fits t q.session q.resource q.mode then granted_while_fitting qs (after_grant q.session q.resource q.mode t) else t

-- the table after a promotion of the resource: its queue is granted up to the first request that doesn't fit
abbrev pub after_promotion : List ℕ → Table → Table
after_promotion r t = granted_while_fitting (queue t r) t

-- the table after a promotion of each of these resources, in this order
abbrev pub after_promotions : List (List ℕ) → Table → Table
after_promotions [] t = t
after_promotions (r ∷ rs) t = after_promotions rs (after_promotion r t)
