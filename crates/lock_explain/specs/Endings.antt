-- How a call ended waits: the transactions that it made deadlock victims, and the requests of others that it granted.
use Rattle.std.specs.Prelude.{◌≡◌, ℕ, ◌≤◌, ◌↔◌, Bool, true, ◌&&◌, not, if◌then◌else◌, List, [], ◌∷◌, Option, Some, None, Contains}
use Rattle.std.specs.List.Sorted.{IsStrictlySortedBy}
use Rattle.std.specs.declared.cmp.Ordering.{Ordering}
use Rattle.std.specs.Ordering.{nat_cmp}
use Rattle.lock_rules.specs.declared.listing.Claim.{Claim as ListedClaim}
use Rattle.lock_rules.specs.State.{State, is_doomed}
use Rattle.lock_rules.specs.Ended.{has_ended}
use Rattle.lock_rules.specs.Listing.{waiting_line}
use Rattle.lock_explain.specs.Waiting.{for_sessions, party_of}
use Rattle.lock_explain.specs.declared.explanation.Party.{Party}

-- the call made the session's transaction a victim
abbrev pub is_new_victim : State → State → ℕ → Bool
is_new_victim before after u = not (is_doomed before u) && is_doomed after u

-- the order of transactions by age, the youngest first
abbrev pub youngest_first : Party → Party → Ordering
youngest_first a b = nat_cmp b.transaction a.transaction

-- these are the sessions, of 1 to n, whose transactions the call made victims, each once, the youngest first
pub record AreNewVictims (n : ℕ) (before after : State) (victims : List Party) : Type 0 where
  pub listed : (p : Party) → Contains victims p ↔ ((1 ≤ p.session) × (p.session ≤ n) × (is_new_victim before after p.session ≡ true) × (p ≡ party_of after p.session))
  pub falling : IsStrictlySortedBy youngest_first victims

-- the line in a list, the empty list for None
abbrev pub line_in_list : Option ListedClaim → List ListedClaim
line_in_list None = []
line_in_list (Some l) = l ∷ []

-- the request of another session than the caller s in a list, if the call granted it: it waited before the call, waits no more,
-- and its session is no victim
abbrev pub granted_request : ℕ → State → State → ℕ → List ListedClaim
granted_request s before after u = if has_ended s before after u && not (is_doomed after u) then line_in_list (waiting_line before u) else []

-- the waiting requests of the sessions 1 to n, other than the caller s, that the call granted
abbrev pub granted_requests : ℕ → ℕ → State → State → List ListedClaim
granted_requests n s before after = for_sessions n (granted_request s before after)
