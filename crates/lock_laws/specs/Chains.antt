-- Whom a waiting session waits for in the end.
use Rattle.std.specs.Prelude.{◌≡◌, ℕ, true, false, Some, List, [], ◌∷◌}
use Rattle.waits_for.specs.Walks.{IsWalk}
use Rattle.lock_rules.specs.State.{Claim, State, request_of, is_open, is_waiting}
use Rattle.lock_rules.specs.Waits.{waits_for}
use Rattle.lock_rules.specs.Laws.{WaitsFor, HoldsInConflict}

-- the last of these sessions, s if there is none
abbrev pub last_of : ℕ → List ℕ → ℕ
last_of s [] = s
last_of s (v ∷ vs) = last_of v vs

-- a walk of the waits-for graph leads from s to u; u holds, in a conflicting mode, the resource for which the session before
-- it on the walk waits; u itself has an open transaction and doesn't wait
pub record WaitsInTheEndFor (st : State) (s u : ℕ) : Type 0 where
  -- the sessions between s and u
  pub others : List ℕ
  pub walk : IsWalk (waits_for st.table) s others u
  -- the request of the session before u
  pub request : Claim
  pub asked : request_of (last_of s others) st.table.requests ≡ Some request
  pub held : HoldsInConflict st.table u request
  pub runs : is_waiting st u ≡ false
  pub opened : is_open st u ≡ true

-- every session with a waiting request waits for another session
abbrev pub DoWaitersWaitForOthers : State → Type 0
DoWaitersWaitForOthers st = (s : ℕ) → is_waiting st s ≡ true → (u : ℕ) × WaitsFor st.table s u

-- every session with a waiting request waits in the end for a holder that doesn't wait
abbrev pub DoWaitsLeadToHolders : State → Type 0
DoWaitsLeadToHolders st = (s : ℕ) → is_waiting st s ≡ true → (u : ℕ) × WaitsInTheEndFor st s u
