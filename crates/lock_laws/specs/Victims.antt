-- Deadlock victims, and whether waits would end without them.
use Rattle.std.specs.Prelude.{◌≡◌, ℕ, true, ◌⊎◌, None, List, [], ◌∷◌}
use Rattle.lock_modes.specs.declared.Mode.{Mode}
use Rattle.lock_rules.specs.declared.calls.Call.{Call}
use Rattle.lock_rules.specs.declared.calls.Call.TheVariants.{Lock, Convert}
use Rattle.lock_rules.specs.State.{State, held_mode, with_table}
use Rattle.lock_rules.specs.Queue.{with_request}
use Rattle.lock_rules.specs.Waits.{after_victim}
use Rattle.lock_rules.specs.Step.{target_of, would_wait, tests, first_failing}
use Rattle.lock_laws.specs.Ends.{DoWaitsEnd}

-- the call is a Lock or a Convert for r, with the target k; it passes its tests, and k is neither held nor granted at once: the
-- session's request begins to wait
pub record BeginsToWait (st : State) (s : ℕ) (c : Call) (r : List ℕ) (k : Mode) : Type 0 where
  -- the mode asked for
  pub asked : Mode
  pub call : (c ≡ Lock r asked) ⊎ (c ≡ Convert r asked)
  pub target : k ≡ target_of (held_mode st.table s r) asked
  pub passes : first_failing (tests st s c) ≡ None
  pub waits : would_wait st.table s r k ≡ true

-- the state in which the session's request for r, with the target k, has begun to wait and no victim is chosen yet
abbrev pub with_waiting : ℕ → List ℕ → Mode → State → State
with_waiting s r k st = with_table (with_request s r k st.table) st

-- each victim is chosen in a state from which waits would not end by themselves; from the state after the last they do
abbrev pub AreVictimsNeeded : List ℕ → State → Type 0
AreVictimsNeeded [] st = DoWaitsEnd st
AreVictimsNeeded (v ∷ vs) st = (DoWaitsEnd st → ⊥) × AreVictimsNeeded vs (after_victim v st)
