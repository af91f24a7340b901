-- The cycles that a request closes, and the victims on them.
use Rattle.std.specs.Prelude.{◌≡◌, ℕ, true, false, List, [], ◌∷◌, Contains}
use Rattle.lock_modes.specs.declared.Mode.{Mode}
use Rattle.waits_for.specs.Walks.{IsWalk, AreOnCircle}
use Rattle.lock_rules.specs.declared.calls.Call.{Call}
use Rattle.lock_rules.specs.State.{State, is_doomed}
use Rattle.lock_rules.specs.Waits.{waits_for, after_victim}
use Rattle.lock_rules.specs.Step.{step}
use Rattle.lock_rules.specs.Laws.{HasNoCircle}
use Rattle.lock_laws.specs.Victims.{BeginsToWait, with_waiting}

-- every cycle of the waits-for graph goes through s
abbrev pub DoCyclesGoThrough : ℕ → State → Type 0
DoCyclesGoThrough s st = (u : ℕ) (others : List ℕ) → IsWalk (waits_for st.table) u others u → Contains (u ∷ others) s

-- in the state in which each victim is chosen, it is on a cycle with s, and every cycle goes through s; after the last victim
-- there is no cycle
abbrev pub AreVictimsOnCycles : ℕ → List ℕ → State → Type 0
AreVictimsOnCycles s [] st = HasNoCircle st
AreVictimsOnCycles s (v ∷ vs) st = AreOnCircle (waits_for st.table) s v × DoCyclesGoThrough s st × AreVictimsOnCycles s vs (after_victim v st)

-- the call of session s dooms the transaction of session v
abbrev pub DoesDoom : State → ℕ → Call → ℕ → Type 0
DoesDoom st s c v = (is_doomed st v ≡ false) × (is_doomed (step st s c).state v ≡ true)

-- the call of session s begins to wait, and then s and v are on a cycle, before any victim is chosen
pub record ClosesCycleWith (st : State) (s : ℕ) (c : Call) (v : ℕ) : Type 0 where
  pub resource : List ℕ
  pub target : Mode
  pub begins : BeginsToWait st s c resource target
  pub on_cycle : AreOnCircle (waits_for (with_waiting s resource target st).table) s v

-- each session whose transaction a call dooms is on a cycle that the call closes
abbrev pub AreDoomedOnCycles : State → Type 0
AreDoomedOnCycles st = (s v : ℕ) (c : Call) → DoesDoom st s c v → ClosesCycleWith st s c v

-- each cycle that a call closes has a session on it whose transaction is doomed after the call
abbrev pub HasEachCycleDoomed : State → Type 0
HasEachCycleDoomed st = (s : ℕ) (c : Call) (r : List ℕ) (k : Mode) → BeginsToWait st s c r k
    → (u : ℕ) (others : List ℕ) → IsWalk (waits_for (with_waiting s r k st).table) u others u → (v : ℕ) × Contains (u ∷ others) v × (is_doomed (step st s c).state v ≡ true)
