-- Transactions that end one after another, while nobody makes another call.
use Rattle.std.specs.Prelude.{◌≡◌, ℕ, zero, suc, ◌+◌, ◌<◌, if◌then◌else◌, true, false, Some, None, List, [], ◌∷◌, ◌++◌, length, ◌⊎◌, Contains}
use Rattle.lock_rules.specs.declared.calls.Reply.{Reply}
use Rattle.lock_rules.specs.State.{Claim, State, held_mode, request_of, is_open, is_waiting, with_begun, with_table}
use Rattle.lock_rules.specs.Step.{Outcome, after_end}

-- the state after the session's transaction ends: its locks and its request are removed, and their resources promoted
abbrev pub ended : ℕ → State → State
ended s st = with_begun s None (with_table (after_end s st.table) st)

-- the outcome of a call that ends the session's transaction
abbrev pub ended_with : Reply → ℕ → State → Outcome
ended_with reply s st = record { state = ended s st; reply = reply }

-- the session has a transaction that can end without waiting: by a commit, or by an abort if it is doomed
abbrev pub CanEnd : State → ℕ → Type 0
CanEnd st s = (is_open st s ≡ true) × (is_waiting st s ≡ false)

-- these sessions end their transactions in this order, each when it has one and doesn't wait; `last` is the state after them
abbrev pub AreEnds : List ℕ → State → State → Type 0
AreEnds [] st last = last ≡ st
AreEnds (s ∷ ss) st last = CanEnd st s × AreEnds ss (ended s st) last

-- nobody can end: each session that has a transaction waits
abbrev pub CanNobodyEnd : State → Type 0
CanNobodyEnd st = (s : ℕ) → is_open st s ≡ true → is_waiting st s ≡ true

-- waits end by themselves: in whatever order sessions end that don't wait, once nobody else can end, nobody waits
abbrev pub DoWaitsEnd : State → Type 0
DoWaitsEnd st = (ss : List ℕ) (last : State) → AreEnds ss st last → CanNobodyEnd last → last.table.requests ≡ []

-- everybody ends: in whatever order sessions end that don't wait, once nobody else can end, each session has ended that had a
-- transaction
abbrev pub DoesEverybodyEnd : State → Type 0
DoesEverybodyEnd st = (ss : List ℕ) (last : State) → AreEnds ss st last → CanNobodyEnd last → (s : ℕ) → is_open st s ≡ true → Contains ss s

-- s ends in this order of ends, and when its turn comes, it holds what q asks for, in the target mode
pub record HoldsAtItsEnd (st : State) (ss : List ℕ) (s : ℕ) (q : Claim) : Type 0 where
  -- who ends before s
  pub before : List ℕ
  -- who ends after s
  pub after : List ℕ
  -- the state in which s ends
  pub turn : State
  pub order : ss ≡ before ++ s ∷ after
  pub ends : AreEnds before st turn
  pub held : held_mode turn.table s q.resource ≡ Some q.mode

-- every request that waits is granted before its session ends, in whatever order sessions end that don't wait
abbrev pub AreRequestsGranted : State → Type 0
AreRequestsGranted st = (ss : List ℕ) (last : State) → AreEnds ss st last → CanNobodyEnd last → (s : ℕ) (q : Claim) → request_of s st.table.requests ≡ Some q → HoldsAtItsEnd st ss s q

-- how many sessions with a number below n have an open transaction
abbrev pub open_below : ℕ → State → ℕ
open_below zero st = 0
open_below (suc n) st = (if is_open st n then 1 else 0) + open_below n st

-- every session with an open transaction has a number below n
abbrev pub AreOpenBelow : ℕ → State → Type 0
AreOpenBelow n st = (s : ℕ) → is_open st s ≡ true → s < n

-- each of the ends in an order leaves one open transaction less, so no order is longer than their number
abbrev pub DoEndsCount : State → Type 0
DoEndsCount st = (n : ℕ) (ss : List ℕ) (last : State) → AreOpenBelow n st → AreEnds ss st last → length ss + open_below n last ≡ open_below n st

-- there is a session that can end, or else nobody can
abbrev pub CanSomebodyEnd : State → Type 0
CanSomebodyEnd st = (n : ℕ) → AreOpenBelow n st → CanNobodyEnd st ⊎ ((s : ℕ) × CanEnd st s)

-- every order of ends can be continued until nobody else can end
abbrev pub DoEndsGoOn : State → Type 0
DoEndsGoOn st = (n : ℕ) (ss : List ℕ) (mid : State) → AreOpenBelow n st → AreEnds ss st mid →
    (more : List ℕ) × (last : State) × AreEnds (ss ++ more) st last × CanNobodyEnd last
