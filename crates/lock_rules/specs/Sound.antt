-- Invariants of the table and of the transactions that hold at every moment, also within a call, between its single
-- changes. Laws states what holds between two calls.
use Rattle.std.specs.Prelude.{◌≡◌, ℕ, ◌+◌, ◌≤◌, Bool, true, false, ◌&&◌, ◌==◌, nat_lt, if◌then◌else◌, ◌⊎◌, List, [], ◌∷◌, Some}
use Rattle.std.specs.List.{list_all}
use Rattle.lock_modes.specs.declared.Mode.{Mode}
use Rattle.lock_modes.specs.Order.{at_or_below}
use Rattle.lock_modes.specs.Compatibility.{are_compatible}
use Rattle.lock_rules.specs.State.{Claim, Table, State, held_mode, mode_or_nothing, request_of, holders, is_open, number_of}
use Rattle.lock_rules.specs.Step.{is_nothing, lacks_parent}
use Rattle.lock_rules.specs.Laws.{AreNumbersDistinct}

-- how many of these requests are the session's
abbrev pub times : ℕ → List Claim → ℕ
times s [] = 0
times s (q ∷ qs) = (if q.session == s then 1 else 0) + times s qs

-- no session has two of these requests; IsOneRequestEach of Laws says so of a state
abbrev pub IsOnce : List Claim → Type 0
IsOnce qs = (s : ℕ) → times s qs ≤ 1

-- each of these holders has a greater session number than s
abbrev pub after : ℕ → List (ℕ × Mode) → Bool
after s hs = list_all (λ k. nat_lt s k.0) hs

-- the session numbers of these holders rise; AreSessionsRising of Laws as a test that computes
abbrev pub ascend : List (ℕ × Mode) → Bool
ascend [] = true
ascend (h ∷ hs) = after h.0 hs && ascend hs

-- the holders of each resource are in order of session number
abbrev pub IsOrdered : List Claim → Type 0
IsOrdered cs = (r : List ℕ) → ascend (holders r cs) ≡ true

-- the mode isn't NL, and the session's lock on the parent, if r has a parent, covers what the mode needs
abbrev pub Stands : Table → ℕ → List ℕ → Mode → Type 0
Stands t s r m = (lacks_parent t s r m ≡ false) × (is_nothing m ≡ false)

-- the two modes are compatible in at least one order; GoTogether of Laws as a test that computes
abbrev pub GoTogetherByTest : Mode → Mode → Type 0
GoTogetherByTest a b = (are_compatible a b ≡ true) ⊎ (are_compatible b a ≡ true)

-- the invariant of the table: holders in order of session number; at most one request a session, its target at or above
-- the mode held; every lock and request is for more than NL and obeys the parent rule; holders have compatible modes
pub record IsSound (t : Table) : Type 0 where
  pub order : IsOrdered t.held
  pub once : IsOnce t.requests
  pub raising : (s : ℕ) (q : Claim) → request_of s t.requests ≡ Some q → at_or_below (mode_or_nothing (held_mode t s q.resource)) q.mode ≡ true
  pub asked_under : (s : ℕ) (q : Claim) → request_of s t.requests ≡ Some q → Stands t s q.resource q.mode
  pub held_under : (s : ℕ) (r : List ℕ) (k : Mode) → held_mode t s r ≡ Some k → Stands t s r k
  pub agree : (s u : ℕ) (r : List ℕ) (k l : Mode) → (s == u) ≡ false → held_mode t s r ≡ Some k → held_mode t u r ≡ Some l → GoTogetherByTest k l

-- every session that holds a lock or waits passes the test
pub record AllOpen (open_ : ℕ → Bool) (t : Table) : Type 0 where
  pub waiting : (s : ℕ) (q : Claim) → request_of s t.requests ≡ Some q → open_ s ≡ true
  pub holding : (s : ℕ) (r : List ℕ) (m : Mode) → held_mode t s r ≡ Some m → open_ s ≡ true

-- every session that holds a lock or waits has a transaction; open transactions have different numbers, at most the count
pub record IsNumbered (st : State) : Type 0 where
  pub owners : AllOpen (is_open st) st.table
  pub counted : (s : ℕ) → is_open st s ≡ true → number_of st s ≤ st.count
  pub apart : AreNumbersDistinct st
