-- What a table's notes of deadlocks have to be, and how many victims are still to come.
use Rattle.std.specs.Prelude.{◌≡◌, ℕ, ◌≤◌, Bool, false, not, ◌&&◌, ◌==◌, List, [], ◌∷◌, ◌++◌, length}
use Rattle.waits_for.specs.Marks.{is_marked}
use Rattle.waits_for.specs.Walks.{IsYoungestOnCircle}
use Rattle.lock_table.specs.Deadlocks.{Moment}
use Rattle.lock_table.specs.declared.graph_copy.GraphCopy.{GraphCopy}

-- these deadlocks are noted, once at least `coming` more are noted behind them
abbrev pub IsNotedAhead : {N : Type 0} → (List Moment → N → N → Type 0) → ℕ → List Moment → N → N → Type 0
IsNotedAhead {N = N} noted coming ms old new = (more : List Moment) (last : N) → coming ≤ length more → noted more new last → noted (ms ++ more) old last

-- a copy of a graph of n sessions, with no session marked
pub record IsCopyFor (n : ℕ) (c : GraphCopy) : Type 0 where
  pub rows : c.rows.sessions ≡ n
  pub marks : c.unmarked.sessions ≡ n
  pub none : (t : ℕ) → is_marked c.unmarked t ≡ false

-- the graph without the edges from one position
abbrev pub cut : (ℕ → ℕ → Bool) → ℕ → ℕ → ℕ → Bool
cut pairs v a b = pairs a b && not (a == v)

-- each of these is the youngest on a cycle with t once those before it have no edges
abbrev pub AreChosen : (ℕ → ℕ → Bool) → List ℕ → ℕ → List ℕ → Type 0
AreChosen pairs ages t [] = Unit {0}
AreChosen pairs ages t (v ∷ vs) = IsYoungestOnCircle pairs ages t v × AreChosen (cut pairs v) ages t vs
