-- Which items of a list are kept.
use Rattle.std.specs.Prelude.{ℕ, ◌-◌, max, List, length, drop}

-- the place of the first item that is kept, if there are `count`: the items before the cut were let go, and of the others
-- the newest `bound` are kept
abbrev pub first_kept : ℕ → ℕ → ℕ → ℕ
first_kept cut bound count = max cut (count - bound)

-- the items that are kept
abbrev pub kept : {T : Type 0} → ℕ → ℕ → List T → List T
kept cut bound items = drop (first_kept cut bound (length items)) items
