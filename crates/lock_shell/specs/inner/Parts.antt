-- How much of a path was served, and how much of a history was looked through.
use Rattle.std.specs.Prelude.{◌≡◌, ℕ, ◌+◌, ◌≤◌, false, List, length, map, slice_get, Some}
use Rattle.std.specs.List.{range_with_len}
use Rattle.lock_modes.specs.declared.Mode.{Mode}
use Rattle.lock_rules.specs.Entries.{Entry}
use Rattle.lock_trace.specs.Histories.{row_of_entry}
use Rattle.lock_shell.specs.Turns.{AreGranted, HasServed, is_call_of, path_row}

-- a path of which so many levels were served, each granted
pub record HasServedLevels (n s : ℕ) (r : List ℕ) (m : Mode) (level : ℕ) (front back : List Entry) (old new : List ℕ) : Type 0 where
  pub served : List Entry
  pub count : length served ≡ level
  pub calls : map row_of_entry served ≡ map (path_row s r m) (range_with_len 1 level)
  pub granted : AreGranted served
  pub told : HasServed n front back served old new

-- the session made none of the last so many of these calls, polls left out
abbrev pub HasNoneOfLast : ℕ → List Entry → ℕ → Type 0
HasNoneOfLast s es back = (i : ℕ) (e : Entry) → length es ≤ i + back → slice_get es i ≡ Some e → is_call_of s e ≡ false
