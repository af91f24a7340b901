-- What a text is read as, faulty or not.
use Rattle.std.specs.Prelude.{ℕ, List, map, Result}
use Rattle.lock_tree.specs.declared.path_fault.PathFault.{PathFault}
use Rattle.lock_tree.specs.Numerals.{number_of, ok_unless}
use Rattle.lock_tree.specs.Text.{pieces_of}
use Rattle.lock_tree.specs.Faults.{fault_of}

-- the numbers of the pieces of a text
abbrev pub numbers_in : List ℕ → List ℕ
numbers_in t = map number_of (pieces_of t)

-- the numbers that the text is read as, or its fault
abbrev pub reading_of : List ℕ → Result (List ℕ) PathFault
reading_of t = ok_unless (fault_of t) (numbers_in t)
