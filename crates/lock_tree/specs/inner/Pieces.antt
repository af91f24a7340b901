-- Private parts speak to one another here, and no public contract of this crate: the
-- pieces of a resource's text.
use Rattle.std.specs.Prelude.{ℕ, List, Result}
use Rattle.std.specs.List.{before_first}
use Rattle.lock_tree.specs.declared.path_fault.PathFault.{PathFault}
use Rattle.lock_tree.specs.Numerals.{number_of, ok_unless}
use Rattle.lock_tree.specs.Text.{is_slash}
use Rattle.lock_tree.specs.Faults.{fault_of_piece}

-- the bytes before the first `/`, or all of them if there is none
abbrev pub first_piece : List ℕ → List ℕ
first_piece t = before_first is_slash t

-- the number that the piece is read as, or its fault
abbrev pub reading_of_piece : List ℕ → Result ℕ PathFault
reading_of_piece piece = ok_unless (fault_of_piece piece) (number_of piece)
