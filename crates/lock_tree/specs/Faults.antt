-- The faults of a text that is no resource's text.
use Rattle.std.specs.Prelude.{ℕ, ◌==◌, nat_le, if◌then◌else◌, List, [], ◌∷◌, length, count_by, Option, Some, None}
use Rattle.std.specs.Option.{option_map, option_or}
use Rattle.lock_tree.specs.declared.levels.TheConstants.{LEVELS}
use Rattle.lock_tree.specs.declared.numeral.NumeralFault.{NumeralFault}
use Rattle.lock_tree.specs.declared.numeral.NumeralFault.TheVariants as numeral
use Rattle.lock_tree.specs.declared.path_fault.PathFault.{PathFault}
use Rattle.lock_tree.specs.declared.path_fault.PathFault.TheVariants.{Empty, TooDeep, NotANumber, TooLarge, LeadingZero}
use Rattle.lock_tree.specs.Numerals.{fault_of_numeral}
use Rattle.lock_tree.specs.Text.{is_slash, pieces_of}

-- the fault of a path whose piece has this fault of a numeral
abbrev pub path_fault_of : NumeralFault → PathFault
path_fault_of numeral.Empty = Empty
path_fault_of numeral.NotANumber = NotANumber
path_fault_of numeral.TooLarge = TooLarge
path_fault_of numeral.LeadingZero = LeadingZero

-- the fault of one piece, which has to be the numeral of a 32-bit number
abbrev pub fault_of_piece : List ℕ → Option PathFault
fault_of_piece piece = option_map path_fault_of (fault_of_numeral 4294967295 piece)

-- the fault of the leftmost faulty piece, None if no piece is faulty
abbrev pub first_fault : List (List ℕ) → Option PathFault
first_fault [] = None
first_fault (piece ∷ pieces) = option_or (fault_of_piece piece) (first_fault pieces)

-- the fault of a text: it is empty, it has LEVELS or more `/`, or a piece is faulty
abbrev pub fault_of : List ℕ → Option PathFault
fault_of t =
    if length t == 0 then Some Empty
    else if nat_le LEVELS (count_by is_slash t) then Some TooDeep
    else first_fault (pieces_of t)
