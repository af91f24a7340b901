-- A numeral is the text of a number in decimal, without leading zeros.
use Rattle.std.specs.Prelude.{ℕ, Bool, not, ◌&&◌, ◌==◌, nat_lt, if◌then◌else◌, List, length, slice_index, Option, Some, None, Result, Ok, Err}
use Rattle.std.specs.Char.{is_ascii_digit}
use Rattle.std.specs.List.{list_all}
use Rattle.std.specs.Str.Parse.{digits_value}
use Rattle.lock_tree.specs.declared.numeral.NumeralFault.{NumeralFault}
use Rattle.lock_tree.specs.declared.numeral.NumeralFault.TheVariants.{Empty, NotANumber, TooLarge, LeadingZero}

-- the number that these digits write in decimal
abbrev pub number_of : List ℕ → ℕ
number_of digits = digits_value 10 digits

-- the text has two or more bytes, and the first is `0`
abbrev pub has_leading_zero : List ℕ → Bool
has_leading_zero text = nat_lt 1 (length text) && (slice_index text 0 == 48)

-- the fault of a text that is no numeral of at most `greatest`: the first of these tests that it fails
abbrev pub fault_of_numeral : ℕ → List ℕ → Option NumeralFault
fault_of_numeral greatest text =
    if length text == 0 then Some Empty
    else if not (list_all is_ascii_digit text) then Some NotANumber
    else if nat_lt greatest (number_of text) then Some TooLarge
    else if has_leading_zero text then Some LeadingZero
    else None

-- Ok with the value if there is no fault, else Err with the fault
abbrev pub ok_unless : {F A : Type 0} → Option F → A → Result A F
ok_unless None value = Ok value
ok_unless (Some fault) value = Err fault

-- the number that the text is read as, or its fault
abbrev pub reading_of_numeral : ℕ → List ℕ → Result ℕ NumeralFault
reading_of_numeral greatest text = ok_unless (fault_of_numeral greatest text) (number_of text)
