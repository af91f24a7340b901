-- Private parts speak to one another here, and no public contract of this crate: what the reader of
-- numerals knows of the bytes scanned so far.
use Rattle.std.specs.Prelude.{◌≡◌, ℕ, ◌<◌, ◌^◌, true, List}
use Rattle.std.specs.Char.{is_ascii_digit}
use Rattle.std.specs.List.{list_all}
use Rattle.std.specs.Option.{SomeIff}
use Rattle.lock_tree.specs.declared.numeral.NumeralScan.{NumeralScan}
use Rattle.lock_tree.specs.Numerals.{number_of}

-- whether all bytes of the text are digits, and, if they are, their number if it is below 2 ^ 64
pub record IsScanOf (scan : NumeralScan) (text : List ℕ) : Type 0 where
  pub digits : scan.are_digits ≡ list_all is_ascii_digit text
  pub number : scan.are_digits ≡ true → SomeIff scan.number (number_of text < 2 ^ 64) (number_of text)
