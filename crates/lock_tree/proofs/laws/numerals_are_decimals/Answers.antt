use Rattle.lock_tree.proofs.Numerals.{faultless_iff, reading_iff}
use Rattle.lock_tree.proofs.laws.numerals_are_decimals.Goals as goal

pub returns : goal.returns
returns c = record { faultless = faultless_iff; read = reading_iff }
