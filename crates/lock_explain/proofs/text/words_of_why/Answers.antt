use Rattle.std.proofs.Common.{refl, arith}
use Rattle.std.proofs.lemmas.Fmt.{decimal-digits_of}
use Rattle.lock_explain.proofs.text.words_of_why.Goals as goal

-- The text has the limit's number.
pub returns-in-TooManyLocks : goal.returns-in-TooManyLocks
returns-in-TooManyLocks c = rw c.in-TooManyLocks.is (rw (decimal-digits_of 4096 (omega arith) (omega arith)) refl)
