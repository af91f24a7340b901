use Rattle.std.proofs.Common.{refl}
use Rattle.lock_laws.proofs.Worked.{legal-reader, reader-waits, reader-ends, reader-cannot_end, legal-update, update-waits, update-ends, legal-conversion, conversion-waits, behind_conversion-waits, conversion-ends, legal-deadlock, deadlock-begins, deadlock-stays}
use Rattle.lock_laws.proofs.ends.examples_end.Goals as goal

pub returns-clause-reader : goal.returns-clause-reader
returns-clause-reader c = legal-reader

pub returns-clause-reader_waits : goal.returns-clause-reader_waits
returns-clause-reader_waits c = reader-waits

pub returns-clause-reader_beside_reader : goal.returns-clause-reader_beside_reader
returns-clause-reader_beside_reader c = refl

pub returns-clause-reader_ends : goal.returns-clause-reader_ends
returns-clause-reader_ends c = reader-ends

pub returns-clause-reader_cannot_end : goal.returns-clause-reader_cannot_end
returns-clause-reader_cannot_end c = reader-cannot_end

pub returns-clause-update : goal.returns-clause-update
returns-clause-update c = legal-update

pub returns-clause-update_waits : goal.returns-clause-update_waits
returns-clause-update_waits c = update-waits

pub returns-clause-update_ends : goal.returns-clause-update_ends
returns-clause-update_ends c = update-ends

pub returns-clause-conversion : goal.returns-clause-conversion
returns-clause-conversion c = legal-conversion

pub returns-clause-conversion_waits : goal.returns-clause-conversion_waits
returns-clause-conversion_waits c = conversion-waits

pub returns-clause-reader_behind_conversion_waits : goal.returns-clause-reader_behind_conversion_waits
returns-clause-reader_behind_conversion_waits c = behind_conversion-waits

pub returns-clause-conversion_ends : goal.returns-clause-conversion_ends
returns-clause-conversion_ends c = conversion-ends

pub returns-clause-deadlock : goal.returns-clause-deadlock
returns-clause-deadlock c = legal-deadlock

pub returns-clause-deadlock_begins : goal.returns-clause-deadlock_begins
returns-clause-deadlock_begins c = deadlock-begins

pub returns-clause-deadlock_stays : goal.returns-clause-deadlock_stays
returns-clause-deadlock_stays c = deadlock-stays
