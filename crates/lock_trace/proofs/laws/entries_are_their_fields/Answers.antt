use Rattle.lock_trace.proofs.EntryLaws.{entry_iff}
use Rattle.lock_trace.proofs.laws.entries_are_their_fields.Goals as goal

pub returns : goal.returns
returns c = entry_iff
