use Rattle.lock_trace.proofs.EntryLaws.{place_iff, reply_iff}
use Rattle.lock_trace.proofs.laws.tests_of_histories_pass_texts.Goals as goal

pub returns : goal.returns
returns c = record { place = place_iff; reply = reply_iff }
