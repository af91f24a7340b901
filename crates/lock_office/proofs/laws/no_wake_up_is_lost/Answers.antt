use Rattle.lock_desk.specs.Batches.{ends_wait}
use Rattle.lock_programs.specs.Answers.{program_form}
use Rattle.lock_office.specs.ProgramBoards.{flat_history}
use Rattle.lock_office.specs.Ended.{places_of_calls}
use Rattle.lock_office.proofs.by_calls.WakesTold.{wakes-told}
use Rattle.lock_office.proofs.Places.{ended-by-calls}
use Rattle.lock_office.proofs.laws.no_wake_up_is_lost.Goals as goal

pub returns : goal.returns
returns c n history places list told =
    wakes-told c.ended_waits_are_told_by_polls.ensures.told c.ended_waits_are_told_by_polls.ensures.others n (flat_history history) (places_of_calls history places) list record {
      members = λ u. (
        λ has. let m = (told.members u).0 has in (m.0, m.1, (ended-by-calls program_form ends_wait history places u).0 m.2),
        λ m. (told.members u).1 (m.0, m.1, (ended-by-calls program_form ends_wait history places u).1 m.2),
      );
      once = told.once;
    }
