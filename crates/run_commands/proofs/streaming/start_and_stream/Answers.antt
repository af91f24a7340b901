use Rattle.run_commands.proofs.Streamed.{all_joined, of_fault, of_joined, of_written}
use Rattle.run_commands.proofs.streaming.start_and_stream.Goals as goal

pub returns-clause-numbers : goal.returns-clause-numbers
returns-clause-numbers g c =
    of_joined _ c.combine_results-done.result c.join_all-joined.result c.write_while_at_work-written.result c.combine_results-done.ensures.done
    (all_joined _ c.join_all-joined.result c.start_all-reason.result _ _ c.join_all-joined.ensures.all
    (c.join_all-joined.ensures.numbers c.args.run.now.office.now c.args.run.now.rows.now c.start_all-reason.ensures.started) c.start_all-reason.ensures.all)

pub returns-clause-performed : goal.returns-clause-performed
returns-clause-performed g c =
    of_joined _ c.combine_results-done.result c.join_all-joined.result c.write_while_at_work-written.result c.combine_results-done.ensures.done
    (c.join_all-joined.ensures.performed c.args.run.now.office.now c.args.run.now.rows.now c.start_all-reason.ensures.started)

pub returns-clause-written : goal.returns-clause-written
returns-clause-written g c =
    of_written _ c.combine_results-done.result c.join_all-joined.result c.write_while_at_work-written.result c.combine_results-done.ensures.done
    c.write_while_at_work-written.ensures.written

pub returns-clause-fault : goal.returns-clause-fault
returns-clause-fault g c =
    of_fault c.combine_results-done.result c.join_all-joined.result c.write_while_at_work-written.result _ _ _ c.combine_results-done.ensures.writing c.combine_results-done.ensures.thread
    c.write_while_at_work-written.ensures.fault c.write_while_at_work-written.ensures.written
