use Rattle.run_commands.proofs.Streamed.{all_joined}
use Rattle.run_commands.proofs.threads.start_and_join.Goals as goal

-- if all sessions were started and none stopped, the joined ones are all of them
pub returns-clause-numbers : goal.returns-clause-numbers
returns-clause-numbers g c =
    all_joined _ c.join_all.result c.start_all-reason.result _ _ c.join_all.ensures.all
    (c.join_all.ensures.numbers c.args.run.now.office.now c.args.run.now.rows.now c.start_all-reason.ensures.started) c.start_all-reason.ensures.all
