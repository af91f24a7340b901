use Rattle.std.proofs.lemmas.Result.{on_ok_weaker}
use Rattle.replay_commands.proofs.StatsLines.{followed}
use Rattle.replay_commands.proofs.counters_text.put_calls.Goals as goal

pub returns : goal.returns
returns c =
    let to-2 = followed _ _ _ _ _ c.in_ok-put_op.ensures c.in_ok-put_op-2.ensures in
    let to-3 = followed _ _ _ _ _ to-2 c.in_ok-put_op-3.ensures in
    let to-4 = followed _ _ _ _ _ to-3 c.in_ok-put_op-4.ensures in
    let to-5 = followed _ _ _ _ _ to-4 c.in_ok-put_op-5.ensures in
    let to-6 = followed _ _ _ _ _ to-5 c.in_ok-put_op-6.ensures in
    let to-7 = followed _ _ _ _ _ to-6 c.in_ok-put_op-7.ensures in
    let to-8 = followed _ _ _ _ _ to-7 c.in_ok-put_op-8.ensures in
    let to-9 = followed _ _ _ _ _ to-8 c.in_ok-put_op-9.ensures in
    on_ok_weaker c.put_op-10.result (followed _ _ _ _ _ to-9) c.put_op-10.ensures
