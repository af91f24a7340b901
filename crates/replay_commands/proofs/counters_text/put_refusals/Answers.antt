use Rattle.std.proofs.lemmas.Result.{on_ok_weaker}
use Rattle.replay_commands.proofs.StatsLines.{followed}
use Rattle.replay_commands.proofs.counters_text.put_refusals.Goals as goal

pub returns : goal.returns
returns c =
    let to-2 = followed _ _ _ _ _ c.in_ok-put_why.ensures c.in_ok-put_why-2.ensures in
    let to-3 = followed _ _ _ _ _ to-2 c.in_ok-put_why-3.ensures in
    let to-4 = followed _ _ _ _ _ to-3 c.in_ok-put_why-4.ensures in
    let to-5 = followed _ _ _ _ _ to-4 c.in_ok-put_why-5.ensures in
    let to-6 = followed _ _ _ _ _ to-5 c.in_ok-put_why-6.ensures in
    let to-7 = followed _ _ _ _ _ to-6 c.in_ok-put_why-7.ensures in
    let to-8 = followed _ _ _ _ _ to-7 c.in_ok-put_why-8.ensures in
    let to-9 = followed _ _ _ _ _ to-8 c.in_ok-put_why-9.ensures in
    let to-10 = followed _ _ _ _ _ to-9 c.in_ok-put_why-10.ensures in
    on_ok_weaker c.put_why-11.result (followed _ _ _ _ _ to-10) c.put_why-11.ensures
