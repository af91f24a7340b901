use Rattle.std.proofs.Common.{arith}
use Rattle.run_commands.proofs.StreamedRun.{both_new, some_new, taker_is, workers_are}
use Rattle.run_commands.proofs.running_in_pieces.open_with_taker.Goals as goal

pub unreachable-requires : goal.unreachable-requires
unreachable-requires c =
    let none = c.in_default-pop.ensures.cases.0 in
    some_new c.in-Ok.office c.args.sessions c.in-Ok.all.items c.in-Ok.ensures.sessions (omega (arith, none, c.in-Ok.all.ok))

pub returns : goal.returns
returns c =
    let all = c.in-Ok.all.items in let workers = c.pop.new.self.items in let taker = c.in-Some.taker in
    let new = both_new c.in-Ok.office c.args.sessions all workers taker c.in-Ok.ensures.sessions c.in-Ok.ensures.ready c.in-Some.ensures.items in
    record {
      sessions = c.in-Ok.ensures.office;
      workers_new = new.0;
      taker_new = new.1;
      workers_are = workers_are c.in-Ok.office c.args.sessions all workers taker c.in-Ok.ensures.sessions c.in-Some.ensures.items;
      taker_is = taker_is c.in-Ok.office c.args.sessions all workers taker c.in-Ok.ensures.sessions c.in-Some.ensures.items;
    }
