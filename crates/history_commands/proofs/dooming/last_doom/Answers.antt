use Rattle.std.proofs.Common.{◌∙◌, arith}
use Rattle.lock_rules.specs.Legal.{state_of}
use Rattle.history_commands.proofs.DoomedBy.{next-state, one-doom}
use Rattle.history_commands.proofs.dooming.last_doom.Goals as goal

pub loop-entry-preserved : goal.loop-entry-preserved
loop-entry-preserved c =
    let es = c.args.entries.now in
    let i = c.loop-entry.entry-index in
    let e = c.entry-item.result in
    let so_far = c.loop-entry.invariant in
    let served = c.in_ok-dooms.ensures in
    record {
      sessions = served.sessions ∙ so_far.sessions;
      count = omega (arith, served.count, so_far.count);
      state = next-state es i e (state_of c.loop-entry.book.history) (state_of c.serve_and_look.new.book.history) c.loop-entry-test.true c.entry-item.is served.state so_far.state;
      doom = one-doom c.args.session i es e (state_of c.loop-entry.book.history) c.served-place.result c.loop-entry.doom c.newer-doom.result c.in_ok-dooms.dooms c.loop-entry-test.true c.entry-item.is so_far.state
          (c.served-place.ensures.count ∙ so_far.count) served.dooms c.newer-doom.ensures so_far.doom;
    }
