use Rattle.std.proofs.Common.{refl, sym, ap, arith, length, length-append, [], ◌∷◌}
use Rattle.lock_table.specs.inner.Lockers.{Standing}
use Rattle.lock_table.specs.Changes.{standing}
use Rattle.lock_table.proofs.GivingAllBack.{back-none, back-more}
use Rattle.lock_table.proofs.EndedWaits.{waits_ended-none, waits_ended-on}
use Rattle.lock_table.proofs.Agreement.{keeps-on}
use Rattle.lock_table.proofs.table.LockTable.give_back_all.Goals as goal

pub loop-lock-init : goal.loop-lock-init
loop-lock-init c =
    let d = c.args.self.now in
    let long = ap (λ (x : Standing). length x.held) (sym c.locker-locker.ensures) in
    record {
      back = back-none c.args.session c.args.self.now c.requires.may_serve.whole c.requires.idle;
      kept = record { whole = c.requires.may_serve.whole; lockers = refl; ready = c.requires.may_serve.ready };
      waits_ended = waits_ended-none c.args.session d;
      left = omega (arith, c.locks-locks.ensures, long);
    }

pub loop-lock-preserved : goal.loop-lock-preserved
loop-lock-preserved c =
    let k = c.loop-lock.invariant in
    let g = c.give_back.ensures.back in
    let held = ap length g.held in
    record {
      back = back-more c.args.session c.args.self.now c.loop-lock.self c.give_back.new.self k.kept.whole k.back g;
      kept = keeps-on k.kept c.give_back.ensures.kept;
      waits_ended = waits_ended-on c.args.session c.args.self.now c.loop-lock.self c.give_back.new.self k.waits_ended c.give_back.ensures.waits_ended;
      left = omega (arith, k.left, held, length-append (standing c.args.session c.give_back.new.self).held (g.resource ∷ []));
    }
