use Rattle.std.proofs.Common.{◌-◌, ◌∙◌, [], ◌∷◌, ap, sym, subst, arith}
use Rattle.lock_desk.specs.inner.Noting.{LogView, HasTold, HasCounted}
use Rattle.lock_table.specs.Deadlocks.{Moment}
use Rattle.lock_desk.proofs.VictimsCounted.{counted-one}
use Rattle.lock_desk.proofs.DeadlocksTold.{noted-ahead, skipped-ahead}
use Rattle.lock_desk.proofs.deadlock_log.DeadlockLogDeadlockNotes.note.Goals as goal

pub returns-then-coming-most-clause-noted : goal.returns-then-coming-most-clause-noted
returns-then-coming-most-clause-noted c = λ st i h v.
    let a = c.args.self.now in
    let f = c.count_victim.ensures in
    let t = c.keep.ensures.told st i h v in
    let told = subst (λ (l : LogView). HasTold (record { place = c.args.place; session = c.args.session; state = st } ∷ []) l c.keep.new.self) f t in
    let counts = c.keep.ensures.counts ∙ ap (λ (l : LogView). l.counts) f in
    noted-ahead (c.args.coming - 1) a c.keep.new.self (record { place = c.args.place; session = c.args.session; state = st } ∷ []) (record {
      most = told.most;
      told = told.told;
      counted = subst (HasCounted (record { place = c.args.place; session = c.args.session; state = st } ∷ []) a.counts) (sym counts)
          (counted-one a.counts (record { place = c.args.place; session = c.args.session; state = st }));
    })

pub returns-else-coming-most-clause-noted : goal.returns-else-coming-most-clause-noted
returns-else-coming-most-clause-noted c = λ st i h v.
    let a = c.args.self.now in
    let f = c.count_victim.ensures in
    let m : Moment = record { place = c.args.place; session = c.args.session; state = st } in
    skipped-ahead (c.args.coming - 1) a c.count_victim.new.self (m ∷ []) (omega (arith, c.most.ensures, ap (λ (l : LogView). l.most) f)) (ap (λ (l : LogView). l.most) f) (ap (λ (l : LogView). l.told) f)
    (subst (HasCounted (m ∷ []) a.counts) (sym (ap (λ (l : LogView). l.counts) f)) (counted-one a.counts m))
