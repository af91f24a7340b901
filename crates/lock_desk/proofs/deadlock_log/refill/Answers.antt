use Rattle.std.proofs.Common.{◌++◌, ◌∷◌, [], List, refl, ap, ◌∙◌}
use Rattle.lock_desk.specs.declared.deadlock_log.Deadlock.{Deadlock}
use Rattle.lock_desk.proofs.deadlock_log.refill.Goals as goal

pub returns-clause-slots : goal.returns-clause-slots
returns-clause-slots c =
    let d : Deadlock = record { place = c.args.place; session = c.args.session; cycle = c.write_cycle.new.cycle } in (
      d,
      c.push_reserved.ensures.items ∙ ap (λ (ds : List Deadlock). ds ++ d ∷ []) c.remove-deadlock.ensures.items,
      λ st i h v. record { place = refl; session = refl; cycle = c.write_cycle.ensures.cycle st c.args.session i h v },
    )
