use Rattle.std.proofs.Common.{rules, refl, sym, subst}
use mathlib.Core.Option as opt
use Rattle.atomic_table.specs.Table.{Allows, step, rest}
use Rattle.publication.specs.Words.{FREE}
use Rattle.publication.specs.List.{IsBounded, bound_of}
use Rattle.publication.specs.StepKinds.{Seated, releases}
use Rattle.publication.specs.Runs.{IsCombiner, LaysDownLoad}
use Rattle.publication.proofs.LockKinds.{release_kept}
use Rattle.publication.proofs.Lists.{none_there}
use Rattle.publication.proofs.steps.release_load.Goals as goal

pub store-requires : goal.store-requires
store-requires g c = let v = c.args.seat.now.me.0 in let n = c.args.shared.now.table_id.slots in let id = c.exchange.new.seat.id in (
  search rules,
  search rules,
  (λ state rule many seated short. let r = (subst (λ (m : Seated _ _ _). Allows (IsBounded g.O.Sequential (bound_of g.O.Sequential.bound c.args.shared.now.key.object.items)) n id m 0 (λ _. FREE) (λ _. releases (step n 0 FREE 0 opt.none) m FREE)) (sym c.exchange.ensures.3)
      (release_kept n id v c.requires.mine.0 c.requires.mine.1 c.args.load (rest c.args.seat.now.me.1) c.requires.home c.requires.bound c.requires.took (λ j call. none_there v.combiner.opened j call (c.requires.none j)) c.requires.whole)) state rule many seated short in (r.0, r.1, r.2, r.3, (r.4, (subst (λ (m : Seated _ _ _). IsCombiner m × LaysDownLoad g.O.Sequential m) (sym c.exchange.ensures.3) (c.requires.mine.1, record { load = c.args.load; more = rest c.args.seat.now.me.1; carried = refl; whole = c.requires.home.history }))))),
)
