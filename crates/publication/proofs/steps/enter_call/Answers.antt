use Rattle.std.proofs.Common.{rules, Option, Some, refl, sym, arith, subst}
use mathlib.Core.Option as opt
use Rattle.atomic_table.specs.Table.{Allows, step}
use Rattle.publication.specs.List.{IsBounded, bound_of}
use Rattle.publication.specs.Told.{tells_entry}
use Rattle.publication.proofs.DirectEntries.{enter_kept}
use Rattle.publication.proofs.RecordStates.{lacks}
use Rattle.publication.proofs.steps.enter_call.Goals as goal

pub load-requires : goal.load-requires
load-requires g c =
    let m = c.args.seat.now.me in
    let n = c.args.shared.now.table_id.slots in
    let id = c.args.seat.now.id in
    let mine = c.requires.mine in
    let named = enter_kept n id m.0 m.1 (omega (arith, mine.session)) mine.object (lacks m.0.own.pending c.requires.idle.0) c.requires.idle.1 c.args._call c.args._reply c.requires.legal c.requires.short in (
      search rules,
      search rules,
      subst (λ (x : Option _). Allows (IsBounded g.O.Sequential (bound_of g.O.Sequential.bound c.args.shared.now.key.object.items)) n id m 0 (λ y. y) (tells_entry g.O.Sequential x g.E.DirectEntry.reply (step n 0 0 0 opt.none) m)) (sym c.requires.named.0)
          (subst (λ (x : Option _). Allows (IsBounded g.O.Sequential (bound_of g.O.Sequential.bound c.args.shared.now.key.object.items)) n id m 0 (λ y. y) (tells_entry g.O.Sequential (Some c.args._call) x (step n 0 0 0 opt.none) m)) (sym c.requires.named.1) (λ state rule many seated short. let r = named state rule many seated short in (r.0, r.1, r.2, r.3, (r.4, (refl, mine.object, lacks m.0.own.pending c.requires.idle.0, c.requires.idle.1))))),
    )
