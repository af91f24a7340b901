use Rattle.std.proofs.Common.{rules, ◌≡◌, ◌∙◌, eqb, refl, sym, ap, subst}
use mathlib.Core.Option as opt
use prog.Atomic.{either}
use Rattle.atomic_table.specs.Table.{Allows, step}
use Rattle.publication.specs.Words.{link_of}
use Rattle.publication.specs.List.{IsBounded, bound_of}
use Rattle.publication.specs.StepKinds.{Seated, linking, links, enlists}
use Rattle.publication.proofs.ListKinds.{link_kept, enlist_kept}
use Rattle.publication.proofs.list_steps.enlist_record.Goals as goal

pub store-requires : goal.store-requires
store-requires g c = let m = c.args.seat.now.me in let at = c.args.at in let n = c.args.shared.now.table_id.slots in let id = c.look_at_head-head.new.seat.id in let head = c.look_at_head-head.result in (
  search rules,
  search rules,
  subst (λ (x : Seated _ _ _). Allows (IsBounded g.O.Sequential (bound_of g.O.Sequential.bound c.args.shared.now.key.object.items)) n id x (link_of at) (λ _. head) (λ _. links (step n (link_of at) head 0 opt.none) x head)) (sym c.look_at_head-head.ensures.same)
      (link_kept n id at m.0 m.1 c.requires.mine c.requires.at.some head c.requires.unlisted.0 c.requires.unlisted.1),
)

pub compare_exchange-requires : goal.compare_exchange-requires
compare_exchange-requires g c = let m = c.args.seat.now.me in let at = c.args.at in let n = c.args.shared.now.table_id.slots in let id = c.store.new.seat.id in let head = c.look_at_head-head.result in
    let after : c.store.new.seat.me ≡ (linking m.0 head, m.1) = c.store.ensures.2 ∙ ap (λ (x : Seated _ _ _). (linking x.0 head, x.1)) c.look_at_head-head.ensures.same in (
      search rules,
      search rules,
      subst (λ (x : Seated _ _ _). Allows (IsBounded g.O.Sequential (bound_of g.O.Sequential.bound c.args.shared.now.key.object.items)) n id x (link_of 0) (λ y. either (eqb y head) at y) (enlists (step n (link_of 0) head at opt.none) x)) (sym after)
          (enlist_kept n id at (linking m.0 head) m.1 c.requires.mine c.requires.at.some head c.requires.unlisted.0 refl),
    )
