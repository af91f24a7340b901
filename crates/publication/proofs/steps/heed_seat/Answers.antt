use Rattle.std.proofs.Common.{rules, ◌≡◌, ◌∙◌, refl, sym, ap, subst}
use mathlib.Core.Option as opt
use Rattle.atomic_table.specs.Table.{Allows, Joins, step}
use Rattle.publication.specs.Rule.{blank}
use Rattle.publication.specs.List.{IsBounded, bound_of}
use Rattle.publication.specs.StepKinds.{Seated, copy_of, joined, learns}
use Rattle.publication.proofs.LaidDown.{joins_bounded}
use Rattle.publication.proofs.SplitsAndJoins.{joins_copy}
use Rattle.publication.proofs.Learning.{learn_kept}
use Rattle.publication.proofs.steps.heed_seat.Goals as goal

pub join_seat-requires : goal.join_seat-requires
join_seat-requires g c = let v = c.args.seat.now.me.0 in let copy = c.args.copy in let me = c.requires.copy in (
  search rules,
  search rules,
  ap (λ (m : Seated _ _ _). m.1) me,
  search rules,
  subst (λ (m : Seated _ _ _). Joins (IsBounded g.O.Sequential (bound_of g.O.Sequential.bound c.args.shared.now.key.object.items)) c.args.seat.now.id v copy.id m.0 (joined v m.0) blank) (sym me) (joins_bounded (joins_copy c.args.seat.now.id v copy.id (copy_of copy.me.0) refl refl refl refl (refl, refl))),
)

pub load-requires : goal.load-requires
load-requires g c = let m = c.args.seat.now.me in let w = c.args.copy.me.0 in let n = c.args.shared.now.table_id.slots in let id = c.join_seat.new.seat.id in
    let after : c.join_seat.new.seat.me ≡ (joined m.0 (copy_of w), m.1) = c.join_seat.ensures.2 ∙ ap (λ (x : Seated _ _ _). (joined m.0 x.0, m.1)) c.requires.copy in (
      search rules,
      search rules,
      subst (λ (x : Seated _ _ _). Allows (IsBounded g.O.Sequential (bound_of g.O.Sequential.bound c.args.shared.now.key.object.items)) n id x 0 (λ y. y) (learns g.O.Sequential (step n 0 0 0 opt.none) x)) (sym after) (learn_kept n id (joined m.0 (copy_of w)) m.1 c.requires.session g.met.O.Sequential.fronts),
    )
