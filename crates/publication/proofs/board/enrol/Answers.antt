use Rattle.std.proofs.Common.{rules, ◌≡◌, ◌∙◌, ◌+◌, [], refl, sym, ap, subst}
use mathlib.Core.Option as opt
use Rattle.atomic_table.specs.Table.{Allows, step}
use Rattle.publication.specs.Words.{word_of}
use Rattle.publication.specs.Rule.{maker, new_session}
use Rattle.publication.specs.List.{IsBounded, bound_of}
use Rattle.publication.specs.StepKinds.{Seated, starts, hearing}
use Rattle.publication.specs.declared.view.View.{View}
use Rattle.publication.proofs.SessionKinds.{start_kept}
use Rattle.publication.proofs.board.enrol.Goals as goal

pub load-requires : goal.load-requires
load-requires g c = let n = c.args.sessions in let number = c.args.number in let slots = c.args.shared.now.table_id.slots in let id = c.hear_seat.new.seat.id in
    let v : View _ _ = hearing (new_session (n + 1) number) (maker (n + 1) n) in
    let after : c.hear_seat.new.seat.me ≡ (v, []) = c.hear_seat.ensures.step ∙ (ap (λ (m : Seated _ _ _). (hearing m.0 c.args.first.now.me.0, m.1)) c.requires.new ∙ ap (λ (m : Seated _ _ _). (hearing (new_session (n + 1) number) m.0, [])) c.requires.made) in (
      search rules,
      search rules,
      rw c.from.ensures (λ state rule many seated short. let r = (subst (λ (m : Seated _ _ _). Allows (IsBounded g.O.Sequential (bound_of g.O.Sequential.bound c.args.shared.now.key.object.items)) slots id m (word_of number) (λ y. y) (starts (step slots (word_of number) 0 0 opt.none) m)) (sym after)
          (start_kept slots id number v [] refl c.requires.number.0 refl refl refl)) state rule many seated short in
          (r.0, r.1, r.2, r.3, (r.4, ap (λ (m : Seated _ _ _). m.0.own.pending) after))),
    )
