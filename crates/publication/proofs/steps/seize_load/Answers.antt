use Rattle.std.proofs.Common.{rules, ◌≡◌, ◌∷◌, ◌∙◌, ℕ, List, eqb, refl, sym, ap, subst}
use Rattle.sequential.specs.Bounds.{Bounds}
use mathlib.Core.Option as opt
use prog.Atomic.{either}
use Rattle.atomic_table.specs.Table.{Allows, step, rest}
use Rattle.publication.specs.Words.{FREE}
use Rattle.publication.specs.List.{IsBounded, bound_of}
use Rattle.publication.specs.StepKinds.{Seated, seizes_within}
use Rattle.publication.specs.declared.slot.SlotValue.{SlotValue}
use Rattle.publication.specs.declared.slot.SlotValue.TheVariants.{ObjectLoad}
use Rattle.publication.proofs.LockKinds.{seize_kept}
use Rattle.publication.proofs.steps.seize_load.Goals as goal

pub compare_exchange-found-requires : goal.compare_exchange-found-requires
compare_exchange-found-requires g c =
    let seat = c.is_free.new.seat in
    let mine : seat.me.0.number ≡ c.args.number = ap (λ (m : Seated _ _ _). m.0.number) c.is_free.ensures.same ∙ c.requires.mine.0 in
    let n = c.args.shared.now.table_id.slots in
    let bound = bound_of g.O.Sequential.bound c.args.shared.now.key.object.items in (
      search rules,
      search rules,
      (λ state rule many seated short. let r = (subst (λ (b : Bounds). Allows (IsBounded g.O.Sequential bound) n seat.id seat.me 0 (λ k. either (eqb k FREE) c.args.number k) (seizes_within g.O.Sequential b (step n 0 FREE c.args.number opt.none) seat.me)) (sym c.requires.named)
          (seize_kept n seat.id c.args.number seat.me.0 seat.me.1 mine c.requires.mine.1)) state rule many seated short in (r.0, r.1, r.2, r.3, (r.4, refl))),
    )

pub exchange-requires : goal.exchange-requires
exchange-requires g c =
    let m = c.is_free.new.seat.me in
    let t = c.compare_exchange-found.ensures.2.0.0.0 (search rules) in
    let held : SlotValue _ _ _ = ObjectLoad t.0 in
    let out : c.compare_exchange-found.new.seat.me.1 ≡ (0, held) ∷ m.1 = ap (λ (x : Seated _ _ _). x.1) t.1 in
    (search rules, (held, out ∙ ap (λ (l : List (ℕ × SlotValue _ _ _)). (0, held) ∷ rest l) (sym out)))
