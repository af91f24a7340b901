use Rattle.std.proofs.Common.{rules, ◌≡◌, ◌∷◌, ◌++◌, ◌∙◌, ◌+◌, ℕ, List, [], length, length-append, sym, ap, subst, arith}
use Rattle.atomic_table.specs.Table.{Splits}
use Rattle.atomic_table.specs.declared.shared.Seat.{Seat}
use Rattle.publication.specs.Rule.{maker, new_session}
use Rattle.publication.specs.List.{IsBounded, bound_of}
use Rattle.publication.specs.StepKinds.{Seated}
use Rattle.publication.specs.inner.Tickets.{AreNewSeats}
use Rattle.publication.specs.declared.view.View.{View}
use Rattle.publication.specs.declared.slot.SlotValue.{SlotValue}
use Rattle.publication.proofs.NewBoards.{enrols}
use Rattle.publication.proofs.LaidDown.{splits_bounded}
use Rattle.publication.proofs.Gathering.{each_pushed}
use Rattle.publication.proofs.new_board.split_all.Goals as goal

pub split_seat-requires : goal.split_seat-requires
split_seat-requires g c = let first = c.loop-made.first in let i = c.loop-made.invariant in let n = c.args.sessions in (
  search rules,
  search rules,
  subst (λ (v : View _ _). Splits (IsBounded g.O.Sequential (bound_of g.O.Sequential.bound c.args.shared.now.key.object.items)) first.id v (maker v.slots (v.made + 1)) (new_session v.slots (v.made + 1))) (sym (ap (λ (m : Seated _ _ _). m.0) i.2)) (splits_bounded (enrols first.id (n + 1) c.loop-made._made i.1 (omega (arith, c.loop-made-test.true)))),
)

pub loop-made-preserved : goal.loop-made-preserved
loop-made-preserved g c = let i = c.loop-made.invariant in let n = c.args.sessions in let made = c.loop-made._made in let seat = c.split_seat.result in let seats = c.loop-made.seats.items in
    let new : seat.me ≡ (new_session (n + 1) (made + 1), []) = c.split_seat.ensures.4 ∙ ap (λ (m : Seated _ _ _). (new_session m.0.slots (m.0.made + 1), [])) i.2 in
    let pushed : c.push.new.self.items ≡ seats ++ seat ∷ [] = search rules in (
      search rules,
      search rules,
      c.split_seat.ensures.2 ∙ ap (λ (m : Seated _ _ _). (maker m.0.slots (m.0.made + 1), m.1)) i.2,
      omega (arith, i.3, ap (λ (l : List (Seat (SlotValue _ _ _) (View _ _))). length l) pushed, length-append seats (seat ∷ [])),
      subst (AreNewSeats c.args.shared.now.table_id (n + 1)) (sym pushed)
          (each_pushed (λ k (s : Seat (SlotValue _ _ _) (View _ _)). (s.table_id ≡ c.args.shared.now.table_id) × (s.me ≡ (new_session (n + 1) (k + 1), []))) seats seat i.4 (search rules, subst (λ (k : ℕ). seat.me ≡ (new_session (n + 1) (k + 1), [])) (sym i.3) new)),
    )
