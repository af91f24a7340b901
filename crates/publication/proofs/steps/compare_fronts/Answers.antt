use Rattle.std.proofs.Common.{rules, ◌≡◌, ◌||◌, ◌∙◌, ℕ, true, List, [], refl, sym, ap, subst}
use Rattle.atomic_table.specs.Table.{Joins}
use Rattle.sequential.specs.declared.entry.Entry.{Entry}
use Rattle.publication.specs.Views.{IsAccountedIn}
use Rattle.publication.specs.Rule.{blank}
use Rattle.publication.specs.List.{IsBounded, bound_of}
use Rattle.publication.specs.StepKinds.{Seated, as_hearer, front_copy_of, joined, longer, comparing}
use Rattle.publication.specs.declared.view.View.{View}
use Rattle.publication.specs.declared.slot.SlotValue.{SlotValue}
use Rattle.publication.proofs.LongerFronts.{maxes-none, longer-is}
use Rattle.publication.proofs.LaidDown.{splits_bounded, joins_bounded}
use Rattle.publication.proofs.SplitsAndJoins.{splits_front, joins_copy}
use Rattle.publication.proofs.Learning.{compare_kept}
use Rattle.publication.proofs.steps.compare_fronts.Goals as goal

module _ {C R : Type 0} where
  -- Joining a copy of a front alone notes the front, and nothing else.
  notes : (v w : View C R) → joined v (front_copy_of w) ≡ comparing v w
  notes v w = ap (λ (hs : List ℕ). as_hearer v v.front hs (record { all_made = v.others.all_made || true; beside = w.front; handed = v.others.handed; logs = v.others.logs })) (maxes-none v.heard)

pub split_seat-copy-requires : goal.split_seat-copy-requires
split_seat-copy-requires g c = (search rules, search rules, splits_bounded (splits_front c.args.other.now.id c.args.other.now.me.0 c.requires.made))

pub join_seat-requires : goal.join_seat-requires
join_seat-requires g c = let v = c.args.seat.now.me.0 in let w = c.args.other.now.me.0 in let copy = c.split_seat-copy.result in let me : copy.me ≡ (front_copy_of w, []) = search rules in (
  search rules,
  search rules,
  ap (λ (m : Seated _ _ _). m.1) me,
  search rules,
  subst (λ (m : Seated _ _ _). Joins (IsBounded g.O.Sequential (bound_of g.O.Sequential.bound c.args.shared.now.key.object.items)) c.args.seat.now.id v copy.id m.0 (joined v m.0) blank) (sym me) (joins_bounded (joins_copy c.args.seat.now.id v copy.id (front_copy_of w) refl refl refl refl (refl, refl))),
)

pub load-requires : goal.load-requires
load-requires g c = let m = c.join_seat.new.seat.me in let n = c.args.shared.now.table_id.slots in let id = c.join_seat.new.seat.id in
    (search rules, search rules, compare_kept n id m.0 m.1 (search rules))

module _ {O C R : Type 0} where
  -- The seat after the join.
  joined-as : (v w : View C R) (l : List (ℕ × SlotValue O C R)) (copy x : Seated O C R) → copy ≡ (front_copy_of w, []) → x ≡ (joined v copy.0, l) → x ≡ (comparing v w, l)
  joined-as v w l copy x is e = e ∙ (ap (λ (m : Seated O C R). (joined v m.0, l)) is ∙ ap (λ (u : View C R). (u, l)) (notes v w))

pub returns-clause-step : goal.returns-clause-step
returns-clause-step g c = let v = c.args.seat.now.me.0 in let w = c.args.other.now.me.0 in
    c.load.ensures.2.0 ∙ joined-as v w c.args.seat.now.me.1 c.split_seat-copy.result.me c.join_seat.new.seat.me (search rules) c.join_seat.ensures.2

pub returns-clause-accounted : goal.returns-clause-accounted
returns-clause-accounted g c = let v = c.args.seat.now.me.0 in let w = c.args.other.now.me.0 in
    let after = joined-as v w c.args.seat.now.me.1 c.split_seat-copy.result.me c.join_seat.new.seat.me (search rules) c.join_seat.ensures.2 in
    let shown = subst (λ (x : Seated _ _ _). IsAccountedIn x.0.front x.0.number x.0.own.collected x.0.own.pending → IsAccountedIn (longer x.0.front x.0.others.beside) x.0.number x.0.own.collected x.0.own.pending) after c.load.ensures.2.1 in
    subst (λ (f : List (Entry _ _)). IsAccountedIn f v.number v.own.collected v.own.pending) (longer-is v.front w.front c.requires.longer) (shown c.requires.accounted)
