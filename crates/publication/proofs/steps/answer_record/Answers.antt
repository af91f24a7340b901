use Rattle.std.proofs.Common.{rules, ◌≡◌, ◌∙◌, true, Some, refl, sym, ap, subst, arith}
use mathlib.Core.Option as opt
use Rattle.atomic_table.specs.Table.{Allows, step, rest}
use Rattle.publication.specs.Words.{word_of, SERVED}
use Rattle.publication.specs.List.{IsBounded, bound_of}
use Rattle.publication.specs.StepKinds.{Seated, answers, call_at, opened_in, replied, in_hand, answering}
use Rattle.publication.specs.declared.slot.SlotValue.{SlotValue}
use Rattle.publication.specs.declared.slot.SlotValue.TheVariants.{ServedReply}
use Rattle.publication.proofs.RecordKinds.{in_hand_with, pick_kept, answer_kept}
use Rattle.publication.proofs.Lists.{there_at}
use Rattle.publication.proofs.steps.answer_record.Goals as goal

pub load-requires : goal.load-requires
load-requires g c =
    let m = c.args.seat.now.me in
    let at = c.args.at in
    let mine = c.requires.mine in
    let there = there_at m.0.combiner.opened at (call_at g.O.Sequential m.0 at) c.requires.opened in
    (search rules, search rules, (λ state rule many seated short. let r = (pick_kept c.args.shared.now.table_id.slots c.args.seat.now.id m.0 mine.session mine.object at c.requires.at.some c.requires.at.there (call_at g.O.Sequential m.0 at) there m.1 mine.empty) state rule many seated short in (r.0, r.1, r.2, r.3, (r.4, mine.object))))

pub store-requires : goal.store-requires
store-requires g c =
    let m = c.args.seat.now.me in
    let at = c.args.at in
    let slots = c.args.shared.now.table_id.slots in
    let id = c.exchange.new.seat.id in
    let held : SlotValue _ _ _ = ServedReply c.args.place c.args.reply in
    let there = there_at m.0.combiner.opened at (call_at g.O.Sequential m.0 at) c.requires.opened in
    let after = in_hand_with at m c.load.new.seat.me c.exchange.new.seat.me held c.load.ensures.2.0 c.exchange.ensures.3 in (
      search rules,
      search rules,
      (λ state rule many seated short. let r = (subst (λ (x : Seated _ _ _). Allows (IsBounded g.O.Sequential (bound_of g.O.Sequential.bound c.args.shared.now.key.object.items)) slots id x (word_of at) (λ _. SERVED) (λ _. answers g.O.Sequential (step slots (word_of at) SERVED 0 opt.none) x SERVED)) (sym after)
          (answer_kept slots id (in_hand m.0 at) c.requires.mine.session refl at c.requires.at.some c.requires.at.there (call_at g.O.Sequential m.0 at) there m.1 c.args.place c.args.reply refl
          c.requires.place.0 c.requires.legal (omega (arith, c.requires.place.0, c.requires.place.1)))) state rule many seated short in (r.0, r.1, r.2, r.3, (r.4, (subst (λ (x : Seated _ _ _). (x.0.combiner.has_object ≡ true) × ((call : _) × (opened_in x.0 x.0.combiner.hand ≡ Some call))) (sym after) (refl, (call_at g.O.Sequential m.0 at, c.requires.opened)))))),
    )

pub returns-clause-step : goal.returns-clause-step
returns-clause-step g c =
    let m = c.args.seat.now.me in
    let at = c.args.at in
    let held : SlotValue _ _ _ = ServedReply c.args.place c.args.reply in
    let after = in_hand_with at m c.load.new.seat.me c.exchange.new.seat.me held c.load.ensures.2.0 c.exchange.ensures.3 in
    c.store.ensures.2.0.0 ∙ ap (λ (x : Seated _ _ _). (answering x.0 x.0.combiner.hand (call_at g.O.Sequential x.0 x.0.combiner.hand) (replied g.O.Sequential x.1), rest x.1)) after
