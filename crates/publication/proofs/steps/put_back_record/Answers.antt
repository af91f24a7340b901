use Rattle.std.proofs.Common.{rules, refl, sym, ap, subst}
use mathlib.Core.Option as opt
use Rattle.atomic_table.specs.Table.{Allows, step}
use Rattle.publication.specs.Words.{word_of, POSTED}
use Rattle.publication.specs.List.{IsBounded, bound_of}
use Rattle.publication.specs.StepKinds.{Seated, puts_back, in_hand}
use Rattle.publication.specs.declared.slot.SlotValue.{SlotValue}
use Rattle.publication.specs.declared.slot.SlotValue.TheVariants.{PostedCall}
use Rattle.publication.proofs.RecordKinds.{in_hand_with, pick_kept, put_back_kept}
use Rattle.publication.proofs.Lists.{there_at}
use Rattle.publication.proofs.steps.put_back_record.Goals as goal

pub load-requires : goal.load-requires
load-requires g c =
    let m = c.args.seat.now.me in
    let at = c.args.at in
    let mine = c.requires.mine in
    let there = there_at m.0.combiner.opened at c.args.call c.requires.opened in
    (search rules, search rules, (λ state rule many seated short. let r = (pick_kept c.args.shared.now.table_id.slots c.args.seat.now.id m.0 mine.session mine.object at c.requires.at.some c.requires.at.there c.args.call there m.1 mine.empty) state rule many seated short in (r.0, r.1, r.2, r.3, (r.4, mine.object))))

-- The names are the same as for `answer_record`; the goals differ.
pub store-requires : goal.store-requires
store-requires g c =
    let m = c.args.seat.now.me in
    let at = c.args.at in
    let slots = c.args.shared.now.table_id.slots in
    let id = c.exchange.new.seat.id in
    let held : SlotValue _ _ _ = PostedCall c.args.call in
    let there = there_at m.0.combiner.opened at c.args.call c.requires.opened in
    let after = in_hand_with at m c.load.new.seat.me c.exchange.new.seat.me held c.load.ensures.2.0 c.exchange.ensures.3 in (
      search rules,
      search rules,
      (λ state rule many seated short. let r = (subst (λ (x : Seated _ _ _). Allows (IsBounded g.O.Sequential (bound_of g.O.Sequential.bound c.args.shared.now.key.object.items)) slots id x (word_of at) (λ _. POSTED) (λ _. puts_back (step slots (word_of at) POSTED 0 opt.none) x POSTED)) (sym after)
          (put_back_kept slots id (in_hand m.0 at) c.requires.mine.session refl at c.requires.at.some c.requires.at.there c.args.call there m.1 refl)) state rule many seated short in (r.0, r.1, r.2, r.3, (r.4, (ap (λ (x : Seated _ _ _). x.0.combiner.has_object) after)))),
    )
