use Rattle.std.proofs.Common.{rules, refl, ◌≡◌, ◌∙◌, List, length, sym, arith}
use Rattle.std.specs.Slots.{slots_items, slots_filled, slots_len}
use mathlib.Core.Option as opt
use Rattle.publication.specs.declared.slot.SlotValue.{SlotValue}
use Rattle.publication.specs.declared.slot.SlotValue.TheVariants.{ObjectLoad}
use Rattle.publication.proofs.Cleared.{emptied-next}
use Rattle.publication.proofs.Closed.{ended, last_load}
use Rattle.publication.proofs.closing.close_table.Goals as goal

pub loop-i-init : goal.loop-i-init
loop-i-init g c =
    let o = c.take-held.ensures.others in
    let t = emptied-next (slots_filled c.close_with-closed.result.slots) (slots_filled c.take-held.new.self.slots) (slots_len c.take-held.new.self.slots) 0
    (record { empty = λ k h. absurd (omega arith); full = λ k a b. c.close_with-closed.ensures.values.1 k a (omega (arith, b, o.2)) }) o.1 in
    (refl, refl, t.empty, t.full)

pub loop-i-preserved : goal.loop-i-preserved
loop-i-preserved g c =
    let o = c.take.ensures.others in
    let w = c.loop-i.invariant in
    let t = emptied-next (slots_filled c.loop-i.closed.slots) (slots_filled c.take.new.self.slots) (slots_len c.take.new.self.slots) c.loop-i.i
    (record { empty = w.2; full = λ k a b. w.3 k a (omega (arith, b, o.2)) }) o.1 in
    (o.0 ∙ w.0, o.2 ∙ w.1, t.empty, t.full)

pub unreachable-requires : goal.unreachable-requires
unreachable-requires g c =
    let closed = c.close_with-closed in
    let xs : List (SlotValue _ _ _) = slots_items closed.result.slots in
    let long : length xs ≡ c.args.table.shared.table_id.slots = search rules in
    let t = ended _ xs c.args.closing.id c.args.table.shared.table_id.slots c.args.closing.me.0 closed.ensures.values.2 long c.requires.all in
    c.in_default.not-ObjectLoad t.0 (opt.some-injective c.take-held.result (ObjectLoad t.0) (sym c.take-held.ensures.value ∙ t.1))

pub returns-clause-sessions : goal.returns-clause-sessions
returns-clause-sessions g c =
    let closed = c.close_with-closed in
    let xs : List (SlotValue _ _ _) = slots_items closed.result.slots in
    let long : length xs ≡ c.args.table.shared.table_id.slots = search rules in
    (last_load _ xs c.args.closing.id c.args.table.shared.table_id.slots c.args.closing.me.0 closed.ensures.values.2 long c.requires.all
    c.take-held.result c.take-held.ensures.value c.in-ObjectLoad.load c.in-ObjectLoad.is c.into_inner-object.result c.into_inner-object.ensures).last.home.sessions

pub returns-clause-bound : goal.returns-clause-bound
returns-clause-bound g c =
    let closed = c.close_with-closed in
    let xs : List (SlotValue _ _ _) = slots_items closed.result.slots in
    let long : length xs ≡ c.args.table.shared.table_id.slots = search rules in
    (last_load _ xs c.args.closing.id c.args.table.shared.table_id.slots c.args.closing.me.0 closed.ensures.values.2 long c.requires.all
    c.take-held.result c.take-held.ensures.value c.in-ObjectLoad.load c.in-ObjectLoad.is c.into_inner-object.result c.into_inner-object.ensures).within

pub returns-clause-legal : goal.returns-clause-legal
returns-clause-legal g c =
    let closed = c.close_with-closed in
    let xs : List (SlotValue _ _ _) = slots_items closed.result.slots in
    let long : length xs ≡ c.args.table.shared.table_id.slots = search rules in
    (last_load _ xs c.args.closing.id c.args.table.shared.table_id.slots c.args.closing.me.0 closed.ensures.values.2 long c.requires.all
    c.take-held.result c.take-held.ensures.value c.in-ObjectLoad.load c.in-ObjectLoad.is c.into_inner-object.result c.into_inner-object.ensures).last.legal

pub returns-clause-ends : goal.returns-clause-ends
returns-clause-ends g c =
    let closed = c.close_with-closed in
    let xs : List (SlotValue _ _ _) = slots_items closed.result.slots in
    let long : length xs ≡ c.args.table.shared.table_id.slots = search rules in
    (last_load _ xs c.args.closing.id c.args.table.shared.table_id.slots c.args.closing.me.0 closed.ensures.values.2 long c.requires.all
    c.take-held.result c.take-held.ensures.value c.in-ObjectLoad.load c.in-ObjectLoad.is c.into_inner-object.result c.into_inner-object.ensures).last.ends

pub returns-clause-pieces : goal.returns-clause-pieces
returns-clause-pieces g c =
    let closed = c.close_with-closed in
    let xs : List (SlotValue _ _ _) = slots_items closed.result.slots in
    let slots = c.args.table.shared.table_id.slots in
    let long : length xs ≡ slots = search rules in
    let load = c.into_inner-object.result in
    let last = (last_load _ xs c.args.closing.id slots c.args.closing.me.0 closed.ensures.values.2 long c.requires.all
    c.take-held.result c.take-held.ensures.value c.in-ObjectLoad.load c.in-ObjectLoad.is load c.into_inner-object.ensures).last in
    record {
      all = load.pieces.items;
      within = λ k d few. let w = last.within k d few in (omega (arith, w.0), omega (arith, w.1, last.home.sessions));
      each = last.pieces;
      in_order = last.home.pieces;
      in_a_row = last.home.in_a_row;
    }
