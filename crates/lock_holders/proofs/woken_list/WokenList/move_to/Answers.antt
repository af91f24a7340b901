use Rattle.std.proofs.Common.{length, set, ap, arith}
use Rattle.std.proofs.lemmas.List.{length-set}
use Rattle.lock_holders.specs.Woken.{WokenListView}
use Rattle.lock_holders.proofs.EndedList.{moved-by}
use Rattle.lock_holders.proofs.woken_list.WokenList.move_to.Goals as goal

pub invariant_of-self : goal.invariant_of-self
invariant_of-self c =
    let k = c.self.invariant in
    let ss = c.self.inside.sessions.items in
    let ps = c.self.inside.places.items in
    let size = ap (λ (v : WokenListView). length v.places) c.self.view_is in
    let written = set ps c.position_of.result c.index-from.result.now in
    record {
      all = moved-by ss ps k.all c.args.session c.args.place c.position_of-position.result c.index-from.result.now c.index-other.result.now c.position_of.result
          c.requires.some (omega (arith, size, c.requires.within)) (omega (arith, size, c.requires.place)) c.position_of-position.ensures c.index-from.ensures c.index-other.ensures c.position_of.ensures;
      short = omega (arith, k.short, length-set written c.position_of-position.result c.args.place, length-set ps c.position_of.result c.index-from.result.now);
      few = omega (arith, k.few, length-set written c.position_of-position.result c.args.place, length-set ps c.position_of.result c.index-from.result.now);
    }
