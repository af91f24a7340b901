use Rattle.std.proofs.Common.{sym, ◌∙◌, arith}
use Rattle.lock_holders.proofs.EndedList.{first-placed}
use Rattle.lock_holders.proofs.woken_list.WokenList.new.Goals as goal

pub invariant_of-result : goal.invariant_of-result
invariant_of-result c =
    let k = c.loop-position.invariant in
    record {
      all = first-placed c.loop-position.all.items c.loop-position.places.items (k.long ∙ sym k.places_long) (λ i l. k.all i (omega (arith, l, k.long, k.places_long))) k.places;
      short = omega (arith, k.places_long, c.loop-position.places.small);
      few = omega arith;
    }
