use Rattle.std.proofs.Common.{◌≡◌, ℕ, ◌+◌, ◌<◌, length, get_or}
use Rattle.lock_holders.proofs.woken_list.WokenList.new.Given as goal

abbrev pub invariant-loop-position : goal.invariant-loop-position
invariant-loop-position l = record {
  long : length l.all.items ≡ l.position;
  places_long : length l.places.items ≡ l.position;
  all : (i : ℕ) → i < length l.all.items → get_or l.all.items i 0 ≡ i + 1;
  places : (i : ℕ) → i < length l.places.items → get_or l.places.items i 0 ≡ i;
}
