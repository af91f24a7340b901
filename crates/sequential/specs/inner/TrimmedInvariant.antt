-- Internal to this crate, cited by no public contract: the invariant of a trimmed list.
use Rattle.std.specs.Prelude.{◌≡◌, ◌≤◌, ◌-◌, length, drop, vec_len, vec_capacity}
use Rattle.sequential.specs.Kept.{first_kept}
use Rattle.sequential.specs.TrimmedView.{TrimmedView}
use Rattle.sequential.specs.declared.trimmed_list.TheConstants.{MOST_DROPPED}
use Rattle.sequential.specs.declared.trimmed_list.TrimmedList.TheInside.{Inside}

-- what contracts see
abbrev pub view_of : {T : Type 0} → Inside T → TrimmedView T
view_of a = record { items = a.all.items; cut = a.cut; bound = a.bound; room = vec_capacity a.tail - vec_len a.tail }

-- the tail has the items that weren't dropped, and all that are kept are among them
pub record HasTail {T : Type 0} (a : Inside T) : Type 0 where
  pub tail : a.tail.items ≡ drop a.dropped a.all.items
  pub within : a.dropped ≤ length a.all.items
  pub few : a.dropped ≤ MOST_DROPPED
  pub cut : a.cut ≤ length a.all.items
  pub dropped : a.dropped ≤ first_kept a.cut a.bound (length a.all.items)
