-- Facts about the value at a handle's pointer.
use Rattle.std.proofs.Common.{◌≡◌, Option, Some, None, IsSome, refl}
use base.Shift.{Keyless}
use mir.Raw.{raw}
use denote.Memory.{lone}
use denote.Param.Send.{IsSend}
use denote.RattleType.{RattleType}
use denote.RawPtr.{Ptr}
use Rattle.std.proofs.Crossing as heap
use Rattle.std_alloc.proofs.SendSync.{lies}
use Rattle.std.specs.declared.alloc.Global.{Global}
use Rattle.std.specs.contracts.impls.GlobalAllocator.TheImpl.{ghosts}
use Rattle.library_books.specs.inner.Held.{box_at}

-- a full option has a value
pub value_in : {X : Type 0} (o : Option X) → IsSome o → (x : X) × (o ≡ Some x)
value_in None full = absurd (cc full)
value_in (Some x) full = (x, refl)

-- what a pointer owns may go to another thread if its type may
pub box_keyless : (R : RattleType) → IsSend R → (alloc : Global) (p : Ptr) (o : Option R.Denot) → Keyless (box_at (ghosts.dealloc_token alloc) R p o)
box_keyless R sent alloc p None = tt
box_keyless R sent alloc p (Some x) = (lies R sent p x, heap.frees.frees alloc (raw (lone R.mir)) p)
