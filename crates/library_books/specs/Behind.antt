-- What lies behind pointers of C that may be null.
use Rattle.std.specs.Prelude.{◌≡◌, ◌<◌, ◌*◌, ◌^◌, ℕ, zero, suc, List, []}
use base.Fraction.{full_share}
use base.Fml.{Share, Fml, ftrue, fsep, fex, feq, flt}
use denote.Array.{Array}
use denote.Memory.{mem}
use denote.RattleType.{RattleType}
use denote.RawPtr.{Ptr, block_ptr, null_ptr, lies_at}

-- the value x lies at the pointer, or the pointer is null
abbrev pub maybe_at : (R : RattleType) → Ptr → R.Denot → Fml
maybe_at R (block_ptr b o) x = lies_at R full_share (block_ptr b o) x
maybe_at R null_ptr x = ftrue

-- a share of the value x lies at the pointer, or the pointer is null
abbrev pub maybe_shared : (R : RattleType) → Ptr → R.Denot → Fml
maybe_shared R (block_ptr b o) x = fex Share (λ q. lies_at R q (block_ptr b o) x)
maybe_shared R null_ptr x = ftrue

-- n items lie at the pointer, in fewer than 2^63 bytes; at null there are none
abbrev pub items_at : (R : RattleType) → ℕ → Ptr → List R.Denot → Fml
items_at R n (block_ptr b o) xs = fsep (flt (n * (mem R).size) (2 ^ 63)) (lies_at (Array R n) full_share (block_ptr b o) xs)
items_at R n null_ptr xs = feq (List R.Denot) xs []

-- the same, but any pointer will do for no items
abbrev pub list_at : (R : RattleType) → ℕ → Ptr → List R.Denot → Fml
list_at R zero p xs = feq (List R.Denot) xs []
list_at R (suc n) p xs = items_at R (suc n) p xs

-- n items should lie at the pointer, and it is null
abbrev pub IsNullList : Ptr → ℕ → Type 0
IsNullList p n = (p ≡ null_ptr) × (0 < n)
