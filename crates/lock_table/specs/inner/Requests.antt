-- The waiting request of a session, and what holds of it and of the locks
-- of the session.
use Rattle.std.specs.Prelude.{◌≡◌, ℕ, Bool, true, false, not, if◌then◌else◌, List, Option, Some, None}
use Rattle.std.specs.Coded.{Unit-prop, Coded-set, coded_bool}
use Rattle.lock_table.specs.declared.lockers.LockRequest.{LockRequest}
use Rattle.lock_table.specs.declared.lockers.LockRequest.TheVariants.{Fresh, Conversion}
use Rattle.session_locks.specs.Resources.{has_path}
use Rattle.lock_tree.specs.Paths.{parent_of}
use Rattle.session_locks.specs.LockLists.{IsUnder}

-- the resource of a request
abbrev pub resource_asked : LockRequest → List ℕ
resource_asked (Fresh r) = r
resource_asked (Conversion r) = r

-- the resource of the request, if there is one
abbrev pub wanted_in : Option LockRequest → Option (List ℕ)
wanted_in None = None
wanted_in (Some q) = Some (resource_asked q)

-- there is a request, and it is no conversion
abbrev pub is_fresh : Option LockRequest → Bool
is_fresh None = false
is_fresh (Some (Fresh r)) = true
is_fresh (Some (Conversion r)) = false

-- the number of locks that the grant of the request adds: 1 for a fresh request, 0 for a conversion or none
abbrev pub locks_to_come : Option LockRequest → ℕ
locks_to_come o = if is_fresh o then 1 else 0

-- a fresh request is for a resource that the session doesn't hold, a conversion for one that it holds
abbrev pub IsOfKind : Option LockRequest → List (List ℕ) → Type 0
IsOfKind None rs = Unit {0}
IsOfKind (Some q) rs = has_path (resource_asked q) rs ≡ not (is_fresh (Some q))

-- the session holds the parent of the resource of a fresh request
abbrev pub IsComingUnder : Option LockRequest → List (List ℕ) → Type 0
IsComingUnder None rs = Unit {0}
IsComingUnder (Some (Fresh q)) rs = IsUnder rs q
IsComingUnder (Some (Conversion q)) rs = Unit {0}

-- each has at most one proof, which a fact that a struct keeps must have
pub IsOfKind-prop : (o : Option LockRequest) (rs : List (List ℕ)) → IsProp (IsOfKind o rs)
IsOfKind-prop None rs = Unit-prop
IsOfKind-prop (Some q) rs = Coded-set coded_bool (has_path (resource_asked q) rs) (not (is_fresh (Some q)))

pub IsComingUnder-prop : (o : Option LockRequest) (rs : List (List ℕ)) → IsProp (IsComingUnder o rs)
IsComingUnder-prop None rs = Unit-prop
IsComingUnder-prop (Some (Fresh q)) rs = λ x y i h. Coded-set coded_bool (has_path (parent_of q) rs) true (x h) (y h) i
IsComingUnder-prop (Some (Conversion q)) rs = Unit-prop
