-- Internal to this crate, cited by no public contract: how many children of each of its locks a session holds.
use Rattle.std.specs.Prelude.{◌≡◌, ℕ, ◌+◌, ◌<◌, true, if◌then◌else◌, List, [], ◌∷◌, ◌++◌, map, length, slice_index_or}
use Rattle.session_locks.specs.declared.locks.HeldLock.{HeldLock}
use Rattle.session_locks.specs.Resources.{has_path}
use Rattle.session_locks.specs.LockLists.{is_child, IsUnder}

-- how many of the resources are children of `r`
abbrev pub children_of : List ℕ → List (List ℕ) → ℕ
children_of r [] = 0
children_of r (q ∷ rs) = (if is_child r q then 1 else 0) + children_of r rs

-- the numbers beside the locks count their children among the locks, and the parent of each lock is among them
pub record DoCount (rs : List (List ℕ)) (ns : List ℕ) : Type 0 where
  pub counts : (i : ℕ) → i < length rs → slice_index_or ns i 0 ≡ children_of (slice_index_or rs i []) rs
  pub under : (q : List ℕ) → has_path q rs ≡ true → IsUnder rs q

-- the parent of each of the second resources is among the first ones or earlier among the second
abbrev pub AreUnder : List (List ℕ) → List (List ℕ) → Type 0
AreUnder rs [] = Unit {0}
AreUnder rs (q ∷ qs) = IsUnder rs q × AreUnder (rs ++ q ∷ []) qs

-- the resources of the locks
abbrev pub resources_of : List HeldLock → List (List ℕ)
resources_of ls = map (λ l. l.resource) ls
