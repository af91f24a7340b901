-- The locks of a session, and which of them are children of which.
use Rattle.std.specs.Prelude.{◌≡◌, ℕ, ◌≤◌, Bool, true, false, ◌&&◌, List, length}
use Rattle.std.specs.List.{list_any}
use Rattle.lock_tree.specs.Paths.{same_path, parent_of, has_parent}
use Rattle.session_locks.specs.Resources.{has_path, AreApart}

-- what contracts see of the locks of a session: the resources, and for how many more there is room
pub record LockList : Type 0 where
  pub items : List (List ℕ)
  pub room : ℕ

-- `q` is a child of `r`
abbrev pub is_child : List ℕ → List ℕ → Bool
is_child r q = has_parent q && same_path (parent_of q) r

-- one of the resources is a child of `r`
abbrev pub has_child : List ℕ → List (List ℕ) → Bool
has_child r rs = list_any (λ q. is_child r q) rs

-- if `q` has a parent, the parent is among the resources
abbrev pub IsUnder : List (List ℕ) → List ℕ → Type 0
IsUnder rs q = has_parent q ≡ true → has_path (parent_of q) rs ≡ true

-- `new` has the resources of `old` without `r`, none of them twice
pub record IsWithout (r : List ℕ) (old new : List (List ℕ)) : Type 0 where
  pub gone : has_path r new ≡ false
  pub others : (q : List ℕ) → same_path r q ≡ false → has_path q new ≡ has_path q old
  pub apart : AreApart new
  pub few : length new ≤ length old
