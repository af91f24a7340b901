-- A resource is the list of the numbers on its path down the lock tree, from the top.
use Rattle.std.specs.Prelude.{◌≡◌, ◌++◌, ℕ, ◌<◌, ◌≤◌, ◌^◌, Bool, true, false, ◌&&◌, ◌==◌, List, [], ◌∷◌, length, All}
use Rattle.std.specs.declared.cmp.Ordering.{Ordering}
use Rattle.std.specs.Ordering.{nat_cmp}
use Rattle.std.specs.Cmp.Lexicographic.{slice_cmp}
use Rattle.lock_tree.specs.declared.levels.TheConstants.{LEVELS}

-- the list has 1 to LEVELS numbers of 32 bits
pub record IsResource (r : List ℕ) : Type 0 where
  pub some : 0 < length r
  pub few : length r ≤ LEVELS
  pub small : All (λ n. n < 2 ^ 32) r

-- the two resources are the same
abbrev pub same_path : List ℕ → List ℕ → Bool
same_path [] [] = true
same_path [] (y ∷ ys) = false
same_path (x ∷ xs) [] = false
same_path (x ∷ xs) (y ∷ ys) = (x == y) && same_path xs ys

-- the order of resources: number by number, a prefix before what continues it
abbrev pub path_cmp : List ℕ → List ℕ → Ordering
path_cmp a b = slice_cmp nat_cmp a b

-- the second list begins with the first and is longer
abbrev pub is_proper_prefix : List ℕ → List ℕ → Bool
is_proper_prefix [] [] = false
is_proper_prefix [] (y ∷ ys) = true
is_proper_prefix (x ∷ xs) [] = false
is_proper_prefix (x ∷ xs) (y ∷ ys) = (x == y) && is_proper_prefix xs ys

-- the first resource is an ancestor of the second: a nonempty proper prefix
abbrev pub is_ancestor : List ℕ → List ℕ → Bool
is_ancestor [] r = false
is_ancestor (x ∷ xs) r = is_proper_prefix (x ∷ xs) r

-- the parent: all numbers but the last
abbrev pub parent_of : List ℕ → List ℕ
parent_of [] = []
parent_of (x ∷ []) = []
parent_of (x ∷ y ∷ ys) = x ∷ parent_of (y ∷ ys)

-- the resource has two or more numbers
abbrev pub has_parent : List ℕ → Bool
has_parent [] = false
has_parent (x ∷ []) = false
has_parent (x ∷ y ∷ ys) = true

-- a is nonempty, and r is a followed by one or more numbers
abbrev pub IsAncestor : List ℕ → List ℕ → Type 0
IsAncestor a r = (0 < length a) × ((rest : List ℕ) × (0 < length rest) × (r ≡ a ++ rest))

-- a is an ancestor of r, and no ancestor of r is longer
pub record IsLongestAncestor (a r : List ℕ) : Type 0 where
  pub ancestor : IsAncestor a r
  pub longest : (b : List ℕ) → IsAncestor b r → length b ≤ length a
