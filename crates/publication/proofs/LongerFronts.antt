-- The longer of two fronts of a history, and the larger of two heard counts at each index.
use Rattle.std.proofs.Common.{◌≡◌, ℕ, zero, suc, ◌≤◌, max, cond, true, false, List, [], ◌∷◌, length, get_or, refl, arith}
use Rattle.std.specs.Prelude.{nat_lt}
use Rattle.std.proofs.lemmas.Bool.{ltb-true, ltb-false}
use mathlib.Core.List.{IsPrefix}
use Rattle.sequential.specs.declared.entry.Entry.{Entry}
use Rattle.publication.specs.StepKinds.{maxes, longer}
use Rattle.publication.proofs.Lists.{prefix_self, prefix_both, prefix_whole}

module _ {C R : Type 0} where
  -- What holds of the longer of two fronts of one history.
  pub record IsLonger (f g h l : List (Entry C R)) : Type 0 where
    pub mine : IsPrefix f l
    pub theirs : IsPrefix g l
    pub begins : IsPrefix l h
    pub long : length l ≡ max (length f) (length g)

  -- The longer of two fronts of one history continues both and is a front of the history.
  pub is-longer : (f g h : List (Entry C R)) → IsPrefix f h → IsPrefix g h → IsLonger f g h (longer f g)
  is-longer f g h p q = (elim (nat_lt (length f) (length g)) as (λ b. nat_lt (length f) (length g) ≡ b → IsLonger f g h (cond b g f)) [
    | true ↦ λ e. let lt = ltb-true (length f) (length g) e in record { mine = prefix_both f g h p q (omega arith); theirs = prefix_self g; begins = q; long = omega arith }
    | false ↦ λ e. let le = ltb-false (length f) (length g) e in record { mine = prefix_self f; theirs = prefix_both g f h q p le; begins = p; long = omega arith }
  ]) refl

-- The larger counts have at each index the larger of both.
pub maxes-at : (xs ys : List ℕ) (j : ℕ) → get_or (maxes xs ys) j 0 ≡ max (get_or xs j 0) (get_or ys j 0)
maxes-at [] ys j = omega arith
maxes-at (x ∷ xs) [] j = omega arith
maxes-at (x ∷ xs) (y ∷ ys) zero = refl
maxes-at (x ∷ xs) (y ∷ ys) (suc j) = maxes-at xs ys j

-- The larger counts are at least as many as the first list has.
pub maxes-wide : (xs ys : List ℕ) → length xs ≤ length (maxes xs ys)
maxes-wide [] ys = omega arith
maxes-wide (x ∷ xs) [] = omega arith
maxes-wide (x ∷ xs) (y ∷ ys) = let t = maxes-wide xs ys in omega arith

module _ {C R : Type 0} where
  -- The longer front has the larger of both lengths.
  pub longer-length : (f g : List (Entry C R)) → length (longer f g) ≡ max (length f) (length g)
  longer-length f g = (elim (nat_lt (length f) (length g)) as (λ b. nat_lt (length f) (length g) ≡ b → length (cond b g f) ≡ max (length f) (length g)) [
    | true ↦ λ e. let lt = ltb-true (length f) (length g) e in omega arith
    | false ↦ λ e. let le = ltb-false (length f) (length g) e in omega arith
  ]) refl

-- No counts beside the first ones leave those as they are.
pub maxes-none : (xs : List ℕ) → maxes xs [] ≡ xs
maxes-none [] = refl
maxes-none (x ∷ xs) = refl

module _ {C R : Type 0} where
  -- A front that continues another is the longer of both.
  pub longer-is : (f g : List (Entry C R)) → IsPrefix f g → longer f g ≡ g
  longer-is f g p = (elim (nat_lt (length f) (length g)) as (λ b. nat_lt (length f) (length g) ≡ b → cond b g f ≡ g) [
    | true ↦ λ e. refl
    | false ↦ λ e. let le = ltb-false (length f) (length g) e in prefix_whole f g p le
  ]) refl
