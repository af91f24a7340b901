-- How the fields of a resource hold its numbers.
use Rattle.std.specs.Prelude.{◌≡◌, ℕ, ◌-◌, ◌<◌, ◌≤◌, ◌^◌, List, ◌++◌, length, take, drop, replicate, All}
use Rattle.std.proofs.Common.{sym, ap, ◌∙◌, arith, length-take}
use Rattle.std.proofs.lemmas.List.{take-append-drop}
use Rattle.lock_tree.specs.declared.levels.TheConstants.{LEVELS}
use Rattle.lock_tree.specs.declared.resource.Resource.TheInside.{Inside}

-- the numbers of a resource: the first `level` of the field
abbrev pub path_of : Inside → List ℕ
path_of a = take a.level a.numbers

-- the level is from 1 to LEVELS, and the numbers past it are 0
pub record ArePadded (a : Inside) : Type 0 where
  pub rest : drop a.level a.numbers ≡ replicate (LEVELS - a.level) 0
  pub full : length a.numbers ≡ LEVELS
  pub some : 0 < a.level
  pub few : a.level ≤ LEVELS
  pub small : All (λ n. n < 2 ^ 32) a.numbers

-- the fields that hold these numbers, padded with 0
abbrev pub fields_of : List ℕ → Inside
fields_of xs = record { numbers = xs ++ replicate (LEVELS - length xs) 0; level = length xs }

-- the fields hold the numbers and nothing else
pub fields_again : (a : Inside) → ArePadded a → fields_of (path_of a) ≡ a
fields_again a h =
    let n : length (take a.level a.numbers) ≡ a.level = length-take a.level a.numbers ∙ omega (arith, h.few, h.full) in
    let rest : take a.level a.numbers ++ replicate (LEVELS - length (take a.level a.numbers)) 0 ≡ a.numbers = rw n (ap (λ ys. take a.level a.numbers ++ ys) (sym h.rest) ∙ take-append-drop a.level a.numbers) in
    λ i. record { numbers = rest i; level = n i }
