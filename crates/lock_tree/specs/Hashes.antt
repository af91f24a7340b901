-- What a resource feeds to a hasher.
use Rattle.std.specs.Prelude.{◌≡◌, ℕ, ◌+◌, ◌*◌, ◌-◌, ◌^◌, ◌/◌, true, ◌&&◌, ◌==◌, List, ◌++◌, length, take, map, replicate, slice_index}
use Rattle.std.specs.List.{flat_map, range_with_len}
use Rattle.std.specs.Hash as fed
use Rattle.std.specs.Cmp.{first_so, second_so}
use Rattle.std.specs.Cmp.Lexicographic.{pointwise, pointwise_decides}
use Rattle.std.proofs.Common.{sym, ap, ◌∙◌}
use Rattle.std.proofs.Math.Seq.{take-append_seam}
use Rattle.std.proofs.lemmas.Bool.Decides.{Decides-eqb}
use Rattle.lock_tree.specs.declared.levels.TheConstants.{LEVELS}

-- two numbers in one 64-bit word, the first in the lower half; a number past the last counts as 0
abbrev pub word_at : List ℕ → ℕ → ℕ
word_at r k = slice_index r (2 * k) + 2 ^ 32 * slice_index r (2 * k + 1)

-- the words of the numbers that the resource has
abbrev pub words_of : List ℕ → List ℕ
words_of r = map (word_at r) (range_with_len 0 ((length r + 1) / 2))

-- the writes to a hasher: one for each word
abbrev pub hash_input_of : List ℕ → List (List ℕ)
hash_input_of r = flat_map fed.u64 (words_of r)

-- resources that are equal by `==` make the same writes
pub equal_hash_alike : (a b : List ℕ) → (pointwise ◌==◌ (a ++ replicate (LEVELS - length a) 0) (b ++ replicate (LEVELS - length b) 0) && (length a == length b)) ≡ true → hash_input_of a ≡ hash_input_of b
equal_hash_alike a b h =
    let padded : a ++ replicate (LEVELS - length a) 0 ≡ b ++ replicate (LEVELS - length b) 0 = (pointwise_decides Decides-eqb _ _).0 (first_so _ _ h) in
    let count : length a ≡ length b = (Decides-eqb (length a) (length b)).0 (second_so _ _ h) in
    ap hash_input_of (sym (take-append_seam a (replicate (LEVELS - length a) 0)) ∙ (λ i. take (count i) (padded i)) ∙ take-append_seam b (replicate (LEVELS - length b) 0))
