use Rattle.std.proofs.Common.{◌≡◌, ℕ, suc, ◌+◌, ◌/◌, true, List, [], ◌∷◌, length, map, refl, ap, ◌∙◌}
use Rattle.std.specs.List.{flat_map, range_with_len}
use Rattle.std.specs.Hash as fed
use Rattle.std.specs.Cmp.{first_so, second_so}
use Rattle.std.proofs.lemmas.Bool.Decides.{Decides-eqb}
use Rattle.std.proofs.lemmas.List.FromFn.{length-map-range_with_len}
use Rattle.lock_tree.specs.Paths.{same_path}
use Rattle.lock_tree.specs.Hashes.{word_at, hash_input_of}
use Rattle.lock_tree.proofs.laws.equal_resources_hash_alike.Goals as goal

-- the same path is the same list
same_list : (a b : List ℕ) → same_path a b ≡ true → a ≡ b
same_list [] [] h = refl
same_list [] (y ∷ ys) h = absurd (cc h)
same_list (x ∷ xs) [] h = absurd (cc h)
same_list (x ∷ xs) (y ∷ ys) h =
    let first : x ≡ y = (Decides-eqb x y).0 (first_so _ _ h) in
    let rest : xs ≡ ys = same_list xs ys (second_so _ _ h) in
    λ i. first i ∷ rest i

-- one write for each word
a_write_each : (words : List ℕ) → length (flat_map fed.u64 words) ≡ length words
a_write_each [] = refl
a_write_each (w ∷ ws) = ap suc (a_write_each ws)

pub returns-clause-alike : goal.returns-clause-alike
returns-clause-alike c a b same = ap hash_input_of (same_list a b same)

pub returns-clause-writes : goal.returns-clause-writes
returns-clause-writes c r = a_write_each (map (word_at r) (range_with_len 0 ((length r + 1) / 2))) ∙ length-map-range_with_len (word_at r) 0 ((length r + 1) / 2)
