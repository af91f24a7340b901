-- What a resource feeds to a hasher, word by word.
use Rattle.std.proofs.Common.{◌≡◌, ℕ, ◌+◌, List, [], ◌∷◌, map, sym, ap, ◌∙◌, arith}
use Rattle.std.specs.List.{fold, flat_map, range_with_len}
use Rattle.std.specs.Hash as fed
use Rattle.std.proofs.lemmas.Grind.{flat_map-append}
use Rattle.std.proofs.lemmas.List.Sums.{fold-append}
use Rattle.std.proofs.lemmas.List.FromFn.{map-range_with_len_more}
use Rattle.lock_tree.specs.Hashes.{word_at}

-- one more word makes the writes of one word more
pub fed-more : {S : Type 0} (write : S → List ℕ → S) (s : S) (r : List ℕ) (k : ℕ) → fold write (fold write s (flat_map fed.u64 (map (word_at r) (range_with_len 0 k)))) (fed.u64 (word_at r k)) ≡ fold write s (flat_map fed.u64 (map (word_at r) (range_with_len 0 (k + 1))))
fed-more write s r k =
    sym (fold-append write s (flat_map fed.u64 (map (word_at r) (range_with_len 0 k))) (fed.u64 (word_at r k)))
    ∙ ap (fold write s) (sym (flat_map-append fed.u64 (map (word_at r) (range_with_len 0 k)) (word_at r k ∷ [])))
    ∙ ap (λ (ws : List ℕ). fold write s (flat_map fed.u64 ws)) (sym (map-range_with_len_more (word_at r) 0 k k (omega arith)))
