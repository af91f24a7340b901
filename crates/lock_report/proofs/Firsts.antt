-- The first item of a list that passes a test, looked for item by item.
use Rattle.std.proofs.Common.{◌≡◌, ℕ, ◌+◌, ◌<◌, ◌≤◌, Bool, true, false, cond, List, [], ◌∷◌, Option, Some, None, drop, get_or, length, sym, ap, ◌∙◌}
use Rattle.std.proofs.lemmas.List.{drop_all, drop_more}

module _ {X Y : Type 0} (test : X → Bool) (value : X → Y) (first : List X → Option Y) (unfolds : (x : X) (xs : List X) → first (x ∷ xs) ≡ cond (test x) (Some (value x)) (first xs)) where
  -- what is found from an item on
  from_item : (xs : List X) (i : ℕ) (x : X) (b : Bool) → i < length xs → x ≡ get_or xs i x → test x ≡ b → first (drop i xs) ≡ cond b (Some (value x)) (first (drop (i + 1) xs))
  from_item xs i x b lt is told =
      let rest : List X = drop (i + 1) xs in
      ap first (drop_more xs i x lt ∙ ap (λ (y : X). y ∷ rest) (sym is)) ∙ (unfolds x rest ∙ ap (λ (k : Bool). cond k (Some (value x)) (first rest)) told)

  -- an item that doesn't pass is none of those looked for
  pub passed_by : (xs : List X) (i : ℕ) (x : X) → i < length xs → x ≡ get_or xs i x → first (drop i xs) ≡ first xs → test x ≡ false → first (drop (i + 1) xs) ≡ first xs
  passed_by xs i x lt is so_far told = sym (from_item xs i x false lt is told) ∙ so_far

  -- an item that passes, and none before it, is the first
  pub found_at : (xs : List X) (i : ℕ) (x : X) → i < length xs → x ≡ get_or xs i x → first (drop i xs) ≡ first xs → test x ≡ true → Some (value x) ≡ first xs
  found_at xs i x lt is so_far told = sym (from_item xs i x true lt is told) ∙ so_far

-- behind the last item, none is found
pub found_none : {X Y : Type 0} (first : List X → Option Y) → first [] ≡ None → (xs : List X) (i : ℕ) → length xs ≤ i → first (drop i xs) ≡ first xs → None ≡ first xs
found_none first none xs i end so_far = sym none ∙ ap first (sym (drop_all i xs end)) ∙ so_far
