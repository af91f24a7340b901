-- A text is written piece by piece, a piece for each item of a list.
use Rattle.std.proofs.Common.{◌≡◌, ℕ, ◌+◌, ◌<◌, List, [], ◌∷◌, ◌++◌, take, take-suc, get_or, length, ap, sym, ◌∙◌, append_assoc, add-one}
use Rattle.std.specs.List.{flat_map}
use Rattle.std.proofs.lemmas.List.{flat_map_more}

-- One more item is at the end of those before it.
take_more : {X : Type 0} (xs : List X) (i : ℕ) (d : X) → i < length xs → take (i + 1) xs ≡ take i xs ++ (get_or xs i d ∷ [])
take_more {X} xs i d lt = ap (λ (k : ℕ). take k xs) (add-one i) ∙ take-suc xs i d lt

-- The same for the next item by its name.
pub with_next : {X : Type 0} (xs : List X) (i : ℕ) (x : X) → i < length xs → x ≡ get_or xs i x → take (i + 1) xs ≡ take i xs ++ (x ∷ [])
with_next {X} xs i x lt is = take_more xs i x lt ∙ ap (λ (y : X). take i xs ++ (y ∷ [])) (sym is)

-- After the piece of the next item, the text so far is that of one item more.
pub next_piece : {X : Type 0} (f : X → List ℕ) (xs : List X) (i : ℕ) (d : X) (start out out2 : List ℕ) → i < length xs → out ≡ start ++ flat_map f (take i xs) → out2 ≡ out ++ f (get_or xs i d)
    → out2 ≡ start ++ flat_map f (take (i + 1) xs)
next_piece {X} f xs i d start out out2 lt so_far more =
    more ∙ ap (λ (t : List ℕ). t ++ f (get_or xs i d)) so_far ∙ flat_map_more f start (take i xs) (get_or xs i d) ∙ ap (λ (ys : List X). start ++ flat_map f ys) (sym (take_more xs i d lt))

-- After one part more, the text so far has both.
pub next_part : (start a b mid out : List ℕ) → mid ≡ start ++ a → out ≡ mid ++ b → out ≡ start ++ (a ++ b)
next_part start a b mid out so_far more = more ∙ ap (λ (t : List ℕ). t ++ b) so_far ∙ append_assoc start a b

-- The same as `next_piece` for an item by its name.
pub next_item : {X : Type 0} (f : X → List ℕ) (xs : List X) (i : ℕ) (x : X) (start out out2 : List ℕ) → i < length xs → x ≡ get_or xs i x → out ≡ start ++ flat_map f (take i xs) → out2 ≡ out ++ f x
    → out2 ≡ start ++ flat_map f (take (i + 1) xs)
next_item {X} f xs i x start out out2 lt is so_far more = next_piece f xs i x start out out2 lt so_far (more ∙ ap (λ (y : X). out ++ f y) is)
