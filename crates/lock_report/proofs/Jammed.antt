-- What is told of the resources that somebody waits for, and of the open transactions, one after another.
use Rattle.std.proofs.Common.{◌≡◌, ℕ, ◌+◌, ◌<◌, List, [], ◌∷◌, ◌++◌, get_or, length, map, take, sym, ap, ◌∙◌}
use Rattle.std.specs.List.{flat_map}
use Rattle.std.proofs.lemmas.List.{flat_map_more, take_more}
use Rattle.std.proofs.lemmas.List.Folds.{flat_map-map}
use Rattle.lock_report.proofs.Pieces.{with_next}

-- with what is told of the next one, what is told of one more is listed
pub next_mapped : {Q X Y : Type 0} (f : List X → List Y) (items : Q → List X) (qs : List Q) (i : ℕ) (q : Q) (out out2 : List Y) → i < length qs → q ≡ get_or qs i q
    → out ≡ flat_map f (map items (take i qs)) → out2 ≡ out ++ f (items q) → out2 ≡ flat_map f (map items (take (i + 1) qs))
next_mapped {Q} {X} {Y} f items qs i q out out2 lt at so_far more =
    more
    ∙ (ap (λ (l : List Y). l ++ f (items q)) (so_far ∙ flat_map-map f items (take i qs))
    ∙ (flat_map_more (λ (x : Q). f (items x)) [] (take i qs) q
    ∙ (ap (flat_map (λ (x : Q). f (items x))) (sym (with_next qs i q lt at))
    ∙ sym (flat_map-map f items (take (i + 1) qs)))))

-- likewise behind what was listed before, for a number that stays as it was
pub next_root : {O R : Type 0} (f : ℕ → O → List R) (n m : ℕ) (opens : List O) (i : ℕ) (d : O) (start out out2 : List R) → i < length opens → m ≡ n
    → out ≡ start ++ flat_map (f n) (take i opens) → out2 ≡ out ++ f m (get_or opens i d) → out2 ≡ start ++ flat_map (f n) (take (i + 1) opens)
next_root {O} {R} f n m opens i d start out out2 lt same so_far more =
    let o : O = get_or opens i d in
    more
    ∙ ((λ j. so_far j ++ f (same j) o)
    ∙ (flat_map_more (f n) start (take i opens) o
    ∙ ap (λ (os : List O). start ++ flat_map (f n) os) (sym (take_more opens i d lt))))
