-- A whole text of rows, from its lines.
use Rattle.std.proofs.Common.{◌≡◌, ℕ, ◌+◌, ◌-◌, ◌<◌, ◌^◌, List, [], ◌∷◌, ◌++◌, length, map, drop, refl, sym, ap, ◌∙◌, arith, subst, Bor}
use lib.ListN.{take-append-drop}
use Rattle.std.specs.List.{All, join_with_byte}
use Rattle.std.proofs.lemmas.List.{length-append, length-map, map-append, take-append-le}
use Rattle.std.proofs.lemmas.List.Elements.{recursion_from_All}
use Rattle.std.proofs.lemmas.List.Splits.{join_with_byte-slice_split}
use Rattle.lock_report.specs.declared.reading.state.StateLists.{StateLists}
use Rattle.lock_report.specs.ReadRows.{IsRow, line_of_row}
use Rattle.lock_report.specs.ReadStates.{rows_in, rows_of, text_of, lines_of, AreLists, AreLinesOfState, BeginNoState, IsNoState, IsFirstBad, IsOpenEnd}
use Rattle.lock_report.proofs.ReadLines.{lines-again, feeds-joined, rows-text}

-- Two lists with one item more are equal in both parts.
same-parts : {A : Type 0} (xs ys : List A) (x y : A) → xs ++ x ∷ [] ≡ ys ++ y ∷ [] → (xs ≡ ys) × (x ≡ y)
same-parts [] [] x y e = (refl, cc)
same-parts [] (z ∷ zs) x y e = absurd (shorter zs y (sym e))
  where
    shorter : {A : Type 0} {x z : A} (zs : List A) (y : A) → z ∷ (zs ++ y ∷ []) ≡ x ∷ [] → ⊥
    shorter zs y e = let long = ap length e in let more = length-append zs (y ∷ []) in omega (arith, long, more)
same-parts (z ∷ zs) [] x y e = absurd (shorter zs x e)
  where
    shorter : {A : Type 0} {y z : A} (zs : List A) (x : A) → z ∷ (zs ++ x ∷ []) ≡ y ∷ [] → ⊥
    shorter zs x e = let long = ap length e in let more = length-append zs (x ∷ []) in omega (arith, long, more)
same-parts {A} (z ∷ zs) (w ∷ ws) x y e =
    let head : z ≡ w = cc in
    let tail : zs ++ x ∷ [] ≡ ws ++ y ∷ [] = cc in
    let more = same-parts zs ws x y tail in
    (λ i. head i ∷ more.0 i, more.1)

-- A text whose lines are those of rows, with an empty one behind, is the text of these rows.
pub text-read : (text : List ℕ) (front : List (List ℕ)) (last : List ℕ) (lists : StateLists) → lines_of text ≡ front ++ last ∷ [] → last ≡ [] → map line_of_row (rows_of lists) ≡ front → text ≡ text_of lists
text-read text front last lists parts ended lines =
    sym (join_with_byte-slice_split 10 text)
    ∙ (ap (join_with_byte 10) (parts ∙ λ i. sym lines i ++ ended i ∷ [])
    ∙ (feeds-joined (map line_of_row (rows_of lists)) ∙ rows-text lists.opens.items lists.claims.items lists.waits.items))

-- The lines of a text that is the rows of a state.
lines-then : (n : ℕ) (text : List ℕ) (front : List (List ℕ)) (last : List ℕ) → n < 2 ^ 16 → lines_of text ≡ front ++ last ∷ []
    → (os : _) (cs : _) (ws : _) → All (IsRow n) (rows_in os cs ws) → text ≡ Rattle.lock_report.specs.StateRows.rows_of_state os cs ws → (front ≡ map line_of_row (rows_in os cs ws)) × (last ≡ [])
lines-then n text front last lt parts os cs ws valid is =
    same-parts front (map line_of_row (rows_in os cs ws)) last []
    (sym parts ∙ (ap lines_of (is ∙ sym (rows-text os cs ws)) ∙ lines-again n (rows_in os cs ws) lt (recursion_from_All (IsRow n) (rows_in os cs ws) valid)))

-- A text with a bad line is the rows of no state.
pub none-bad : (n : ℕ) (text : List ℕ) (front : List (List ℕ)) (last : List ℕ) (k : ℕ) → n < 2 ^ 16 → lines_of text ≡ front ++ last ∷ [] → IsFirstBad n front k → IsNoState n text
none-bad n text front last k lt parts bad = λ os cs ws valid is.
    let same = lines-then n text front last lt parts os cs ws valid.rows is in
    bad.bad os cs ws (drop k front) valid (sym same.0 ∙ sym (take-append-drop k front))

-- So is one that doesn't end with a line feed.
pub none-unended : (n : ℕ) (text : List ℕ) (front : List (List ℕ)) (last : List ℕ) → n < 2 ^ 16 → lines_of text ≡ front ++ last ∷ [] → (last ≡ [] → ⊥) → IsNoState n text
none-unended n text front last lt parts unended = λ os cs ws valid is. unended (lines-then n text front last lt parts os cs ws valid.rows is).1

-- A line that is the first bad one without the last is so with it.
pub bad-in-all : (n : ℕ) (text : List ℕ) (front : List (List ℕ)) (last : List ℕ) (k : ℕ) → lines_of text ≡ front ++ last ∷ [] → IsFirstBad n front k → IsFirstBad n (lines_of text) k
bad-in-all n text front last k parts bad = subst (λ (ls : List (List ℕ)). IsFirstBad n ls k) (sym parts) (record {
  some = bad.some;
  within = let more = length-append front (last ∷ []) in let in_front = bad.within in omega (arith, more, in_front);
  front = let in_front = bad.within in subst (AreLinesOfState n) (sym (take-append-le (k - 1) front (last ∷ []) (omega (arith, in_front)))) bad.front;
  bad = let in_front = bad.within in subst (BeginNoState n) (sym (take-append-le k front (last ∷ []) in_front)) bad.bad;
})

-- The lines of a text, of which the last was taken off.
pub parts-of : (text : List ℕ) (items rest : List (Bor (List ℕ))) (last : Bor (List ℕ)) → map (λ (line : Bor (List ℕ)). line.now) items ≡ lines_of text → items ≡ rest ++ last ∷ []
    → lines_of text ≡ map (λ (line : Bor (List ℕ)). line.now) rest ++ last.now ∷ []
parts-of text items rest last all is = sym all ∙ (ap (map (λ (line : Bor (List ℕ)). line.now)) is ∙ map-append (λ (line : Bor (List ℕ)). line.now) rest (last ∷ []))

-- What is behind the last line feed isn't empty.
pub open-end : (n : ℕ) (text : List ℕ) (rest : List (Bor (List ℕ))) (last : Bor (List ℕ)) (k : ℕ) (lists : StateLists)
    → lines_of text ≡ map (λ (line : Bor (List ℕ)). line.now) rest ++ last.now ∷ [] → length rest + 1 ≡ k
    → AreLists n lists × (map line_of_row (rows_of lists) ≡ map (λ (line : Bor (List ℕ)). line.now) rest) → (last.now ≡ [] → ⊥) → IsOpenEnd n text k
open-end n text rest last k lists parts number read unended =
    let f = λ (line : Bor (List ℕ)). line.now in
    record { front = map f rest; last = last.now; lines = parts; number = sym number ∙ ap (λ (j : ℕ). j + 1) (sym (length-map rest f)); rows = (lists.opens.items, lists.claims.items, lists.waits.items, read); unended = unended }
