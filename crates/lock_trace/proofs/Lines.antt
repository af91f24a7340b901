-- A resource is written number by number, a line field by field, and a history line by line.
use Rattle.std.proofs.Common.{◌≡◌, ℕ, ◌+◌, ◌<◌, ◌≤◌, List, [], ◌∷◌, ◌++◌, length, take, take-suc, take_all, get_or, refl, ap, sym, ◌∙◌, append_assoc, add-one, length-take, arith, rules}
use Rattle.std.specs.Prelude.{decimal}
use Rattle.std.proofs.lemmas.List.{append-nil}
use Rattle.lock_tree.specs.Text.{text_of}
use Rattle.lock_rules.specs.Entries.{Entry}
use Rattle.lock_trace.specs.Histories.{after_commas, line_of, lines_of, fields_of_entry, text_of_piece}
use Rattle.lock_trace.specs.Files.{fields_from}

-- Resources.

-- One more number of a path adds a `/` and its decimal text.
text_push : (xs : List ℕ) (y : ℕ) → 0 < length xs → text_of (xs ++ (y ∷ [])) ≡ text_of xs ++ (47 ∷ decimal y)
text_push [] y some = absurd (omega arith)
text_push (x ∷ []) y some = refl
text_push (x ∷ z ∷ xs) y some =
    ap (λ (t : List ℕ). decimal x ++ (47 ∷ t)) (text_push (z ∷ xs) y (omega arith))
    ∙ sym (append_assoc (decimal x) (47 ∷ text_of (z ∷ xs)) (47 ∷ decimal y))

-- After a `/` and the next number, the path so far is one number longer.
pub next_number : (r old out mid out2 : List ℕ) (i : ℕ) → 0 < i → i < length r → out ≡ old ++ text_of (take i r) → mid ≡ out ++ (47 ∷ []) → out2 ≡ mid ++ decimal (get_or r i 0) → out2 ≡ old ++ text_of (take (i + 1) r)
next_number r old out mid out2 i some lt so_far slash more =
    let long : 0 < length (take i r) = omega (arith, length-take i r, some, lt) in
    let grown : take (i + 1) r ≡ take i r ++ (get_or r i 0 ∷ []) = ap (λ (k : ℕ). take k r) (add-one i) ∙ take-suc r i 0 lt in
    let text : text_of (take (i + 1) r) ≡ text_of (take i r) ++ (47 ∷ decimal (get_or r i 0)) = ap text_of grown ∙ text_push (take i r) (get_or r i 0) long in
    more ∙ ap (λ (t : List ℕ). t ++ decimal (get_or r i 0)) slash
    ∙ append_assoc out (47 ∷ []) (decimal (get_or r i 0))
    ∙ ap (λ (t : List ℕ). t ++ (47 ∷ decimal (get_or r i 0))) so_far
    ∙ append_assoc old (text_of (take i r)) (47 ∷ decimal (get_or r i 0))
    ∙ ap (λ (t : List ℕ). old ++ t) (sym text)

-- Lines.

-- Commas before the fields of two lists are commas before all their fields.
after_commas_append : (xs ys : List (List ℕ)) → after_commas (xs ++ ys) ≡ after_commas xs ++ after_commas ys
unfolding after_commas
after_commas_append [] ys = refl
after_commas_append (x ∷ xs) ys = ap (λ (t : List ℕ). 44 ∷ (x ++ t)) (after_commas_append xs ys) ∙ ap (λ (t : List ℕ). 44 ∷ t) (sym (append_assoc x (after_commas xs) (after_commas ys)))

-- Two ways to group the pieces of a line.
regrouped : (o p s c r : List ℕ) → (((((o ++ p) ++ (44 ∷ [])) ++ s) ++ c) ++ r) ++ (10 ∷ []) ≡ o ++ (p ++ (44 ∷ ((s ++ (c ++ r)) ++ (10 ∷ []))))
regrouped o p s c r =
    append_assoc ((((o ++ p) ++ (44 ∷ [])) ++ s) ++ c) r (10 ∷ []) ∙ append_assoc (((o ++ p) ++ (44 ∷ [])) ++ s) c (r ++ (10 ∷ []))
    ∙ append_assoc ((o ++ p) ++ (44 ∷ [])) s (c ++ (r ++ (10 ∷ []))) ∙ append_assoc (o ++ p) (44 ∷ []) (s ++ (c ++ (r ++ (10 ∷ [])))) ∙ append_assoc o p (44 ∷ (s ++ (c ++ (r ++ (10 ∷ [])))))
    ∙ ap (λ (t : List ℕ). o ++ (p ++ (44 ∷ t))) (ap (λ (t : List ℕ). s ++ t) (sym (append_assoc c r (10 ∷ []))) ∙ sym (append_assoc s (c ++ r) (10 ∷ [])))

-- The pieces of an entry, one after another, are its line.
pub entry_line : (o o1 o2 o3 o4 o5 o6 p s : List ℕ) (cs rs : List (List ℕ)) → o1 ≡ o ++ p → o2 ≡ o1 ++ (44 ∷ []) → o3 ≡ o2 ++ s → o4 ≡ o3 ++ after_commas cs → o5 ≡ o4 ++ after_commas rs → o6 ≡ o5 ++ (10 ∷ [])
    → o6 ≡ o ++ (p ++ (after_commas (s ∷ (cs ++ rs)) ++ (10 ∷ [])))
unfolding after_commas
entry_line o o1 o2 o3 o4 o5 o6 p s cs rs e1 e2 e3 e4 e5 e6 = rw (e6, e5, e4, e3, e2, e1, after_commas_append cs rs) (regrouped o p s (after_commas cs) (after_commas rs))

-- Histories.

-- One more entry adds its line.
lines_push : (place : ℕ) (es : List Entry) (e : Entry) → lines_of (fields_from fields_of_entry place (es ++ (e ∷ []))) ≡ lines_of (fields_from fields_of_entry place es) ++ line_of (fields_of_entry (place + length es) e)
lines_push place [] e = append-nil (line_of (fields_of_entry place e)) ∙ ap (λ (k : ℕ). line_of (fields_of_entry k e)) (omega arith)
lines_push place (x ∷ es) e =
    let there : place + 1 + length es ≡ place + length (x ∷ es) = omega arith in
    let inner : lines_of (fields_from fields_of_entry (place + 1) (es ++ (e ∷ []))) ≡ lines_of (fields_from fields_of_entry (place + 1) es) ++ line_of (fields_of_entry (place + length (x ∷ es)) e) =
    lines_push (place + 1) es e ∙ ap (λ (k : ℕ). lines_of (fields_from fields_of_entry (place + 1) es) ++ line_of (fields_of_entry k e)) there in
    ap (λ (t : List ℕ). line_of (fields_of_entry place x) ++ t) inner
    ∙ sym (append_assoc (line_of (fields_of_entry place x)) (lines_of (fields_from fields_of_entry (place + 1) es)) (line_of (fields_of_entry (place + length (x ∷ es)) e)))

-- After the line of the next entry, the text so far is the text of one entry more.
pub next_entry : (first : ℕ) (es : List Entry) (i : ℕ) (e : Entry) (out out2 : List ℕ) → i < length es → e ≡ get_or es i e → out ≡ text_of_piece first (take i es) → out2 ≡ out ++ line_of (fields_of_entry (first + i) e)
    → out2 ≡ text_of_piece first (take (i + 1) es)
next_entry first es i e out out2 lt is so_far more =
    let grown : take (i + 1) es ≡ take i es ++ (e ∷ []) = ap (λ (k : ℕ). take k es) (add-one i) ∙ take-suc es i e lt ∙ ap (λ (x : Entry). take i es ++ (x ∷ [])) (sym is) in
    let long : first + length (take i es) ≡ first + i = omega (arith, length-take i es) in
    more ∙ ap (λ (t : List ℕ). t ++ line_of (fields_of_entry (first + i) e)) so_far
    ∙ ap (λ (k : ℕ). text_of_piece first (take i es) ++ line_of (fields_of_entry k e)) (sym long)
    ∙ sym (lines_push first (take i es) e) ∙ ap (λ (it : List Entry). text_of_piece first it) (sym grown)

-- The lines of two pieces, one after the other.
pub lines_append : (first : ℕ) (front rest : List Entry) → text_of_piece first (front ++ rest) ≡ text_of_piece first front ++ text_of_piece (first + length front) rest
lines_append first [] rest = ap (λ (k : ℕ). text_of_piece k rest) (omega arith)
lines_append first (e ∷ front) rest =
    let there : first + 1 + length front ≡ first + length (e ∷ front) = omega arith in
    let line : List ℕ = line_of (fields_of_entry first e) in
    ap (λ (t : List ℕ). line ++ t) (lines_append (first + 1) front rest ∙ ap (λ (k : ℕ). text_of_piece (first + 1) front ++ text_of_piece k rest) there)
    ∙ sym (append_assoc line (text_of_piece (first + 1) front) (text_of_piece (first + length (e ∷ front)) rest))

-- Taking as many entries as there are, or more, takes all.
pub take_every : (es : List Entry) (i : ℕ) → length es ≤ i → take i es ≡ es
take_every es i le = search (rules, take_all)
