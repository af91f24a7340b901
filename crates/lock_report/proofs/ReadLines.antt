-- Fields and lines have neither commas nor line feeds in them, so they are found again.
use Rattle.std.proofs.Common.{◌≡◌, ℕ, ◌+◌, ◌<◌, ◌%◌, ◌^◌, Bool, true, false, cond, not, ◌&&◌, List, [], ◌∷◌, ◌++◌, map, refl, sym, ap, ◌∙◌, arith, ne_eqb, append_assoc, append-nil}
use Rattle.std.specs.Prelude.{◌==◌, decimal}
use Rattle.std.specs.List.{AllByRecursion, list_all, flat_map, slice_split, join_with_byte}
use Rattle.std.proofs.lemmas.Fmt.{decimal_by_steps}
use Rattle.std.proofs.lemmas.Grind.{flat_map-append}
use Rattle.std.proofs.lemmas.List.{map-append}
use Rattle.std.proofs.lemmas.Bool.{and_parts, and_from, not-true}
use Rattle.std.proofs.lemmas.List.Elements.{All-from_recursion, recursion_from_All}
use Rattle.std.proofs.lemmas.List.Folds.{list_all-append}
use Rattle.std.proofs.lemmas.List.Splits.{slice_split_none, slice_split_at}
use Rattle.lock_modes.specs.declared.Mode.{Mode}
use Rattle.lock_modes.specs.declared.Mode.TheVariants.{NL, IS, IX, S, SIX, U, X}
use Rattle.lock_modes.specs.Codes.{name_of}
use Rattle.lock_tree.specs.Paths.{IsResource}
use Rattle.lock_tree.specs.Text.{text_of}
use Rattle.lock_rules.specs.declared.listing.ClaimKind.{ClaimKind}
use Rattle.lock_rules.specs.declared.listing.ClaimKind.TheVariants.{Held, Conversion, Fresh}
use Rattle.lock_rules.specs.declared.listing.Claim.{Claim}
use Rattle.lock_report.specs.declared.snapshot.OpenTransaction.{OpenTransaction}
use Rattle.lock_report.specs.declared.snapshot.FirstWait.{FirstWait}
use Rattle.lock_report.specs.Claims.{word_of_kind}
use Rattle.lock_report.specs.StateRows.{others_text, row_of_claim, row_of_transaction, row_of_wait, rows_of_state}
use Rattle.lock_report.specs.declared.reading.row.StateRow.{StateRow}
use Rattle.lock_report.specs.declared.reading.row.StateRow.TheVariants as row
use Rattle.lock_report.specs.ReadRows.{IsRow, fields_of_row, is_comma, line_of_row, victim_text}
use Rattle.lock_report.specs.ReadStates.{is_line_feed, rows_in}
use Rattle.lock_report.specs.inner.ReadFields.{is_plus}

-- The byte is neither a comma nor a line feed.
abbrev is_plain : ℕ → Bool
is_plain b = not (b == 44) && not (b == 10)

-- So is each byte of the text.
abbrev plain : List ℕ → Bool
plain bs = list_all is_plain bs

-- Two plain texts are plain together.
plain-both : (xs ys : List ℕ) → plain xs ≡ true → plain ys ≡ true → plain (xs ++ ys) ≡ true
plain-both xs ys a b = list_all-append is_plain xs ys ∙ and_from (plain xs) (plain ys) a b

-- A digit is plain.
digit-plain : (d : ℕ) → d < 10 → is_plain (48 + d) ≡ true
digit-plain d lt = rw (ne_eqb (48 + d) 44 (λ e. omega (arith, e)), ne_eqb (48 + d) 10 (λ e. omega (arith, e))) refl

-- A number is plain.
number-plain : (n : ℕ) → n < 18446744073709551616 → plain (decimal n) ≡ true
number-plain n lt =
    decimal_by_steps (λ n bs. plain bs ≡ true) (λ m small. rw (digit-plain m small) refl)
    (λ m ds big so_far. plain-both ds ((48 + m % 10) ∷ []) so_far (rw (digit-plain (m % 10) (omega arith)) refl)) n lt

-- The name of a mode is plain.
mode-plain : (m : Mode) → plain (name_of m) ≡ true
mode-plain NL = refl
mode-plain IS = refl
mode-plain IX = refl
mode-plain S = refl
mode-plain SIX = refl
mode-plain U = refl
mode-plain X = refl

-- The word of a kind of claims is plain.
kind-plain : (k : ClaimKind) → plain (word_of_kind k) ≡ true
kind-plain Held = refl
kind-plain Conversion = refl
kind-plain Fresh = refl

-- The mark of a victim is plain.
victim-plain : (doomed : Bool) → plain (victim_text doomed) ≡ true
victim-plain true = refl
victim-plain false = refl

-- So is what tells of others.
others-plain : (n : ℕ) → n < 18446744073709551616 → plain (others_text n) ≡ true
others-plain n lt = go (n == 0)
  where
    go : (b : Bool) → plain (cond b [] (43 ∷ decimal n)) ≡ true
    go true = refl
    go false = number-plain n lt

-- A number has no plus.
pub number-plusless : (n : ℕ) → n < 18446744073709551616 → list_all (λ b. not (is_plus b)) (decimal n) ≡ true
number-plusless n lt =
    decimal_by_steps (λ n bs. list_all (λ b. not (is_plus b)) bs ≡ true) (λ m small. rw (ne_eqb (48 + m) 43 (λ e. omega (arith, e))) refl)
    (λ m ds big so_far. list_all-append (λ b. not (is_plus b)) ds ((48 + m % 10) ∷ []) ∙ and_from (list_all (λ b. not (is_plus b)) ds) (list_all (λ b. not (is_plus b)) ((48 + m % 10) ∷ [])) so_far (rw (ne_eqb (48 + m % 10) 43 (λ e. omega (arith, e))) refl)) n lt

-- The text of a resource is plain.
numbers-plain : (r : List ℕ) → AllByRecursion (λ n. n < 2 ^ 32) r → plain (text_of r) ≡ true
numbers-plain [] small = refl
numbers-plain (n ∷ []) small = number-plain n (omega (arith, small.0))
numbers-plain (n ∷ m ∷ ns) small = plain-both (decimal n) (47 ∷ text_of (m ∷ ns)) (number-plain n (omega (arith, small.0))) (numbers-plain (m ∷ ns) small.1)

resource-plain : (r : List ℕ) → IsResource r → plain (text_of r) ≡ true
resource-plain r h = numbers-plain r (recursion_from_All (λ n. n < 2 ^ 32) r h.small)

-- All fields are plain.
abbrev ArePlain : List (List ℕ) → Type 0
ArePlain [] = Unit {0}
ArePlain (f ∷ fs) = (plain f ≡ true) × ArePlain fs

-- The fields of a row are plain.
row-plain : (n : ℕ) (r : StateRow) → n < 2 ^ 16 → IsRow n r → ArePlain (fields_of_row r)
row-plain n (row.Transaction o) lt h =
    (refl, (number-plain o.session (omega (arith, lt, h.0.1)), (number-plain o.transaction.number h.1, (victim-plain o.transaction.doomed, (refl, (refl, (refl, tt)))))))
row-plain n (row.Claim c) lt h =
    (kind-plain c.kind, (number-plain c.session (omega (arith, lt, h.0.1)), (number-plain c.transaction.number h.1, (victim-plain c.transaction.doomed, (resource-plain c.resource h.2, (mode-plain c.mode, (refl, tt)))))))
row-plain n (row.Wait w) lt h =
    (refl, (number-plain w.wait.session (omega (arith, lt, h.0.0.1)), (refl, (refl, (refl, (refl, (plain-both (decimal w.wait.other) (others_text w.others) (number-plain w.wait.other (omega (arith, lt, h.0.1.1))) (others-plain w.others h.1), tt)))))))

-- A plain text has no comma.
no-commas : (bs : List ℕ) → plain bs ≡ true → AllByRecursion (λ b. is_comma b ≡ false) bs
no-commas [] h = tt
no-commas (b ∷ bs) h =
    let both = and_parts (is_plain b) (plain bs) h in
    let one = and_parts (not (b == 44)) (not (b == 10)) both.0 in
    (not-true (b == 44) one.0, no-commas bs both.1)

-- The fields of a line are found again.
fields-found : (f : List ℕ) (fs : List (List ℕ)) → ArePlain (f ∷ fs) → slice_split is_comma (join_with_byte 44 (f ∷ fs)) ≡ f ∷ fs
fields-found f [] h = slice_split_none is_comma f (All-from_recursion (λ b. is_comma b ≡ false) f (no-commas f h.0))
fields-found f (g ∷ gs) h =
    slice_split_at is_comma f 44 (join_with_byte 44 (g ∷ gs)) (All-from_recursion (λ b. is_comma b ≡ false) f (no-commas f h.0)) refl
    ∙ ap (λ (rest : List (List ℕ)). f ∷ rest) (fields-found g gs h.1)

-- The fields of a row's line are the fields of the row.
pub fields-again : (n : ℕ) (r : StateRow) (line : List ℕ) → n < 2 ^ 16 → IsRow n r → line ≡ line_of_row r → slice_split is_comma line ≡ fields_of_row r
fields-again n (row.Transaction o) line lt h is = ap (slice_split is_comma) is ∙ fields-found _ _ (row-plain n (row.Transaction o) lt h)
fields-again n (row.Claim c) line lt h is = ap (slice_split is_comma) is ∙ fields-found _ _ (row-plain n (row.Claim c) lt h)
fields-again n (row.Wait w) line lt h is = ap (slice_split is_comma) is ∙ fields-found _ _ (row-plain n (row.Wait w) lt h)

-- A text without line feeds.
abbrev feedless : List ℕ → Bool
feedless bs = list_all (λ b. not (b == 10)) bs

plain-feedless : (bs : List ℕ) → plain bs ≡ true → feedless bs ≡ true
plain-feedless [] h = refl
plain-feedless (b ∷ bs) h =
    let both = and_parts (is_plain b) (plain bs) h in
    let one = and_parts (not (b == 44)) (not (b == 10)) both.0 in
    and_from (not (b == 10)) (feedless bs) one.1 (plain-feedless bs both.1)

feedless-both : (xs ys : List ℕ) → feedless xs ≡ true → feedless ys ≡ true → feedless (xs ++ ys) ≡ true
feedless-both xs ys a b = list_all-append (λ b. not (b == 10)) xs ys ∙ and_from (feedless xs) (feedless ys) a b

joined-feedless : (fs : List (List ℕ)) → ArePlain fs → feedless (join_with_byte 44 fs) ≡ true
joined-feedless [] h = refl
joined-feedless (f ∷ []) h = plain-feedless f h.0
joined-feedless (f ∷ g ∷ gs) h = feedless-both f (44 ∷ join_with_byte 44 (g ∷ gs)) (plain-feedless f h.0) (joined-feedless (g ∷ gs) h.1)

-- The line of a row has no line feed.
line-feedless : (n : ℕ) (r : StateRow) → n < 2 ^ 16 → IsRow n r → feedless (line_of_row r) ≡ true
line-feedless n (row.Transaction o) lt h = joined-feedless (fields_of_row (row.Transaction o)) (row-plain n (row.Transaction o) lt h)
line-feedless n (row.Claim c) lt h = joined-feedless (fields_of_row (row.Claim c)) (row-plain n (row.Claim c) lt h)
line-feedless n (row.Wait w) lt h = joined-feedless (fields_of_row (row.Wait w)) (row-plain n (row.Wait w) lt h)

no-feeds : (bs : List ℕ) → feedless bs ≡ true → AllByRecursion (λ b. is_line_feed b ≡ false) bs
no-feeds [] h = tt
no-feeds (b ∷ bs) h = let both = and_parts (not (b == 10)) (feedless bs) h in (not-true (b == 10) both.0, no-feeds bs both.1)

-- The line with a line feed behind it.
abbrev pub with_feed : List ℕ → List ℕ
with_feed l = l ++ 10 ∷ []

-- The lines of a text of rows are found again; what is behind the last is empty.
pub lines-again : (n : ℕ) (rows : List StateRow) → n < 2 ^ 16 → AllByRecursion (IsRow n) rows → slice_split is_line_feed (flat_map with_feed (map line_of_row rows)) ≡ map line_of_row rows ++ [] ∷ []
lines-again n [] lt h = refl
lines-again n (r ∷ rs) lt h =
    ap (slice_split is_line_feed) (append_assoc (line_of_row r) (10 ∷ []) (flat_map with_feed (map line_of_row rs)))
    ∙ (slice_split_at is_line_feed (line_of_row r) 10 (flat_map with_feed (map line_of_row rs)) (All-from_recursion (λ b. is_line_feed b ≡ false) (line_of_row r) (no-feeds (line_of_row r) (line-feedless n r lt h.0))) refl
    ∙ ap (λ (rest : List (List ℕ)). line_of_row r ∷ rest) (lines-again n rs lt h.1))

-- Lines with an empty one behind them, joined by line feeds.
pub feeds-joined : (lines : List (List ℕ)) → join_with_byte 10 (lines ++ [] ∷ []) ≡ flat_map with_feed lines
feeds-joined [] = refl
feeds-joined (l ∷ []) = sym (append-nil (l ++ 10 ∷ []))
feeds-joined (l ∷ m ∷ ms) = ap (λ (rest : List ℕ). l ++ 10 ∷ rest) (feeds-joined (m ∷ ms)) ∙ sym (append_assoc l (10 ∷ []) (flat_map with_feed (m ∷ ms)))

-- The text of the rows of a state, line by line.
opens-text : (os : List OpenTransaction) → flat_map with_feed (map line_of_row (map row.Transaction os)) ≡ flat_map row_of_transaction os
opens-text [] = refl
opens-text (o ∷ os) = ap (λ (rest : List ℕ). row_of_transaction o ++ rest) (opens-text os)

claims-text : (cs : List Claim) → flat_map with_feed (map line_of_row (map row.Claim cs)) ≡ flat_map row_of_claim cs
claims-text [] = refl
claims-text (c ∷ cs) = ap (λ (rest : List ℕ). row_of_claim c ++ rest) (claims-text cs)

waits-text : (ws : List FirstWait) → flat_map with_feed (map line_of_row (map row.Wait ws)) ≡ flat_map row_of_wait ws
waits-text [] = refl
waits-text (w ∷ ws) = ap (λ (rest : List ℕ). row_of_wait w ++ rest) (waits-text ws)

both-texts : (xs ys : List StateRow) → flat_map with_feed (map line_of_row (xs ++ ys)) ≡ flat_map with_feed (map line_of_row xs) ++ flat_map with_feed (map line_of_row ys)
both-texts xs ys = ap (flat_map with_feed) (map-append line_of_row xs ys) ∙ flat_map-append with_feed (map line_of_row xs) (map line_of_row ys)

pub rows-text : (os : List OpenTransaction) (cs : List Claim) (ws : List FirstWait) → flat_map with_feed (map line_of_row (rows_in os cs ws)) ≡ rows_of_state os cs ws
rows-text os cs ws =
    both-texts (map row.Transaction os) (map row.Claim cs ++ map row.Wait ws)
    ∙ ((λ i. opens-text os i ++ both-texts (map row.Claim cs) (map row.Wait ws) i)
    ∙ ((λ i. flat_map row_of_transaction os ++ (claims-text cs i ++ waits-text ws i))
    ∙ sym (append_assoc (flat_map row_of_transaction os) (flat_map row_of_claim cs) (flat_map row_of_wait ws))))
