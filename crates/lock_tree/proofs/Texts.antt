-- A text without a fault is the text of its numbers.
use Rattle.std.proofs.Common.{◌≡◌, ◌↔◌, ℕ, ◌+◌, ◌<◌, ◌≤◌, ◌^◌, Bool, true, false, List, [], ◌∷◌, length, map, refl, sym, ap, ◌∙◌, arith, ne_eqb, Option, Some, None, Ok, Err, subst}
use Rattle.std.specs.Prelude.{decimal, ◌==◌, nat_le, if◌then◌else◌, count_by}
use Rattle.std.specs.List.{All, AllByRecursion, join_with_byte}
use Rattle.std.specs.Option.{option_map, option_or}
use Rattle.std.proofs.lemmas.Bool.{le-leb, lt-leb, leb-false}
use Rattle.std.proofs.lemmas.List.{length-map}
use Rattle.std.proofs.lemmas.List.Elements.{All-from_recursion, recursion_from_All}
use Rattle.std.proofs.lemmas.List.Splits.{slice_split_none, slice_split_at, length-slice_split, join_with_byte-slice_split}
use Rattle.lock_tree.specs.declared.levels.TheConstants.{LEVELS}
use Rattle.lock_tree.specs.declared.path_fault.PathFault.{PathFault}
use Rattle.lock_tree.specs.declared.path_fault.PathFault.TheVariants.{Empty, TooDeep}
use Rattle.lock_tree.specs.Paths.{IsResource}
use Rattle.lock_tree.specs.Text.{is_slash, text_of, pieces_of}
use Rattle.lock_tree.specs.declared.numeral.NumeralFault.{NumeralFault}
use Rattle.lock_tree.specs.Numerals.{number_of, fault_of_numeral, ok_unless}
use Rattle.lock_tree.specs.Faults.{path_fault_of, fault_of_piece, first_fault, fault_of}
use Rattle.lock_tree.specs.Readings.{numbers_in, reading_of}
use Rattle.lock_tree.proofs.Numerals.{IsNumeral, numeral_of_faultless, faultless_of_numeral, decimal_of_numeral, number_of_decimal, numeral_of_decimal, no_slash, read_ok}

-- if neither of two options gives a fault, both are None
no_first : (a b : Option PathFault) → option_or a b ≡ None → (a ≡ None) × (b ≡ None)
no_first None b e = (refl, e)
no_first (Some f) b e = absurd cc

-- a piece without a fault has none of a numeral
no_numeral_fault : (o : Option NumeralFault) → option_map path_fault_of o ≡ None → o ≡ None
no_numeral_fault None e = refl
no_numeral_fault (Some f) e = absurd cc

-- a piece without a fault is the numeral of a 32-bit number
numeral_of_piece : (piece : List ℕ) → fault_of_piece piece ≡ None → IsNumeral 4294967295 piece
numeral_of_piece piece e = numeral_of_faultless 4294967295 piece (no_numeral_fault (fault_of_numeral 4294967295 piece) e)

-- the decimal text of a 32-bit number is a piece without a fault
piece_of_number : (n : ℕ) → n < 2 ^ 32 → fault_of_piece (decimal n) ≡ None
piece_of_number n small = ap (option_map path_fault_of) (faultless_of_numeral 4294967295 (decimal n) (numeral_of_decimal 4294967295 n (omega arith) (omega (arith, small))))

-- pieces without a fault are the decimal texts of their numbers
decimals_of : (ps : List (List ℕ)) → first_fault ps ≡ None → map decimal (map number_of ps) ≡ ps
decimals_of [] e = refl
decimals_of (p ∷ ps) e =
    let parts = no_first (fault_of_piece p) (first_fault ps) e in
    rw (decimal_of_numeral 4294967295 p (omega arith) (numeral_of_piece p parts.0), decimals_of ps parts.1) refl

-- the numbers of pieces without a fault have 32 bits
all_small : (ps : List (List ℕ)) → first_fault ps ≡ None → AllByRecursion (λ n. n < 2 ^ 32) (map number_of ps)
all_small [] e = tt
all_small (p ∷ ps) e =
    let parts = no_first (fault_of_piece p) (first_fault ps) e in
    let small = (numeral_of_piece p parts.0).small in
    (omega (arith, small), all_small ps parts.1)

-- the decimal texts of 32-bit numbers have no fault
no_fault : (r : List ℕ) → AllByRecursion (λ n. n < 2 ^ 32) r → first_fault (map decimal r) ≡ None
no_fault [] small = refl
no_fault (n ∷ ns) small = rw (piece_of_number n small.0) (no_fault ns small.1)

-- the decimal texts of 32-bit numbers are read as those numbers
numbers_again : (r : List ℕ) → AllByRecursion (λ n. n < 2 ^ 32) r → map number_of (map decimal r) ≡ r
numbers_again [] small = refl
numbers_again (n ∷ ns) small = rw (number_of_decimal n (omega (arith, small.0)), numbers_again ns small.1) refl

-- the decimal text of a number has no `/`
no_slash_in : (n : ℕ) → n < 2 ^ 32 → All (λ b. is_slash b ≡ false) (decimal n)
no_slash_in n small = no_slash (decimal n) (numeral_of_decimal 4294967295 n (omega arith) (omega (arith, small))).digits

-- the pieces of a resource's text are the decimal texts of its numbers
pieces_again : (n : ℕ) (ns : List ℕ) → AllByRecursion (λ n. n < 2 ^ 32) (n ∷ ns) → pieces_of (text_of (n ∷ ns)) ≡ map decimal (n ∷ ns)
pieces_again n [] small = slice_split_none is_slash (decimal n) (no_slash_in n small.0)
pieces_again n (m ∷ ms) small =
    slice_split_at is_slash (decimal n) 47 (text_of (m ∷ ms)) (no_slash_in n small.0) refl
    ∙ ap (λ (ps : List (List ℕ)). decimal n ∷ ps) (pieces_again m ms small.1)

-- if neither test of the whole text gives a fault, both pass
both_passed : (a b : Bool) (f : Option PathFault) → (if a then Some Empty else if b then Some TooDeep else f) ≡ None → (b ≡ false) × (f ≡ None)
both_passed true b f e = absurd cc
both_passed false true f e = absurd cc
both_passed false false f e = (refl, e)

-- a text without a fault has fewer than LEVELS `/`, and no piece is faulty
passed : (t : List ℕ) → fault_of t ≡ None → (count_by is_slash t < LEVELS) × (first_fault (pieces_of t) ≡ None)
passed t e =
    let tests = both_passed (length t == 0) (nat_le LEVELS (count_by is_slash t)) (first_fault (pieces_of t)) e in
    (leb-false LEVELS (count_by is_slash t) tests.0, tests.1)

-- a text with LEVELS or more `/` is TooDeep
pub fault_deep : (t : List ℕ) → LEVELS ≤ count_by is_slash t → fault_of t ≡ Some TooDeep
fault_deep [] deep = absurd (omega (arith, deep))
fault_deep (b ∷ bs) deep =
    let some : (length (b ∷ bs) == 0) ≡ false = ne_eqb (length (b ∷ bs)) 0 (λ e. omega arith) in
    rw (some, le-leb LEVELS (count_by is_slash (b ∷ bs)) deep) refl

-- a text with fewer `/` has the fault of its first faulty piece; an empty text is one empty piece
pub fault_in_piece : (t : List ℕ) → count_by is_slash t < LEVELS → fault_of t ≡ first_fault (pieces_of t)
fault_in_piece [] flat = refl
fault_in_piece (b ∷ bs) flat =
    let some : (length (b ∷ bs) == 0) ≡ false = ne_eqb (length (b ∷ bs)) 0 (λ e. omega arith) in
    rw (some, lt-leb LEVELS (count_by is_slash (b ∷ bs)) flat) refl

-- a text without a fault is the text of its numbers, which are a resource
pub resource_of_text : (t : List ℕ) → fault_of t ≡ None → IsResource (numbers_in t) × (text_of (numbers_in t) ≡ t)
resource_of_text t e =
    let tests = passed t e in
    let long : length (numbers_in t) ≡ count_by is_slash t + 1 = length-map (pieces_of t) number_of ∙ length-slice_split is_slash t in (
      record {
        some = omega arith;
        few = omega arith;
        small = All-from_recursion (λ n. n < 2 ^ 32) (numbers_in t) (all_small (pieces_of t) tests.1);
      },
      ap (join_with_byte 47) (decimals_of (pieces_of t) tests.1) ∙ join_with_byte-slice_split 47 t,
    )

-- the text of a resource has no fault, and its numbers are the resource
pub text_of_resource : (r : List ℕ) → IsResource r → (fault_of (text_of r) ≡ None) × (numbers_in (text_of r) ≡ r)
text_of_resource [] h = absurd (let some = h.some in omega arith)
text_of_resource (n ∷ ns) h =
    let small = recursion_from_All (λ n. n < 2 ^ 32) (n ∷ ns) h.small in
    let pieces = pieces_again n ns small in
    let long : count_by is_slash (text_of (n ∷ ns)) + 1 ≡ length (n ∷ ns) = sym (length-slice_split is_slash (text_of (n ∷ ns))) ∙ ap length pieces ∙ length-map (n ∷ ns) decimal in
    let flat : count_by is_slash (text_of (n ∷ ns)) < LEVELS = omega (arith, h.few) in (
      fault_in_piece (text_of (n ∷ ns)) flat ∙ ap first_fault pieces ∙ no_fault (n ∷ ns) small,
      ap (map number_of) pieces ∙ numbers_again (n ∷ ns) small,
    )

-- no two resources have the same text
pub same_text : (a b : List ℕ) → IsResource a → IsResource b → text_of a ≡ text_of b → a ≡ b
same_text a b ha hb e = sym (text_of_resource a ha).1 ∙ ap numbers_in e ∙ (text_of_resource b hb).1

-- a text has no fault exactly if it is the text of a resource
pub no_fault_iff : (t : List ℕ) → (fault_of t ≡ None) ↔ ((r : List ℕ) × IsResource r × (text_of r ≡ t))
no_fault_iff t = (
  λ e. let found = resource_of_text t e in (numbers_in t, found.0, found.1),
  λ of. let P : List ℕ → Type 0 = λ u. fault_of u ≡ None in subst P of.2 (text_of_resource of.0 of.1).0,
)

-- a text is read as r exactly if it is the text of the resource r
pub ok_iff : (t r : List ℕ) → (reading_of t ≡ Ok r) ↔ (IsResource r × (text_of r ≡ t))
ok_iff t r = (
  λ e.
      let is = read_ok (fault_of t) (numbers_in t) r e in
      let P : List ℕ → Type 0 = λ s. IsResource s × (text_of s ≡ t) in
      subst P is.1 (resource_of_text t is.0),
  λ of.
      let P : List ℕ → Type 0 = λ u. reading_of u ≡ Ok r in
      let back = text_of_resource r of.0 in
      subst P of.1 (rw (back.0, back.1) refl),
)

-- a text is read as a fault exactly if that is its fault
pub err_iff : (t : List ℕ) (f : PathFault) → (reading_of t ≡ Err f) ↔ (fault_of t ≡ Some f)
err_iff t f = cases (fault_of t)
  where
    cases : (o : Option PathFault) → (ok_unless o (numbers_in t) ≡ Err f) ↔ (o ≡ Some f)
    cases None = (λ e. absurd cc, λ e. absurd cc)
    cases (Some g) = (λ e. cc, λ e. cc)
