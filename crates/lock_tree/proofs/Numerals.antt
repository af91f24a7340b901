-- A text without a fault is the one text of its number.
use Rattle.std.proofs.Common.{◌≡◌, ◌↔◌, ℕ, zero, suc, ◌<◌, ◌≤◌, ◌^◌, Bool, true, false, List, [], ◌∷◌, length, get_or, refl, sym, ◌∙◌, arith, rules, ne_eqb, Option, Some, None, Ok, subst}
use Rattle.std.specs.Prelude.{decimal, ◌==◌, not, nat_lt, if◌then◌else◌}
use Rattle.std.specs.Char.{is_ascii_digit}
use Rattle.std.specs.List.{list_all, All}
use Rattle.std.proofs.lemmas.Bool.{true≢false, and_from, and_right, eqb-false, eq-eqb, ltb-false, le-ltb, lt-ltb}
use Rattle.std.proofs.lemmas.List.Elements.{All-from_get_or}
use Rattle.std.proofs.lemmas.Str.Parse.{IsNumeralModel, numerals_by_value, not_in_digits}
use Rattle.std.proofs.lemmas.Fmt.{digits_decimal, digits_value-decimal, decimal-digits_value, decimal_nonempty, first_decimal, decimal_digit}
use Rattle.lock_tree.specs.declared.numeral.NumeralFault.TheVariants.{Empty, NotANumber, TooLarge, LeadingZero}
use Rattle.lock_tree.specs.Numerals.{number_of, has_leading_zero, fault_of_numeral, ok_unless, reading_of_numeral}
use Rattle.lock_tree.specs.Text.{is_slash}

-- `number_of` is the value of digits in decimal
own : IsNumeralModel (λ ds. list_all is_ascii_digit ds ≡ true) number_of
own = numerals_by_value _ (search rules)

-- the text passes every test
pub record IsNumeral (greatest : ℕ) (text : List ℕ) : Type 0 where
  pub some : 0 < length text
  pub digits : list_all is_ascii_digit text ≡ true
  pub small : number_of text ≤ greatest
  pub plain : has_leading_zero text ≡ false

-- if no test gives a fault, all pass
passed : (a b c d : Bool) → (if a then Some Empty else if not b then Some NotANumber else if c then Some TooLarge else if d then Some LeadingZero else None) ≡ None → (a ≡ false) × (b ≡ true) × (c ≡ false) × (d ≡ false)
passed true b c d e = absurd cc
passed false false c d e = absurd cc
passed false true true d e = absurd cc
passed false true false true e = absurd cc
passed false true false false e = (refl, refl, refl, refl)

-- a text without a fault passes every test
pub numeral_of_faultless : (greatest : ℕ) (text : List ℕ) → fault_of_numeral greatest text ≡ None → IsNumeral greatest text
numeral_of_faultless greatest text e =
    let tests = passed (length text == 0) (list_all is_ascii_digit text) (nat_lt greatest (number_of text)) (has_leading_zero text) e in
    let some = eqb-false (length text) 0 tests.0 in
    record { some = omega arith; digits = tests.1; small = ltb-false greatest (number_of text) tests.2; plain = tests.3 }

-- a text that passes every test has no fault
pub faultless_of_numeral : (greatest : ℕ) (text : List ℕ) → IsNumeral greatest text → fault_of_numeral greatest text ≡ None
faultless_of_numeral greatest text h =
    let some : (length text == 0) ≡ false = ne_eqb (length text) 0 (λ e. omega arith) in
    let small : nat_lt greatest (number_of text) ≡ false = le-ltb greatest (number_of text) h.small in
    rw (some, h.digits, small, h.plain) refl

-- a numeral that begins with 0 is 0 alone
pub alone : (text : List ℕ) → has_leading_zero text ≡ false → 0 < length text → get_or text 0 0 ≡ 48 → length text ≡ 1
alone [] plain some first = absurd (omega arith)
alone (b ∷ []) plain some first = refl
alone (b ∷ c ∷ cs) plain some first =
    let long : nat_lt 1 (length (b ∷ c ∷ cs)) ≡ true = lt-ltb 1 (length (b ∷ c ∷ cs)) (omega arith) in
    let zero_first : (b == 48) ≡ true = eq-eqb b 48 first in
    absurd (true≢false (sym (and_from (nat_lt 1 (length (b ∷ c ∷ cs))) (b == 48) long zero_first) ∙ plain))

-- the number of a numeral is written as that numeral
pub decimal_of_numeral : (greatest : ℕ) (text : List ℕ) → greatest < 2 ^ 64 → IsNumeral greatest text → decimal (number_of text) ≡ text
decimal_of_numeral greatest text lt h = decimal-digits_value own text h.digits h.some (alone text h.plain h.some) (omega (arith, h.small, lt))

-- a text that begins above 0 has no leading zero
pub above_zero : (text : List ℕ) → 48 < get_or text 0 0 → has_leading_zero text ≡ false
above_zero [] lt = refl
above_zero (b ∷ bs) lt = and_right (nat_lt 1 (length (b ∷ bs))) (b == 48) (ne_eqb b 48 (λ e. omega (arith, e, lt)))

-- the decimal text of a number has no leading zero
no_zero_before : (n : ℕ) → n < 2 ^ 64 → has_leading_zero (decimal n) ≡ false
no_zero_before zero lt = rw (decimal_digit 0 (omega arith)) refl
no_zero_before (suc n) lt = above_zero (decimal (suc n)) (first_decimal (suc n) (omega arith) lt)

-- the decimal text of a number is read as the number
pub number_of_decimal : (n : ℕ) → n < 2 ^ 64 → number_of (decimal n) ≡ n
number_of_decimal n lt = digits_value-decimal own n lt

-- the decimal text of a number is a numeral
pub numeral_of_decimal : (greatest n : ℕ) → greatest < 2 ^ 64 → n ≤ greatest → IsNumeral greatest (decimal n)
numeral_of_decimal greatest n lt le =
    let small : n < 2 ^ 64 = omega (arith, lt, le) in
    record {
      some = decimal_nonempty n small;
      digits = digits_decimal own n small;
      small = rw (number_of_decimal n small) le;
      plain = no_zero_before n small;
    }

-- a text has no fault exactly if it is the decimal text of a number of at most `greatest`
pub faultless_iff : (text : List ℕ) (greatest : ℕ) → greatest < 2 ^ 64 → (fault_of_numeral greatest text ≡ None) ↔ ((n : ℕ) × (n ≤ greatest) × (text ≡ decimal n))
faultless_iff text greatest lt = (
  λ e. let is = numeral_of_faultless greatest text e in (number_of text, is.small, sym (decimal_of_numeral greatest text lt is)),
  λ of.
      let P : List ℕ → Type 0 = λ t. fault_of_numeral greatest t ≡ None in
      subst P (sym of.2) (faultless_of_numeral greatest (decimal of.0) (numeral_of_decimal greatest of.0 lt of.1)),
)

-- a reading is Ok only without a fault
pub read_ok : {F A : Type 0} (f : Option F) (v r : A) → ok_unless f v ≡ Ok r → (f ≡ None) × (v ≡ r)
read_ok None v r e = (refl, cc)
read_ok (Some f) v r e = absurd cc

-- a text is read as n exactly if it is the decimal text of n, and n is at most `greatest`
pub reading_iff : (text : List ℕ) (greatest n : ℕ) → greatest < 2 ^ 64 → (reading_of_numeral greatest text ≡ Ok n) ↔ ((n ≤ greatest) × (text ≡ decimal n))
reading_iff text greatest n lt = (
  λ e.
      let is = read_ok (fault_of_numeral greatest text) (number_of text) n e in
      let numeral = numeral_of_faultless greatest text is.0 in
      let P : ℕ → Type 0 = λ m. (m ≤ greatest) × (text ≡ decimal m) in
      subst P is.1 (numeral.small, sym (decimal_of_numeral greatest text lt numeral)),
  λ of.
      let P : List ℕ → Type 0 = λ t. reading_of_numeral greatest t ≡ Ok n in
      let no_fault = faultless_of_numeral greatest (decimal n) (numeral_of_decimal greatest n lt of.0) in
      subst P (sym of.1) (rw (no_fault, number_of_decimal n (omega (arith, lt, of.0))) refl),
)

-- digits have no `/` among them
pub no_slash : (text : List ℕ) → list_all is_ascii_digit text ≡ true → All (λ b. is_slash b ≡ false) text
no_slash text digits = All-from_get_or (λ b. is_slash b ≡ false) text 0 (λ i lt. ne_eqb (get_or text i 0) 47 (not_in_digits own text 47 digits (λ in_range. omega arith) i lt))
