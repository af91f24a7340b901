-- Scans of a text, byte by byte.
use Rattle.std.proofs.Common.{◌≡◌, ℕ, ◌+◌, ◌-◌, ◌*◌, ◌<◌, ◌≤◌, ◌^◌, Bool, true, false, List, [], ◌∷◌, ◌++◌, length, get_or, take, sym, ap, ◌∙◌, arith, Option, subst}
use Rattle.std.specs.Prelude.{◌&&◌}
use Rattle.std.specs.Char.{is_ascii_digit, digit_value}
use Rattle.std.specs.List.{list_all}
use Rattle.std.specs.Option.{SomeIff}
use Rattle.std.proofs.lemmas.List.{take_more}
use Rattle.std.proofs.lemmas.List.Sums.{position_or_len_is}
use Rattle.std.proofs.lemmas.List.Folds.{list_all-append}
use Rattle.std.proofs.lemmas.Int.Digits.{digits_value_push}
use Rattle.std.proofs.lemmas.Bool.{and_parts}
use Rattle.std.proofs.Math.Bool.{and-true}
use Rattle.std.proofs.lemmas.Bool.Decides.{nat_tests}
use Rattle.lock_tree.specs.declared.numeral.NumeralScan.{NumeralScan}
use Rattle.lock_tree.specs.Text.{is_slash}
use Rattle.lock_tree.specs.inner.Pieces.{first_piece}
use Rattle.lock_tree.specs.Numerals.{number_of}
use Rattle.lock_tree.specs.inner.NumeralScan.{IsScanOf}

-- the first piece ends at the first `/`, or at the end
pub first_piece_is : (bs : List ℕ) (i : ℕ) → i ≤ length bs → ((k : ℕ) → k < i → is_slash (get_or bs k 0) ≡ false) → (i < length bs → is_slash (get_or bs i 0) ≡ true) → first_piece bs ≡ take i bs
first_piece_is bs i le front at = ap (λ (k : ℕ). take k bs) (position_or_len_is is_slash bs i 0 le front at)

-- a digit's value is its byte less 48
digit_value_is : (b : ℕ) → is_ascii_digit b ≡ true → digit_value b ≡ b - 48
digit_value_is b is = grind (arith, nat_tests)

-- one more byte of a scanned text, in the fields of the scan
pub read_on : (text : List ℕ) (b : ℕ) (are_digits : Bool) (before after : Option ℕ)
    → ((n : ℕ) → SomeIff before (n < 2 ^ 64) n → SomeIff after (n * 10 + (b - 48) < 2 ^ 64) (n * 10 + (b - 48)))
    → IsScanOf (record { are_digits = are_digits; number = before }) text
    → IsScanOf (record { are_digits = are_digits && is_ascii_digit b; number = after }) (text ++ b ∷ [])
read_on text b are_digits before after step h = record {
  digits = ap (λ (d : Bool). d && is_ascii_digit b) h.digits ∙ sym (list_all-append is_ascii_digit text (b ∷ []) ∙ ap (λ (d : Bool). list_all is_ascii_digit text && d) (and-true (is_ascii_digit b)));
  number = λ e.
      let parts = and_parts are_digits (is_ascii_digit b) e in
      let P : ℕ → Type 0 = λ n. SomeIff after (n < 2 ^ 64) n in
      let pushed : number_of text * 10 + (b - 48) ≡ number_of (text ++ b ∷ []) = ap (λ (d : ℕ). number_of text * 10 + d) (sym (digit_value_is b parts.1)) ∙ sym (digits_value_push 10 text b) in
      subst P pushed (step (number_of text) (h.number parts.0));
}

-- a scan of the first i bytes and the next is one of i + 1 bytes
pub read_more : (bs : List ℕ) (i : ℕ) (read : NumeralScan) → i < length bs → IsScanOf read (take i bs ++ get_or bs i 0 ∷ []) → IsScanOf read (take (i + 1) bs)
read_more bs i read lt h = let P : List ℕ → Type 0 = λ t. IsScanOf read t in subst P (sym (take_more bs i 0 lt)) h
