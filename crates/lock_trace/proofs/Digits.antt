-- Decimal numbers, digit by digit.
use Rattle.std.proofs.Common.{◌≡◌, ℕ, ◌+◌, ◌*◌, ◌/◌, ◌%◌, ◌^◌, ◌<◌, ◌≤◌, List, [], ◌∷◌, ◌++◌, ap, ◌∙◌, append_assoc, arith}
use Rattle.std.specs.Prelude.{decimal}
use Rattle.std.proofs.lemmas.Fmt.{decimal_digit, decimal_step}

-- A number with one more digit is the text of the number, followed by the digit.
pub digit_more : (n d : ℕ) → 0 < n → n < 2 ^ 32 → d < 10 → decimal (n * 10 + d) ≡ decimal n ++ (48 + d) ∷ []
digit_more n d some small lt =
    let front : (n * 10 + d) / 10 ≡ n = omega (arith, lt) in
    let last : (n * 10 + d) % 10 ≡ d = omega (arith, lt) in
    decimal_step (n * 10 + d) (omega (arith, some)) (omega (arith, small, lt))
    ∙ ap (λ (k : ℕ). decimal k ++ (48 + (n * 10 + d) % 10) ∷ []) front
    ∙ ap (λ (k : ℕ). decimal n ++ (48 + k) ∷ []) last

-- A number from 10 to 99 is its tens digit and its units digit.
pub two_digits : (n : ℕ) → 10 ≤ n → n < 100 → decimal n ≡ (48 + n / 10) ∷ (48 + n % 10) ∷ []
two_digits n low high = decimal_step n low (omega (arith, high)) ∙ ap (λ (t : List ℕ). t ++ (48 + n % 10) ∷ []) (decimal_digit (n / 10) (omega (arith, high)))

-- A number from 100 on is the text of its hundreds, followed by two digits.
pub hundreds : (n : ℕ) → 100 ≤ n → n < 2 ^ 64 → decimal n ≡ decimal (n / 100) ++ (48 + n % 100 / 10) ∷ (48 + n % 100 % 10) ∷ []
hundreds n low high =
    let tens : n / 10 / 10 ≡ n / 100 = omega arith in
    let first : n / 10 % 10 ≡ n % 100 / 10 = omega arith in
    let second : n % 10 ≡ n % 100 % 10 = omega arith in
    decimal_step n (omega (arith, low)) high
    ∙ ap (λ (t : List ℕ). t ++ (48 + n % 10) ∷ []) (decimal_step (n / 10) (omega (arith, low)) (omega (arith, high)))
    ∙ append_assoc (decimal (n / 10 / 10)) ((48 + n / 10 % 10) ∷ []) ((48 + n % 10) ∷ [])
    ∙ ap (λ (k : ℕ). decimal k ++ (48 + n / 10 % 10) ∷ (48 + n % 10) ∷ []) tens
    ∙ ap (λ (k : ℕ). decimal (n / 100) ++ (48 + k) ∷ (48 + n % 10) ∷ []) first
    ∙ ap (λ (k : ℕ). decimal (n / 100) ++ (48 + n % 100 / 10) ∷ (48 + k) ∷ []) second
