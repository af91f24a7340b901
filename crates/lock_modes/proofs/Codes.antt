-- Codes and masks agree with the order, the least upper bound and the table of compatible modes.
use Rattle.std.proofs.Common.{◌≡◌, ℕ, ◌↔◌, false, eqb, refl, sym, ◌∙◌, ap, bit_and, bit_or}
use mathlib.Core.Bool.{beq}
use Rattle.std.proofs.lemmas.Bool.{ne_eqb}
use Rattle.std.proofs.lemmas.Bool.Decides.{Decides-eqb}
use Rattle.lock_modes.specs.declared.Mode.{Mode}
use Rattle.lock_modes.specs.declared.Mode.TheVariants.{NL, IS, IX, S, SIX, U, X}
use Rattle.lock_modes.specs.Order.{at_or_below, sup_of}
use Rattle.lock_modes.specs.Compatibility.{IsCompatible, are_compatible}
use Rattle.lock_modes.specs.Codes.{code_of, mode_of_code, mask_of}
use Rattle.lock_modes.proofs.Every.{every2-at, beq-same}
use Rattle.lock_modes.proofs.Compatibility.{compatible-from, compatible-tests}

-- the mode with the code of m is m
pub mode_of_code-code : (m : Mode) → mode_of_code (code_of m) ≡ m
mode_of_code-code NL = refl
mode_of_code-code IS = refl
mode_of_code-code IX = refl
mode_of_code-code S = refl
mode_of_code-code SIX = refl
mode_of_code-code U = refl
mode_of_code-code X = refl

-- a number that is the code of no mode gives NL
pub mode_of_code-none : (c : ℕ) → ((m : Mode) → c ≡ code_of m → ⊥) → mode_of_code c ≡ NL
mode_of_code-none c other =
    let not : (m : Mode) → eqb c (code_of m) ≡ false = λ m. ne_eqb c (code_of m) (other m) in
    rw (not IS, not IX, not S, not SIX, not U, not X) refl

-- no two modes have the same code
pub same_code : (a b : Mode) → code_of a ≡ code_of b → a ≡ b
same_code a b e = sym (mode_of_code-code a) ∙ ap mode_of_code e ∙ mode_of_code-code b

-- the test of a mask against a code is the table of compatible modes
pub mask-same : (a b : Mode) → eqb (bit_and (mask_of a) (code_of b)) 0 ≡ are_compatible a b
mask-same a b = beq-same _ _ (every2-at (λ a b. beq (eqb (bit_and (mask_of a) (code_of b)) 0) (are_compatible a b)) refl a b)

-- a mask meets no bit of a code exactly if the modes are compatible
pub mask_agrees : (a b : Mode) → (bit_and (mask_of a) (code_of b) ≡ 0) ↔ IsCompatible a b
mask_agrees a b = (
  λ e. compatible-from a b (sym (mask-same a b) ∙ (Decides-eqb (bit_and (mask_of a) (code_of b)) 0).1 e),
  λ h. (Decides-eqb (bit_and (mask_of a) (code_of b)) 0).0 (mask-same a b ∙ compatible-tests a b h),
)

-- the test of two codes that `covers` makes is the order
pub covers-same : (a b : Mode) → eqb (bit_or (code_of a) (code_of b)) (code_of a) ≡ at_or_below b a
covers-same a b = beq-same _ _ (every2-at (λ a b. beq (eqb (bit_or (code_of a) (code_of b)) (code_of a)) (at_or_below b a)) refl a b)

-- the code of the least upper bound is the bitwise or of the codes
pub sup-code : (a b : Mode) → code_of (sup_of a b) ≡ bit_or (code_of a) (code_of b)
sup-code a b = (Decides-eqb (code_of (sup_of a b)) (bit_or (code_of a) (code_of b))).0 (every2-at (λ a b. eqb (code_of (sup_of a b)) (bit_or (code_of a) (code_of b))) refl a b)
