-- Facts of all modes: a test over the whole table computes to true, and so holds of each mode.
use Rattle.std.proofs.Common.{◌≡◌, Bool, true, false, ◌&&◌, ◌||◌, refl, not}
use Rattle.std.proofs.lemmas.Bool.{and_parts}
use mathlib.Core.Bool.{beq}
use Rattle.lock_modes.specs.declared.Mode.{Mode}
use Rattle.lock_modes.specs.declared.Mode.TheVariants.{NL, IS, IX, S, SIX, U, X}

-- the test passes for every mode
abbrev pub every : (Mode → Bool) → Bool
every p = p NL && (p IS && (p IX && (p S && (p SIX && (p U && p X)))))

-- a test that passes for every mode passes for this one
pub every-at : (p : Mode → Bool) → every p ≡ true → (m : Mode) → p m ≡ true
every-at p h m =
    let h1 = and_parts (p NL) (p IS && (p IX && (p S && (p SIX && (p U && p X))))) h in
    let h2 = and_parts (p IS) (p IX && (p S && (p SIX && (p U && p X)))) h1.1 in
    let h3 = and_parts (p IX) (p S && (p SIX && (p U && p X))) h2.1 in
    let h4 = and_parts (p S) (p SIX && (p U && p X)) h3.1 in
    let h5 = and_parts (p SIX) (p U && p X) h4.1 in
    let h6 = and_parts (p U) (p X) h5.1 in
    elim m as (λ n. p n ≡ true) [ NL ↦ h1.0 | IS ↦ h2.0 | IX ↦ h3.0 | S ↦ h4.0 | SIX ↦ h5.0 | U ↦ h6.0 | X ↦ h6.1 ]

-- a test that passes for every two modes passes for these
pub every2-at : (p : Mode → Mode → Bool) → every (λ a. every (p a)) ≡ true → (a b : Mode) → p a b ≡ true
every2-at p h a b = every-at (p a) (every-at (λ a. every (p a)) h a) b

-- a test that passes for every three modes passes for these
pub every3-at : (p : Mode → Mode → Mode → Bool) → every (λ a. every (λ b. every (p a b))) ≡ true → (a b c : Mode) → p a b c ≡ true
every3-at p h a b c = every-at (p a b) (every2-at (λ a b. every (p a b)) h a b) c

-- truth values that the test finds equal are equal
pub beq-same : (x y : Bool) → beq x y ≡ true → x ≡ y
beq-same true true h = refl
beq-same false false h = refl
beq-same true false h = cc
beq-same false true h = cc

-- an implication by truth values is one
pub implied : (x y : Bool) → (not x || y) ≡ true → x ≡ true → y ≡ true
implied true y h e = h
implied false y h e = cc
