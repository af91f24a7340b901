-- Facts of the modes, computed over whole tables.
use Rattle.std.proofs.Common.{◌≡◌, Bool, true, false, not, ◌||◌, Option, Some, None, refl, ap}
use Rattle.std.proofs.lemmas.Bool.{not-true}
use Rattle.lock_modes.specs.declared.Mode.{Mode}
use Rattle.lock_modes.specs.declared.Mode.TheVariants.{NL, IS, IX, S, X}
use Rattle.lock_modes.specs.Order.{at_or_below, sup_of, need_of}
use Rattle.lock_modes.specs.Compatibility.{are_compatible}
use Rattle.lock_rules.specs.State.{mode_or_nothing}
use Rattle.lock_rules.specs.Waits.{conflicts}
use Rattle.lock_rules.specs.Step.{is_nothing}
use Rattle.lock_modes.proofs.Every.{every-at, every2-at, every3-at, implied}

-- NL is at or below every mode
pub nothing-below : (a : Mode) → at_or_below NL a ≡ true
nothing-below = every-at (at_or_below NL) refl

-- every mode is compatible with NL
any-nothing : (m : Mode) → are_compatible m NL ≡ true
any-nothing = every-at (λ m. are_compatible m NL) refl

-- a conflict with a held mode is a conflict with any mode above it
raised : (m a b : Mode) → at_or_below a b ≡ true → not (are_compatible m a) ≡ true → not (are_compatible m b) ≡ true
raised m a b h k = implied (not (are_compatible m a)) _ (implied (at_or_below a b) _ (every3-at (λ m a b. not (at_or_below a b) || (not (not (are_compatible m a)) || not (are_compatible m b))) refl m a b) h) k

-- a conflict stays if the held mode rises
pub conflicts-raised : (m : Mode) (o o' : Option Mode) → at_or_below (mode_or_nothing o) (mode_or_nothing o') ≡ true → conflicts m o ≡ true → conflicts m o' ≡ true
conflicts-raised m None o' h k = absurd (cc)
conflicts-raised m (Some a) (Some b) h k = raised m a b h k
conflicts-raised m (Some a) None h k = let r = raised m a NL h k in let e = any-nothing m in absurd (no (are_compatible m NL) e r)
  where
    no : (b : Bool) → b ≡ true → not b ≡ true → ⊥
    no true e r = cc
    no false e r = cc

-- a mode other than NL needs a mode other than NL of the parent
pub need-some : (m : Mode) → is_nothing m ≡ false → at_or_below (need_of m) NL ≡ false
need-some m h = not-true _ (implied (not (is_nothing m)) _ (every-at (λ m. not (not (is_nothing m)) || not (at_or_below (need_of m) NL)) refl m) (ap not h))

-- NL is not at or above any other mode
pub some-above : (m : Mode) → is_nothing m ≡ false → at_or_below m NL ≡ false
some-above m h = not-true _ (implied (not (is_nothing m)) _ (every-at (λ m. not (not (is_nothing m)) || not (at_or_below m NL)) refl m) (ap not h))

-- the target of a request is at or above the held mode
pub below-sup : (a b : Mode) → at_or_below a (sup_of a b) ≡ true
below-sup = every2-at (λ a b. at_or_below a (sup_of a b)) refl

-- the target is not NL if the mode asked is not NL
pub sup-some : (k m : Mode) → is_nothing m ≡ false → is_nothing (sup_of k m) ≡ false
sup-some k m h = not-true _ (implied (not (is_nothing m)) _ (every2-at (λ k m. not (not (is_nothing m)) || not (is_nothing (sup_of k m))) refl k m) (ap not h))

-- a mode at or above IX and one at or above S conflict, in either order
pub no_ix_s : (a b : Mode) → at_or_below IX a ≡ true → at_or_below S b ≡ true → (are_compatible a b ≡ false) × (are_compatible b a ≡ false)
no_ix_s a b h k = (
  not-true _ (implied (at_or_below S b) _ (implied (at_or_below IX a) _ (every2-at (λ a b. not (at_or_below IX a) || (not (at_or_below S b) || not (are_compatible a b))) refl a b) h) k),
  not-true _ (implied (at_or_below S b) _ (implied (at_or_below IX a) _ (every2-at (λ a b. not (at_or_below IX a) || (not (at_or_below S b) || not (are_compatible b a))) refl a b) h) k),
)

-- a mode at or above X and one at or above IS conflict, in either order
pub no_x_is : (a b : Mode) → at_or_below X a ≡ true → at_or_below IS b ≡ true → (are_compatible a b ≡ false) × (are_compatible b a ≡ false)
no_x_is a b h k = (
  not-true _ (implied (at_or_below IS b) _ (implied (at_or_below X a) _ (every2-at (λ a b. not (at_or_below X a) || (not (at_or_below IS b) || not (are_compatible a b))) refl a b) h) k),
  not-true _ (implied (at_or_below IS b) _ (implied (at_or_below X a) _ (every2-at (λ a b. not (at_or_below X a) || (not (at_or_below IS b) || not (are_compatible b a))) refl a b) h) k),
)

-- a mode at or above IS needs at least IS of the parent
pub need-is : (m : Mode) → at_or_below IS m ≡ true → at_or_below IS (need_of m) ≡ true
need-is m h = implied (at_or_below IS m) _ (every-at (λ m. not (at_or_below IS m) || at_or_below IS (need_of m)) refl m) h

-- a mode at or above IX needs at least IX of the parent
pub need-ix : (m : Mode) → at_or_below IX m ≡ true → at_or_below IX (need_of m) ≡ true
need-ix m h = implied (at_or_below IX m) _ (every-at (λ m. not (at_or_below IX m) || at_or_below IX (need_of m)) refl m) h
