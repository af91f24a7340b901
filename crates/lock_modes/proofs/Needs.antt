-- What modes need of the parent.
use Rattle.std.proofs.Common.{◌≢◌, ◌||◌, refl, not}
use Rattle.lock_modes.specs.declared.Mode.{Mode}
use Rattle.lock_modes.specs.declared.Mode.TheVariants.{NL, IS, IX, S, SIX, U, X}
use Rattle.lock_modes.specs.Order.{IsAtOrBelow, at_or_below, need_of}
use Rattle.lock_modes.specs.Compatibility.{IsCompatible, are_compatible}
use Rattle.lock_modes.proofs.Every.{every2-at, implied}
use Rattle.lock_modes.proofs.Order.{order-tests, order-from}
use Rattle.lock_modes.proofs.Compatibility.{compatible-from}

-- the need of a mode is at or below it, except for U
pub need_below : (m : Mode) → m ≢ U → IsAtOrBelow (need_of m) m
need_below NL n = order-from NL NL refl
need_below IS n = order-from IS IS refl
need_below IX n = order-from IX IX refl
need_below S n = order-from IS S refl
need_below SIX n = order-from IX SIX refl
need_below U n = absurd (n refl)
need_below X n = order-from IX X refl

-- a higher mode needs no less
pub need_rises : (a b : Mode) → IsAtOrBelow a b → IsAtOrBelow (need_of a) (need_of b)
need_rises a b h = order-from (need_of a) (need_of b) (implied (at_or_below a b) _ (every2-at (λ a b. not (at_or_below a b) || at_or_below (need_of a) (need_of b)) refl a b) (order-tests h))

-- any two needs are compatible
pub needs_together : (a b : Mode) → IsCompatible (need_of a) (need_of b)
needs_together a b = compatible-from (need_of a) (need_of b) (every2-at (λ a b. are_compatible (need_of a) (need_of b)) refl a b)
