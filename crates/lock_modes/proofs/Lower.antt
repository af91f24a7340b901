-- Compatible modes stay compatible if either of them is lowered.
use Rattle.std.proofs.Common.{◌≡◌, true, ◌||◌, refl, not}
use Rattle.lock_modes.specs.declared.Mode.{Mode}
use Rattle.lock_modes.specs.Order.{IsAtOrBelow, at_or_below}
use Rattle.lock_modes.specs.Compatibility.{IsCompatible, are_compatible}
use Rattle.lock_modes.proofs.Every.{every3-at, implied}
use Rattle.lock_modes.proofs.Order.{order-tests}
use Rattle.lock_modes.proofs.Compatibility.{compatible-tests, compatible-from}

-- what is compatible by the table stays so if the mode asked is lowered
lower-asked : (a b c : Mode) → at_or_below a b ≡ true → are_compatible b c ≡ true → are_compatible a c ≡ true
lower-asked a b c h k = implied (are_compatible b c) _ (implied (at_or_below a b) _ (every3-at (λ a b c. not (at_or_below a b) || (not (are_compatible b c) || are_compatible a c)) refl a b c) h) k

-- what is compatible by the table stays so if the mode granted is lowered
lower-granted : (a b c : Mode) → at_or_below b c ≡ true → are_compatible a c ≡ true → are_compatible a b ≡ true
lower-granted a b c h k = implied (are_compatible a c) _ (implied (at_or_below b c) _ (every3-at (λ a b c. not (at_or_below b c) || (not (are_compatible a c) || are_compatible a b)) refl a b c) h) k

-- modes at or below compatible ones are compatible
pub compatible-below : (a b c d : Mode) → IsAtOrBelow a b → IsAtOrBelow c d → IsCompatible b d → IsCompatible a c
compatible-below a b c d p q h = compatible-from a c (lower-granted a c d (order-tests q) (lower-asked a b d (order-tests p) (compatible-tests b d h)))
