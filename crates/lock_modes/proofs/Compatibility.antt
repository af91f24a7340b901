-- The list of compatible pairs agrees with the table.
use Rattle.std.proofs.Common.{◌≡◌, true, ◌⊎◌, inl, inr, refl, Decides}
use Rattle.lock_modes.specs.declared.Mode.{Mode}
use Rattle.lock_modes.specs.declared.Mode.TheVariants.{NL, IS, IX, S, SIX, U, X}
use Rattle.lock_modes.specs.Compatibility.{IsCompatible, nl_any, any_nl, is_is, is_ix, is_s, is_six, ix_is, ix_ix, s_is, s_s, six_is, u_is, u_s, are_compatible}
use Rattle.lock_modes.proofs.Every.{every-at}

-- compatible modes are so by the table
pub compatible-tests : (a b : Mode) → IsCompatible a b → are_compatible a b ≡ true
compatible-tests a b nl_any = refl
compatible-tests a b any_nl = every-at (λ a. are_compatible a NL) refl a
compatible-tests a b is_is = refl
compatible-tests a b is_ix = refl
compatible-tests a b is_s = refl
compatible-tests a b is_six = refl
compatible-tests a b ix_is = refl
compatible-tests a b ix_ix = refl
compatible-tests a b s_is = refl
compatible-tests a b s_s = refl
compatible-tests a b six_is = refl
compatible-tests a b u_is = refl
compatible-tests a b u_s = refl

-- modes compatible by the table are compatible
pub compatible-from : (a b : Mode) → are_compatible a b ≡ true → IsCompatible a b
compatible-from NL b h = nl_any
compatible-from a NL h = any_nl
compatible-from IS IS h = is_is
compatible-from IS IX h = is_ix
compatible-from IS S h = is_s
compatible-from IS SIX h = is_six
compatible-from IS _ h = absurd (cc)
compatible-from IX IS h = ix_is
compatible-from IX IX h = ix_ix
compatible-from IX _ h = absurd (cc)
compatible-from S IS h = s_is
compatible-from S S h = s_s
compatible-from S _ h = absurd (cc)
compatible-from SIX IS h = six_is
compatible-from SIX _ h = absurd (cc)
compatible-from U IS h = u_is
compatible-from U S h = u_s
compatible-from U _ h = absurd (cc)
compatible-from X _ h = absurd (cc)

-- the table decides compatibility
pub compatible-decides : (a b : Mode) → Decides (are_compatible a b) (IsCompatible a b)
compatible-decides a b = (compatible-from a b, compatible-tests a b)

-- compatible modes are so in the other order too, unless U is asked beside IS or S
pub compatible-back : (a b : Mode) → IsCompatible a b → IsCompatible b a ⊎ ((a ≡ U) × ((b ≡ IS) ⊎ (b ≡ S)))
compatible-back a b nl_any = inl any_nl
compatible-back a b any_nl = inl nl_any
compatible-back a b is_is = inl is_is
compatible-back a b is_ix = inl ix_is
compatible-back a b is_s = inl s_is
compatible-back a b is_six = inl six_is
compatible-back a b ix_is = inl is_ix
compatible-back a b ix_ix = inl ix_ix
compatible-back a b s_is = inl is_s
compatible-back a b s_s = inl s_s
compatible-back a b six_is = inl is_six
compatible-back a b u_is = inr (refl, inl refl)
compatible-back a b u_s = inr (refl, inr refl)
