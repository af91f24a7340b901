-- Which mode may be granted beside which, by Gray, Lorie, Putzolu and Traiger (1976), and by this project's choice for U.
use Rattle.std.specs.Prelude.{Bool, true, false}
use Rattle.lock_modes.specs.declared.Mode.{Mode}
use Rattle.lock_modes.specs.declared.Mode.TheVariants.{NL, IS, IX, S, SIX, U, X}

-- The pairs of a mode asked and a mode granted: the first may be granted while another transaction holds the second. The
-- order counts for U: it may be granted beside IS and S, and neither of them may be granted beside U.
pub data IsCompatible : Mode → Mode → Type 0 where
  nl_any : {granted : Mode} → IsCompatible NL granted
  any_nl : {asked : Mode} → IsCompatible asked NL
  is_is : IsCompatible IS IS
  is_ix : IsCompatible IS IX
  is_s : IsCompatible IS S
  is_six : IsCompatible IS SIX
  ix_is : IsCompatible IX IS
  ix_ix : IsCompatible IX IX
  s_is : IsCompatible S IS
  s_s : IsCompatible S S
  six_is : IsCompatible SIX IS
  u_is : IsCompatible U IS
  u_s : IsCompatible U S

-- IsCompatible as a table that computes
abbrev pub are_compatible : Mode → Mode → Bool
are_compatible NL _ = true
are_compatible _ NL = true
are_compatible IS U = false
are_compatible IS X = false
are_compatible IS _ = true
are_compatible IX IS = true
are_compatible IX IX = true
are_compatible IX _ = false
are_compatible S IS = true
are_compatible S S = true
are_compatible S _ = false
are_compatible SIX IS = true
are_compatible SIX _ = false
are_compatible U IS = true
are_compatible U S = true
are_compatible U _ = false
are_compatible X _ = false
