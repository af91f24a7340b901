-- The order of the modes, by Gray, Lorie, Putzolu and Traiger (1976), and by this project's choice for U. A higher mode
-- gives more access.
use Rattle.std.specs.Prelude.{Bool, true, false}
use Rattle.lock_modes.specs.declared.Mode.{Mode}
use Rattle.lock_modes.specs.declared.Mode.TheVariants.{NL, IS, IX, S, SIX, U, X}

-- each mode, and the modes directly above it
pub data IsDirectlyBelow : Mode → Mode → Type 0 where
  nl_is : IsDirectlyBelow NL IS
  is_ix : IsDirectlyBelow IS IX
  is_s : IsDirectlyBelow IS S
  ix_six : IsDirectlyBelow IX SIX
  s_six : IsDirectlyBelow S SIX
  s_u : IsDirectlyBelow S U
  six_x : IsDirectlyBelow SIX X
  u_x : IsDirectlyBelow U X

-- the first mode is at or below the second: the two are the same, or a chain of such pairs leads up
pub data IsAtOrBelow : Mode → Mode → Type 0 where
  same : {a : Mode} → IsAtOrBelow a a
  chain : {a b c : Mode} → IsDirectlyBelow a b → IsAtOrBelow b c → IsAtOrBelow a c

-- IsAtOrBelow as a table that computes
abbrev pub at_or_below : Mode → Mode → Bool
at_or_below NL _ = true
at_or_below IS NL = false
at_or_below IS _ = true
at_or_below IX IX = true
at_or_below IX SIX = true
at_or_below IX X = true
at_or_below IX _ = false
at_or_below S S = true
at_or_below S SIX = true
at_or_below S U = true
at_or_below S X = true
at_or_below S _ = false
at_or_below SIX SIX = true
at_or_below SIX X = true
at_or_below SIX _ = false
at_or_below U U = true
at_or_below U X = true
at_or_below U _ = false
at_or_below X X = true
at_or_below X _ = false

-- m is at or above a and b, and at or below every other mode that is
pub record IsLeastUpperBound (a b m : Mode) : Type 0 where
  pub left : IsAtOrBelow a m
  pub right : IsAtOrBelow b m
  pub least : (n : Mode) → IsAtOrBelow a n → IsAtOrBelow b n → IsAtOrBelow m n

-- the least upper bound as a table that computes
abbrev pub sup_of : Mode → Mode → Mode
sup_of NL b = b
sup_of IS NL = IS
sup_of IS b = b
sup_of IX NL = IX
sup_of IX IS = IX
sup_of IX IX = IX
sup_of IX S = SIX
sup_of IX SIX = SIX
sup_of IX U = X
sup_of IX X = X
sup_of S NL = S
sup_of S IS = S
sup_of S IX = SIX
sup_of S S = S
sup_of S SIX = SIX
sup_of S U = U
sup_of S X = X
sup_of SIX U = X
sup_of SIX X = X
sup_of SIX _ = SIX
sup_of U IX = X
sup_of U SIX = X
sup_of U X = X
sup_of U _ = U
sup_of X _ = X

-- the weakest mode in which the parent has to be held for a lock in this mode
abbrev pub need_of : Mode → Mode
need_of NL = NL
need_of IS = IS
need_of IX = IX
need_of S = IS
need_of SIX = IX
need_of U = IX
need_of X = IX
