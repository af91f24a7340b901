use Rattle.std.proofs.Common.{Contains, refl, arith}
use Rattle.lock_modes.specs.declared.Mode.{Mode}
use Rattle.lock_modes.specs.declared.Mode.TheVariants.{NL, IS, IX, S, SIX, U, X}
use Rattle.lock_modes.specs.declared.TheConstants.{MODES}
use Rattle.lock_modes.proofs.laws.modes_are_listed_once.Goals as goal

-- where each mode is in the list
listed : (m : Mode) → Contains MODES m
listed NL = (0, omega arith, refl)
listed IS = (1, omega arith, refl)
listed IX = (2, omega arith, refl)
listed S = (3, omega arith, refl)
listed SIX = (4, omega arith, refl)
listed U = (5, omega arith, refl)
listed X = (6, omega arith, refl)

pub returns-clause-every : goal.returns-clause-every
returns-clause-every c = listed
