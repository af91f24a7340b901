use Rattle.std.proofs.Common.{◌≡◌, ℕ, zero, suc, ◌+◌, false, replicate, get_or, refl}
use Rattle.sequential.specs.declared.entry.TheConstants.{MAX_SESSIONS}
use Rattle.publication.proofs.roll.Roll.new.Goals as goal

-- no mark is set
all_false : (m n : ℕ) → get_or (replicate m false) n false ≡ false
all_false zero n = refl
all_false (suc m) zero = refl
all_false (suc m) (suc n) = all_false m n

pub returns : goal.returns
returns c n = all_false (MAX_SESSIONS + 1) n
