use Rattle.lock_rules.proofs.Lawful.{lawful}
use Rattle.lock_rules.proofs.laws.fits_is_compatible_with_others.Goals as goal

pub returns : goal.returns
returns c = λ es. (lawful es).fit_exact
