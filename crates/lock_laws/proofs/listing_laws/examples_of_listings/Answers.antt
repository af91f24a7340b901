use Rattle.std.proofs.Common.{refl}
use Rattle.lock_laws.proofs.listing_laws.examples_of_listings.Goals as goal

pub returns-clause-both : goal.returns-clause-both
returns-clause-both c = refl

pub returns-clause-front : goal.returns-clause-front
returns-clause-front c = refl
