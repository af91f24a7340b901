use Rattle.lock_rules.proofs.Listings.{listing-shows}
use Rattle.lock_rules.proofs.laws.listings_show_the_table.Goals as goal

pub returns : goal.returns
returns c = λ es. listing-shows es
