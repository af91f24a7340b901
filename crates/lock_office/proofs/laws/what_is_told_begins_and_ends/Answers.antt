use Rattle.std.proofs.Common.{refl}
use Rattle.lock_office.proofs.Held.{stays, asks-on, program-kept}
use Rattle.publication.specs.Views.{asks}
use Rattle.lock_office.proofs.laws.what_is_told_begins_and_ends.Goals as goal

pub returns-clause-by_calls : goal.returns-clause-by_calls
returns-clause-by_calls c answers r m = (λ t. t.told, λ t. record { told = t; kept = λ p none. absurd (cc none) })

pub returns-clause-stays : goal.returns-clause-stays
returns-clause-stays c = stays

pub returns-clause-keeps : goal.returns-clause-keeps
returns-clause-keeps c a r = program-kept r a

pub returns-clause-asks_on : goal.returns-clause-asks_on
returns-clause-asks_on c = asks-on

pub returns-clause-asked_back : goal.returns-clause-asked_back
returns-clause-asked_back c answers program floor r m gives t = gives (t.kept (asks program floor) refl)
