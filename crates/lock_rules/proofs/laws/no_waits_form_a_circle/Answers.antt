use Rattle.lock_rules.proofs.Lawful.{lawful}
use Rattle.lock_rules.proofs.laws.no_waits_form_a_circle.Goals as goal

pub returns : goal.returns
returns c = λ es. (lawful es).no_circle
