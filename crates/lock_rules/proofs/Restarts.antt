-- Each history with restarts is legal: the prover serves its calls and compares the replies.
use Rattle.std.proofs.Common.{refl}
use Rattle.lock_rules.specs.Legal.{IsLegal}
use Rattle.lock_rules.specs.Restarts.{victim_that_restarts, restart_while_waiting}
use Rattle.lock_rules.proofs.Histories.{legal-served}

pub legal-victim_that_restarts : IsLegal victim_that_restarts
legal-victim_that_restarts = legal-served victim_that_restarts refl

pub legal-restart_while_waiting : IsLegal restart_while_waiting
legal-restart_while_waiting = legal-served restart_while_waiting refl
