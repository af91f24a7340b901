use Rattle.lock_rules.proofs.Owners.{state-numbered}
use Rattle.history_commands.proofs.StateTold.{rows-follow}
use Rattle.history_commands.proofs.WaitsFollow.{waits-follow}
use Rattle.history_commands.proofs.laws.waits_follow_from_locks_and_requests.Goals as goal

pub returns-clause-waits : goal.returns-clause-waits
returns-clause-waits c = λ n history within. waits-follow history n (λ s q e. (state-numbered history).owners.waiting s q e)

pub returns-clause-rows : goal.returns-clause-rows
returns-clause-rows c = λ n history within. rows-follow n history within
