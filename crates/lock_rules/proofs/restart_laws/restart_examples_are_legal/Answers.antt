use Rattle.std.proofs.Common.{refl}
use Rattle.lock_rules.specs.declared.calls.Reply.TheVariants.{Began, Waiting, Deadlock, Refused, Restarted}
use Rattle.lock_rules.specs.declared.calls.Why.TheVariants.{NoTransaction, IsWaiting}
use Rattle.lock_rules.specs.Restarts.{victim_that_restarts, restart_while_waiting}
use Rattle.lock_rules.proofs.Restarts.{legal-victim_that_restarts, legal-restart_while_waiting}
use Rattle.lock_rules.proofs.WrongReplies.{wrong}
use Rattle.lock_rules.proofs.restart_laws.restart_examples_are_legal.Goals as goal

pub returns-clause-victim_that_restarts : goal.returns-clause-victim_that_restarts
returns-clause-victim_that_restarts c = legal-victim_that_restarts

pub returns-clause-restart_without_a_transaction : goal.returns-clause-restart_without_a_transaction
returns-clause-restart_without_a_transaction c = wrong 0 (Restarted 0) victim_that_restarts refl legal-victim_that_restarts

pub returns-clause-victim_without_its_locks : goal.returns-clause-victim_without_its_locks
returns-clause-victim_without_its_locks c = wrong 7 (Restarted 0) victim_that_restarts refl legal-victim_that_restarts

pub returns-clause-restart_leaves_the_doom : goal.returns-clause-restart_leaves_the_doom
returns-clause-restart_leaves_the_doom c = wrong 8 Deadlock victim_that_restarts refl legal-victim_that_restarts

pub returns-clause-restart_ends_the_transaction : goal.returns-clause-restart_ends_the_transaction
returns-clause-restart_ends_the_transaction c = wrong 8 (Refused NoTransaction) victim_that_restarts refl legal-victim_that_restarts

pub returns-clause-restart_without_promotion : goal.returns-clause-restart_without_promotion
returns-clause-restart_without_promotion c = wrong 9 Waiting victim_that_restarts refl legal-victim_that_restarts

pub returns-clause-begun_after_a_restart : goal.returns-clause-begun_after_a_restart
returns-clause-begun_after_a_restart c = wrong 10 (Began 3) victim_that_restarts refl legal-victim_that_restarts

pub returns-clause-restart_takes_a_number : goal.returns-clause-restart_takes_a_number
returns-clause-restart_takes_a_number c = wrong 12 (Began 4) victim_that_restarts refl legal-victim_that_restarts

pub returns-clause-restarted_is_the_youngest : goal.returns-clause-restarted_is_the_youngest
returns-clause-restarted_is_the_youngest c = wrong 16 Waiting victim_that_restarts refl legal-victim_that_restarts

pub returns-clause-restarted_is_a_victim : goal.returns-clause-restarted_is_a_victim
returns-clause-restarted_is_a_victim c = wrong 17 Deadlock victim_that_restarts refl legal-victim_that_restarts

pub returns-clause-restart_while_waiting : goal.returns-clause-restart_while_waiting
returns-clause-restart_while_waiting c = legal-restart_while_waiting

pub returns-clause-restart_refused : goal.returns-clause-restart_refused
returns-clause-restart_refused c = wrong 7 (Refused IsWaiting) restart_while_waiting refl legal-restart_while_waiting

pub returns-clause-restart_leaves_its_place_in_the_queue : goal.returns-clause-restart_leaves_its_place_in_the_queue
returns-clause-restart_leaves_its_place_in_the_queue c = wrong 8 Waiting restart_while_waiting refl legal-restart_while_waiting

pub returns-clause-restart_leaves_its_request : goal.returns-clause-restart_leaves_its_request
returns-clause-restart_leaves_its_request c = wrong 9 Waiting restart_while_waiting refl legal-restart_while_waiting

pub returns-clause-restart_keeps_a_lock : goal.returns-clause-restart_keeps_a_lock
returns-clause-restart_keeps_a_lock c = wrong 10 Waiting restart_while_waiting refl legal-restart_while_waiting

pub returns-clause-restart_counts_a_lock_twice : goal.returns-clause-restart_counts_a_lock_twice
returns-clause-restart_counts_a_lock_twice c = wrong 11 (Restarted 1) restart_while_waiting refl legal-restart_while_waiting

pub returns-clause-restart_after_an_abort : goal.returns-clause-restart_after_an_abort
returns-clause-restart_after_an_abort c = wrong 13 (Restarted 0) restart_while_waiting refl legal-restart_while_waiting
