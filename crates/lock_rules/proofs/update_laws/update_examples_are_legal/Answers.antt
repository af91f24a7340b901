use Rattle.std.proofs.Common.{refl}
use Rattle.lock_modes.specs.declared.Mode.TheVariants.{S, U, X}
use Rattle.lock_rules.specs.declared.calls.Reply.TheVariants.{Granted, Waiting, Deadlock, Clear, Refused}
use Rattle.lock_rules.specs.declared.calls.Why.TheVariants.{ParentNotHeld}
use Rattle.lock_rules.specs.Updates.{update_beside_readers, update_with_intention, update_under_parent, updates_one_after_another}
use Rattle.lock_rules.proofs.Updates.{legal-update_beside_readers, legal-update_with_intention, legal-update_under_parent, legal-updates_one_after_another}
use Rattle.lock_rules.proofs.WrongReplies.{wrong}
use Rattle.lock_rules.proofs.update_laws.update_examples_are_legal.Goals as goal

pub returns-clause-update_beside_readers : goal.returns-clause-update_beside_readers
returns-clause-update_beside_readers c = legal-update_beside_readers

pub returns-clause-update_waits_for_readers : goal.returns-clause-update_waits_for_readers
returns-clause-update_waits_for_readers c = wrong 4 Waiting update_beside_readers refl legal-update_beside_readers

pub returns-clause-reader_beside_an_update : goal.returns-clause-reader_beside_an_update
returns-clause-reader_beside_an_update c = wrong 5 (Granted S) update_beside_readers refl legal-update_beside_readers

pub returns-clause-reader_promoted_beside_an_update : goal.returns-clause-reader_promoted_beside_an_update
returns-clause-reader_promoted_beside_an_update c = wrong 7 Clear update_beside_readers refl legal-update_beside_readers

pub returns-clause-conversion_waits_for_a_waiting_reader : goal.returns-clause-conversion_waits_for_a_waiting_reader
returns-clause-conversion_waits_for_a_waiting_reader c = wrong 8 Waiting update_beside_readers refl legal-update_beside_readers

pub returns-clause-reader_waits_on : goal.returns-clause-reader_waits_on
returns-clause-reader_waits_on c = wrong 10 Waiting update_beside_readers refl legal-update_beside_readers

pub returns-clause-update_with_intention : goal.returns-clause-update_with_intention
returns-clause-update_with_intention c = legal-update_with_intention

pub returns-clause-update_beside_an_update : goal.returns-clause-update_beside_an_update
returns-clause-update_beside_an_update c = wrong 3 (Granted U) update_with_intention refl legal-update_with_intention

pub returns-clause-greater_of_update_and_intention : goal.returns-clause-greater_of_update_and_intention
returns-clause-greater_of_update_and_intention c = wrong 4 (Granted U) update_with_intention refl legal-update_with_intention

pub returns-clause-update_under_parent : goal.returns-clause-update_under_parent
returns-clause-update_under_parent c = legal-update_under_parent

pub returns-clause-update_under_intention_to_read : goal.returns-clause-update_under_intention_to_read
returns-clause-update_under_intention_to_read c = wrong 2 (Granted U) update_under_parent refl legal-update_under_parent

pub returns-clause-reader_under_an_update_refused : goal.returns-clause-reader_under_an_update_refused
returns-clause-reader_under_an_update_refused c = wrong 5 (Refused ParentNotHeld) update_under_parent refl legal-update_under_parent

pub returns-clause-writer_under_an_update : goal.returns-clause-writer_under_an_update
returns-clause-writer_under_an_update c = wrong 6 (Granted X) update_under_parent refl legal-update_under_parent

pub returns-clause-updates_one_after_another : goal.returns-clause-updates_one_after_another
returns-clause-updates_one_after_another c = legal-updates_one_after_another

pub returns-clause-updates_in_a_deadlock : goal.returns-clause-updates_in_a_deadlock
returns-clause-updates_in_a_deadlock c = wrong 3 Deadlock updates_one_after_another refl legal-updates_one_after_another
