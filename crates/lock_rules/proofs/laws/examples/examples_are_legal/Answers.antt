use Rattle.std.proofs.Common.{refl}
use Rattle.lock_modes.specs.declared.Mode.TheVariants.{IS, IX, S, SIX, X}
use Rattle.lock_rules.specs.declared.calls.Reply.TheVariants.{Began, Granted, Waiting, Deadlock, Clear, Released, Committed, Aborted, Refused, Withdrawn}
use Rattle.lock_rules.specs.declared.calls.Why.TheVariants.{NoTransaction, IsWaiting, NothingAsked, NotHeld, ParentNotHeld, ChildHeld, TooManyLocks, WouldWait, NotWaiting}
use Rattle.lock_rules.specs.Examples.{queue_in_order, promotion_stops, readers_together, promotion_in_order, intentions, refusals, down_the_tree, up_the_tree, release_promotes, release_of_one, asks_again, conversion_first, conversion_at_once, conversion_under_parent, abort_while_waiting, readers_that_convert, youngest_of_two, victim_in_the_way, conversions_that_meet, circle_through_the_queue, two_victims, begin_beside_others, polls, release_above_another, commit_of_four, conversion_to_the_upper_bound, conversion_needs_more_of_the_parent, parents_on_each_level, releases_promote_one_after_another, begins_again, polls_again, circle_of_five, three_victims, beside_the_circle, tries, try_closes_no_circle, withdrawals, withdrawal_from_the_midst, withdrawal_too_late}
use Rattle.lock_rules.proofs.Worked.{legal-queue_in_order, legal-promotion_stops, legal-readers_together, legal-promotion_in_order, legal-intentions, legal-refusals, legal-down_the_tree, legal-up_the_tree, legal-release_promotes, legal-release_of_one, legal-asks_again, legal-conversion_first, legal-conversion_at_once, legal-conversion_under_parent, legal-abort_while_waiting, legal-readers_that_convert, legal-youngest_of_two, legal-victim_in_the_way, legal-conversions_that_meet, legal-circle_through_the_queue, legal-two_victims, legal-begin_beside_others, legal-polls, legal-release_above_another, legal-commit_of_four, legal-conversion_to_the_upper_bound, legal-conversion_needs_more_of_the_parent, legal-parents_on_each_level, legal-releases_promote_one_after_another, legal-begins_again, legal-polls_again, legal-circle_of_five, legal-three_victims, legal-beside_the_circle, legal-tries, legal-try_closes_no_circle, legal-withdrawals, legal-withdrawal_from_the_midst, legal-withdrawal_too_late}
use Rattle.lock_rules.proofs.WrongReplies.{wrong}
use Rattle.lock_rules.proofs.laws.examples.examples_are_legal.Goals as goal

pub returns-clause-queue_in_order : goal.returns-clause-queue_in_order
returns-clause-queue_in_order c = legal-queue_in_order

pub returns-clause-reader_jumps_the_queue : goal.returns-clause-reader_jumps_the_queue
returns-clause-reader_jumps_the_queue c = wrong 5 (Granted S) queue_in_order refl legal-queue_in_order

pub returns-clause-promotion_stops : goal.returns-clause-promotion_stops
returns-clause-promotion_stops c = legal-promotion_stops

pub returns-clause-promotion_goes_on : goal.returns-clause-promotion_goes_on
returns-clause-promotion_goes_on c = wrong 8 Clear promotion_stops refl legal-promotion_stops

pub returns-clause-promotion_left_out : goal.returns-clause-promotion_left_out
returns-clause-promotion_left_out c = wrong 7 Waiting promotion_stops refl legal-promotion_stops

pub returns-clause-readers_together : goal.returns-clause-readers_together
returns-clause-readers_together c = legal-readers_together

pub returns-clause-one_reader_alone : goal.returns-clause-one_reader_alone
returns-clause-one_reader_alone c = wrong 8 Waiting readers_together refl legal-readers_together

pub returns-clause-promotion_in_order : goal.returns-clause-promotion_in_order
returns-clause-promotion_in_order c = legal-promotion_in_order

pub returns-clause-reader_promoted_past_a_writer : goal.returns-clause-reader_promoted_past_a_writer
returns-clause-reader_promoted_past_a_writer c = wrong 9 Clear promotion_in_order refl legal-promotion_in_order

pub returns-clause-intentions : goal.returns-clause-intentions
returns-clause-intentions c = legal-intentions

pub returns-clause-shared_and_intention : goal.returns-clause-shared_and_intention
returns-clause-shared_and_intention c = wrong 4 Waiting intentions refl legal-intentions

pub returns-clause-intention_jumps : goal.returns-clause-intention_jumps
returns-clause-intention_jumps c = wrong 5 (Granted IX) intentions refl legal-intentions

pub returns-clause-refusals : goal.returns-clause-refusals
returns-clause-refusals c = legal-refusals

pub returns-clause-not_held_before_nothing_asked : goal.returns-clause-not_held_before_nothing_asked
returns-clause-not_held_before_nothing_asked c = wrong 5 (Refused NotHeld) refusals refl legal-refusals

pub returns-clause-number_used_again : goal.returns-clause-number_used_again
returns-clause-number_used_again c = wrong 9 (Began 1) refusals refl legal-refusals

pub returns-clause-converts_with_no_transaction : goal.returns-clause-converts_with_no_transaction
returns-clause-converts_with_no_transaction c = wrong 12 (Refused NotHeld) refusals refl legal-refusals

pub returns-clause-releases_with_no_transaction : goal.returns-clause-releases_with_no_transaction
returns-clause-releases_with_no_transaction c = wrong 14 (Refused NotHeld) refusals refl legal-refusals

pub returns-clause-aborts_no_transaction : goal.returns-clause-aborts_no_transaction
returns-clause-aborts_no_transaction c = wrong 15 (Aborted 0) refusals refl legal-refusals

pub returns-clause-parent_before_not_held : goal.returns-clause-parent_before_not_held
returns-clause-parent_before_not_held c = wrong 17 (Refused ParentNotHeld) refusals refl legal-refusals

pub returns-clause-parent_before_nothing_asked : goal.returns-clause-parent_before_nothing_asked
returns-clause-parent_before_nothing_asked c = wrong 18 (Refused ParentNotHeld) refusals refl legal-refusals

pub returns-clause-down_the_tree : goal.returns-clause-down_the_tree
returns-clause-down_the_tree c = legal-down_the_tree

pub returns-clause-parent_left_out : goal.returns-clause-parent_left_out
returns-clause-parent_left_out c = wrong 1 (Granted S) down_the_tree refl legal-down_the_tree

pub returns-clause-need_of_share_for_exclusive : goal.returns-clause-need_of_share_for_exclusive
returns-clause-need_of_share_for_exclusive c = wrong 3 (Granted X) down_the_tree refl legal-down_the_tree

pub returns-clause-grandparent_for_parent : goal.returns-clause-grandparent_for_parent
returns-clause-grandparent_for_parent c = wrong 5 (Granted S) down_the_tree refl legal-down_the_tree

pub returns-clause-up_the_tree : goal.returns-clause-up_the_tree
returns-clause-up_the_tree c = legal-up_the_tree

pub returns-clause-parent_before_child : goal.returns-clause-parent_before_child
returns-clause-parent_before_child c = wrong 4 Released up_the_tree refl legal-up_the_tree

pub returns-clause-release_kept : goal.returns-clause-release_kept
returns-clause-release_kept c = wrong 7 Released up_the_tree refl legal-up_the_tree

pub returns-clause-release_promotes : goal.returns-clause-release_promotes
returns-clause-release_promotes c = legal-release_promotes

pub returns-clause-release_without_promotion : goal.returns-clause-release_without_promotion
returns-clause-release_without_promotion c = wrong 6 (Refused IsWaiting) release_promotes refl legal-release_promotes

pub returns-clause-release_of_one : goal.returns-clause-release_of_one
returns-clause-release_of_one c = legal-release_of_one

pub returns-clause-release_of_both : goal.returns-clause-release_of_both
returns-clause-release_of_both c = wrong 6 (Committed 0) release_of_one refl legal-release_of_one

pub returns-clause-asks_again : goal.returns-clause-asks_again
returns-clause-asks_again c = legal-asks_again

pub returns-clause-sup_left_out : goal.returns-clause-sup_left_out
returns-clause-sup_left_out c = wrong 2 (Granted S) asks_again refl legal-asks_again

pub returns-clause-own_lock_in_the_way : goal.returns-clause-own_lock_in_the_way
returns-clause-own_lock_in_the_way c = wrong 2 Waiting asks_again refl legal-asks_again

pub returns-clause-lowered : goal.returns-clause-lowered
returns-clause-lowered c = wrong 3 (Granted IS) asks_again refl legal-asks_again

pub returns-clause-converted_though_not_held : goal.returns-clause-converted_though_not_held
returns-clause-converted_though_not_held c = wrong 4 (Granted S) asks_again refl legal-asks_again

pub returns-clause-conversion_is_one_lock_more : goal.returns-clause-conversion_is_one_lock_more
returns-clause-conversion_is_one_lock_more c = wrong 7 (Committed 2) asks_again refl legal-asks_again

pub returns-clause-conversion_first : goal.returns-clause-conversion_first
returns-clause-conversion_first c = legal-conversion_first

pub returns-clause-conversion_behind_fresh_requests : goal.returns-clause-conversion_behind_fresh_requests
returns-clause-conversion_behind_fresh_requests c = wrong 8 Waiting conversion_first refl legal-conversion_first

pub returns-clause-fresh_request_past_a_conversion : goal.returns-clause-fresh_request_past_a_conversion
returns-clause-fresh_request_past_a_conversion c = wrong 9 Clear conversion_first refl legal-conversion_first

pub returns-clause-poll_of_an_old_request : goal.returns-clause-poll_of_an_old_request
returns-clause-poll_of_an_old_request c = wrong 11 Waiting conversion_first refl legal-conversion_first

pub returns-clause-conversion_at_once : goal.returns-clause-conversion_at_once
returns-clause-conversion_at_once c = legal-conversion_at_once

pub returns-clause-conversion_waits_though_it_fits : goal.returns-clause-conversion_waits_though_it_fits
returns-clause-conversion_waits_though_it_fits c = wrong 6 Waiting conversion_at_once refl legal-conversion_at_once

pub returns-clause-conversion_under_parent : goal.returns-clause-conversion_under_parent
returns-clause-conversion_under_parent c = legal-conversion_under_parent

pub returns-clause-parent_of_the_old_mode : goal.returns-clause-parent_of_the_old_mode
returns-clause-parent_of_the_old_mode c = wrong 3 (Granted X) conversion_under_parent refl legal-conversion_under_parent

pub returns-clause-parent_not_converted : goal.returns-clause-parent_not_converted
returns-clause-parent_not_converted c = wrong 5 (Refused ParentNotHeld) conversion_under_parent refl legal-conversion_under_parent

pub returns-clause-abort_while_waiting : goal.returns-clause-abort_while_waiting
returns-clause-abort_while_waiting c = legal-abort_while_waiting

pub returns-clause-commit_while_waiting : goal.returns-clause-commit_while_waiting
returns-clause-commit_while_waiting c = wrong 6 (Committed 0) abort_while_waiting refl legal-abort_while_waiting

pub returns-clause-abort_refused : goal.returns-clause-abort_refused
returns-clause-abort_refused c = wrong 7 (Refused IsWaiting) abort_while_waiting refl legal-abort_while_waiting

pub returns-clause-request_counted_as_a_lock : goal.returns-clause-request_counted_as_a_lock
returns-clause-request_counted_as_a_lock c = wrong 7 (Aborted 1) abort_while_waiting refl legal-abort_while_waiting

pub returns-clause-abort_leaves_its_request : goal.returns-clause-abort_leaves_its_request
returns-clause-abort_leaves_its_request c = wrong 8 Waiting abort_while_waiting refl legal-abort_while_waiting

pub returns-clause-abort_leaves_its_transaction : goal.returns-clause-abort_leaves_its_transaction
returns-clause-abort_leaves_its_transaction c = wrong 9 Clear abort_while_waiting refl legal-abort_while_waiting

pub returns-clause-readers_that_convert : goal.returns-clause-readers_that_convert
returns-clause-readers_that_convert c = legal-readers_that_convert

pub returns-clause-deadlock_left : goal.returns-clause-deadlock_left
returns-clause-deadlock_left c = wrong 5 Waiting readers_that_convert refl legal-readers_that_convert

pub returns-clause-tested_for_a_mode_before_doom : goal.returns-clause-tested_for_a_mode_before_doom
returns-clause-tested_for_a_mode_before_doom c = wrong 7 (Refused NothingAsked) readers_that_convert refl legal-readers_that_convert

pub returns-clause-doomed_session_releases : goal.returns-clause-doomed_session_releases
returns-clause-doomed_session_releases c = wrong 8 Released readers_that_convert refl legal-readers_that_convert

pub returns-clause-doomed_session_commits : goal.returns-clause-doomed_session_commits
returns-clause-doomed_session_commits c = wrong 9 (Committed 1) readers_that_convert refl legal-readers_that_convert

pub returns-clause-doom_forgotten : goal.returns-clause-doom_forgotten
returns-clause-doom_forgotten c = wrong 10 Clear readers_that_convert refl legal-readers_that_convert

pub returns-clause-victim_loses_its_locks : goal.returns-clause-victim_loses_its_locks
returns-clause-victim_loses_its_locks c = wrong 11 (Aborted 0) readers_that_convert refl legal-readers_that_convert

pub returns-clause-youngest_of_two : goal.returns-clause-youngest_of_two
returns-clause-youngest_of_two c = legal-youngest_of_two

pub returns-clause-asker_doomed : goal.returns-clause-asker_doomed
returns-clause-asker_doomed c = wrong 7 Deadlock youngest_of_two refl legal-youngest_of_two

pub returns-clause-youngest_spared : goal.returns-clause-youngest_spared
returns-clause-youngest_spared c = wrong 8 Waiting youngest_of_two refl legal-youngest_of_two

pub returns-clause-doomed_session_locks : goal.returns-clause-doomed_session_locks
returns-clause-doomed_session_locks c = wrong 9 (Granted S) youngest_of_two refl legal-youngest_of_two

pub returns-clause-victim_in_the_way : goal.returns-clause-victim_in_the_way
returns-clause-victim_in_the_way c = legal-victim_in_the_way

pub returns-clause-waits_though_the_victim_is_gone : goal.returns-clause-waits_though_the_victim_is_gone
returns-clause-waits_though_the_victim_is_gone c = wrong 7 Waiting victim_in_the_way refl legal-victim_in_the_way

pub returns-clause-victim_in_the_queue_spared : goal.returns-clause-victim_in_the_queue_spared
returns-clause-victim_in_the_queue_spared c = wrong 8 Waiting victim_in_the_way refl legal-victim_in_the_way

pub returns-clause-victim_past_need : goal.returns-clause-victim_past_need
returns-clause-victim_past_need c = wrong 9 Deadlock victim_in_the_way refl legal-victim_in_the_way

pub returns-clause-conversions_that_meet : goal.returns-clause-conversions_that_meet
returns-clause-conversions_that_meet c = legal-conversions_that_meet

pub returns-clause-refused_request_waits : goal.returns-clause-refused_request_waits
returns-clause-refused_request_waits c = wrong 5 Waiting conversions_that_meet refl legal-conversions_that_meet

pub returns-clause-converting_asker_doomed : goal.returns-clause-converting_asker_doomed
returns-clause-converting_asker_doomed c = wrong 7 Deadlock conversions_that_meet refl legal-conversions_that_meet

pub returns-clause-circle_through_the_queue : goal.returns-clause-circle_through_the_queue
returns-clause-circle_through_the_queue c = legal-circle_through_the_queue

pub returns-clause-place_in_the_queue_left_out : goal.returns-clause-place_in_the_queue_left_out
returns-clause-place_in_the_queue_left_out c = wrong 8 Waiting circle_through_the_queue refl legal-circle_through_the_queue

pub returns-clause-last_of_the_queue_spared : goal.returns-clause-last_of_the_queue_spared
returns-clause-last_of_the_queue_spared c = wrong 9 Deadlock circle_through_the_queue refl legal-circle_through_the_queue

pub returns-clause-two_victims : goal.returns-clause-two_victims
returns-clause-two_victims c = legal-two_victims

pub returns-clause-one_victim_only : goal.returns-clause-one_victim_only
returns-clause-one_victim_only c = wrong 11 Waiting two_victims refl legal-two_victims

pub returns-clause-first_victim_spared : goal.returns-clause-first_victim_spared
returns-clause-first_victim_spared c = wrong 10 Waiting two_victims refl legal-two_victims

pub returns-clause-begin_beside_others : goal.returns-clause-begin_beside_others
returns-clause-begin_beside_others c = legal-begin_beside_others

pub returns-clause-begin_drops_requests : goal.returns-clause-begin_drops_requests
returns-clause-begin_drops_requests c = wrong 7 Clear begin_beside_others refl legal-begin_beside_others

pub returns-clause-begin_lifts_dooms : goal.returns-clause-begin_lifts_dooms
returns-clause-begin_lifts_dooms c = wrong 8 Clear begin_beside_others refl legal-begin_beside_others

pub returns-clause-begun_session_waits : goal.returns-clause-begun_session_waits
returns-clause-begun_session_waits c = wrong 9 Waiting begin_beside_others refl legal-begin_beside_others

pub returns-clause-polls : goal.returns-clause-polls
returns-clause-polls c = legal-polls

pub returns-clause-clear_session_waits : goal.returns-clause-clear_session_waits
returns-clause-clear_session_waits c = wrong 2 Waiting polls refl legal-polls

pub returns-clause-holder_waits : goal.returns-clause-holder_waits
returns-clause-holder_waits c = wrong 5 Waiting polls refl legal-polls

pub returns-clause-holder_waits_with_others : goal.returns-clause-holder_waits_with_others
returns-clause-holder_waits_with_others c = wrong 7 Waiting polls refl legal-polls

pub returns-clause-release_above_another : goal.returns-clause-release_above_another
returns-clause-release_above_another c = legal-release_above_another

pub returns-clause-child_of_another : goal.returns-clause-child_of_another
returns-clause-child_of_another c = wrong 5 (Refused ChildHeld) release_above_another refl legal-release_above_another

pub returns-clause-child_of_its_own : goal.returns-clause-child_of_its_own
returns-clause-child_of_its_own c = wrong 6 Released release_above_another refl legal-release_above_another

pub returns-clause-commit_of_four : goal.returns-clause-commit_of_four
returns-clause-commit_of_four c = legal-commit_of_four

pub returns-clause-four_locks_refused : goal.returns-clause-four_locks_refused
returns-clause-four_locks_refused c = wrong 5 (Refused TooManyLocks) commit_of_four refl legal-commit_of_four

pub returns-clause-four_locks_counted_as_three : goal.returns-clause-four_locks_counted_as_three
returns-clause-four_locks_counted_as_three c = wrong 5 (Committed 3) commit_of_four refl legal-commit_of_four

pub returns-clause-conversion_to_the_upper_bound : goal.returns-clause-conversion_to_the_upper_bound
returns-clause-conversion_to_the_upper_bound c = legal-conversion_to_the_upper_bound

pub returns-clause-mode_asked_for_the_upper_bound : goal.returns-clause-mode_asked_for_the_upper_bound
returns-clause-mode_asked_for_the_upper_bound c = wrong 2 (Granted S) conversion_to_the_upper_bound refl legal-conversion_to_the_upper_bound

pub returns-clause-conversion_needs_more_of_the_parent : goal.returns-clause-conversion_needs_more_of_the_parent
returns-clause-conversion_needs_more_of_the_parent c = legal-conversion_needs_more_of_the_parent

pub returns-clause-parent_not_tested_by_the_target : goal.returns-clause-parent_not_tested_by_the_target
returns-clause-parent_not_tested_by_the_target c = wrong 4 (Granted SIX) conversion_needs_more_of_the_parent refl legal-conversion_needs_more_of_the_parent

pub returns-clause-parents_on_each_level : goal.returns-clause-parents_on_each_level
returns-clause-parents_on_each_level c = legal-parents_on_each_level

pub returns-clause-parent_in_another_tree : goal.returns-clause-parent_in_another_tree
returns-clause-parent_in_another_tree c = wrong 2 (Granted IS) parents_on_each_level refl legal-parents_on_each_level

pub returns-clause-grandparent_in_ix_for_parent_in_is : goal.returns-clause-grandparent_in_ix_for_parent_in_is
returns-clause-grandparent_in_ix_for_parent_in_is c = wrong 5 (Granted IX) parents_on_each_level refl legal-parents_on_each_level

pub returns-clause-page_in_is_for_a_record_in_x : goal.returns-clause-page_in_is_for_a_record_in_x
returns-clause-page_in_is_for_a_record_in_x c = wrong 7 (Granted X) parents_on_each_level refl legal-parents_on_each_level

pub returns-clause-releases_promote_one_after_another : goal.returns-clause-releases_promote_one_after_another
returns-clause-releases_promote_one_after_another c = legal-releases_promote_one_after_another

pub returns-clause-release_promotes_nobody : goal.returns-clause-release_promotes_nobody
returns-clause-release_promotes_nobody c = wrong 10 Waiting releases_promote_one_after_another refl legal-releases_promote_one_after_another

pub returns-clause-release_promotes_past_the_first : goal.returns-clause-release_promotes_past_the_first
returns-clause-release_promotes_past_the_first c = wrong 11 Clear releases_promote_one_after_another refl legal-releases_promote_one_after_another

pub returns-clause-begins_again : goal.returns-clause-begins_again
returns-clause-begins_again c = legal-begins_again

pub returns-clause-begun_twice : goal.returns-clause-begun_twice
returns-clause-begun_twice c = wrong 4 (Began 3) begins_again refl legal-begins_again

pub returns-clause-begin_tested_for_waiting : goal.returns-clause-begin_tested_for_waiting
returns-clause-begin_tested_for_waiting c = wrong 5 (Refused IsWaiting) begins_again refl legal-begins_again

pub returns-clause-refused_begins_take_numbers : goal.returns-clause-refused_begins_take_numbers
returns-clause-refused_begins_take_numbers c = wrong 7 (Began 5) begins_again refl legal-begins_again

pub returns-clause-polls_again : goal.returns-clause-polls_again
returns-clause-polls_again c = legal-polls_again

pub returns-clause-doom_reported_once : goal.returns-clause-doom_reported_once
returns-clause-doom_reported_once c = wrong 11 Clear polls_again refl legal-polls_again

pub returns-clause-poll_ends_a_wait : goal.returns-clause-poll_ends_a_wait
returns-clause-poll_ends_a_wait c = wrong 8 Clear polls_again refl legal-polls_again

pub returns-clause-circle_of_five : goal.returns-clause-circle_of_five
returns-clause-circle_of_five c = legal-circle_of_five

pub returns-clause-asker_of_five_doomed : goal.returns-clause-asker_of_five_doomed
returns-clause-asker_of_five_doomed c = wrong 14 Deadlock circle_of_five refl legal-circle_of_five

pub returns-clause-circle_of_five_left : goal.returns-clause-circle_of_five_left
returns-clause-circle_of_five_left c = wrong 15 Waiting circle_of_five refl legal-circle_of_five

pub returns-clause-three_victims : goal.returns-clause-three_victims
returns-clause-three_victims c = legal-three_victims

pub returns-clause-two_victims_only : goal.returns-clause-two_victims_only
returns-clause-two_victims_only c = wrong 14 Waiting three_victims refl legal-three_victims

pub returns-clause-beside_the_circle : goal.returns-clause-beside_the_circle
returns-clause-beside_the_circle c = legal-beside_the_circle

pub returns-clause-younger_one_that_is_only_reached : goal.returns-clause-younger_one_that_is_only_reached
returns-clause-younger_one_that_is_only_reached c = wrong 14 Deadlock beside_the_circle refl legal-beside_the_circle

pub returns-clause-younger_one_that_only_leads_to_the_asker : goal.returns-clause-younger_one_that_only_leads_to_the_asker
returns-clause-younger_one_that_only_leads_to_the_asker c = wrong 15 Deadlock beside_the_circle refl legal-beside_the_circle

pub returns-clause-tries : goal.returns-clause-tries
returns-clause-tries c = legal-tries

pub returns-clause-try_before_the_transaction : goal.returns-clause-try_before_the_transaction
returns-clause-try_before_the_transaction c = wrong 2 (Refused WouldWait) tries refl legal-tries

pub returns-clause-try_waits : goal.returns-clause-try_waits
returns-clause-try_waits c = wrong 6 Waiting tries refl legal-tries

pub returns-clause-try_past_a_holder : goal.returns-clause-try_past_a_holder
returns-clause-try_past_a_holder c = wrong 6 (Granted X) tries refl legal-tries

pub returns-clause-try_leaves_its_request : goal.returns-clause-try_leaves_its_request
returns-clause-try_leaves_its_request c = wrong 7 Waiting tries refl legal-tries

pub returns-clause-try_past_the_queue : goal.returns-clause-try_past_the_queue
returns-clause-try_past_the_queue c = wrong 11 (Granted S) tries refl legal-tries

pub returns-clause-try_lowers : goal.returns-clause-try_lowers
returns-clause-try_lowers c = wrong 14 (Granted IS) tries refl legal-tries

pub returns-clause-try_closes_no_circle : goal.returns-clause-try_closes_no_circle
returns-clause-try_closes_no_circle c = legal-try_closes_no_circle

pub returns-clause-try_chooses_a_victim : goal.returns-clause-try_chooses_a_victim
returns-clause-try_chooses_a_victim c = wrong 6 Deadlock try_closes_no_circle refl legal-try_closes_no_circle

pub returns-clause-doomed_session_tries : goal.returns-clause-doomed_session_tries
returns-clause-doomed_session_tries c = wrong 9 (Granted S) try_closes_no_circle refl legal-try_closes_no_circle

pub returns-clause-doomed_session_withdraws : goal.returns-clause-doomed_session_withdraws
returns-clause-doomed_session_withdraws c = wrong 10 (Refused NotWaiting) try_closes_no_circle refl legal-try_closes_no_circle

pub returns-clause-withdrawals : goal.returns-clause-withdrawals
returns-clause-withdrawals c = legal-withdrawals

pub returns-clause-withdrawal_before_the_transaction : goal.returns-clause-withdrawal_before_the_transaction
returns-clause-withdrawal_before_the_transaction c = wrong 0 (Refused NotWaiting) withdrawals refl legal-withdrawals

pub returns-clause-withdrawal_without_promotion : goal.returns-clause-withdrawal_without_promotion
returns-clause-withdrawal_without_promotion c = wrong 12 Waiting withdrawals refl legal-withdrawals

pub returns-clause-withdrawal_past_a_promotion : goal.returns-clause-withdrawal_past_a_promotion
returns-clause-withdrawal_past_a_promotion c = wrong 13 Clear withdrawals refl legal-withdrawals

pub returns-clause-withdrawal_leaves_its_request : goal.returns-clause-withdrawal_leaves_its_request
returns-clause-withdrawal_leaves_its_request c = wrong 14 Waiting withdrawals refl legal-withdrawals

pub returns-clause-withdrawal_of_nothing : goal.returns-clause-withdrawal_of_nothing
returns-clause-withdrawal_of_nothing c = wrong 15 Withdrawn withdrawals refl legal-withdrawals

pub returns-clause-withdrawal_ends_the_transaction : goal.returns-clause-withdrawal_ends_the_transaction
returns-clause-withdrawal_ends_the_transaction c = wrong 18 (Refused NoTransaction) withdrawals refl legal-withdrawals

pub returns-clause-withdrawal_of_the_lock : goal.returns-clause-withdrawal_of_the_lock
returns-clause-withdrawal_of_the_lock c = wrong 21 (Refused NotHeld) withdrawals refl legal-withdrawals

pub returns-clause-withdrawal_from_the_midst : goal.returns-clause-withdrawal_from_the_midst
returns-clause-withdrawal_from_the_midst c = legal-withdrawal_from_the_midst

pub returns-clause-withdrawal_grants_behind_the_front : goal.returns-clause-withdrawal_grants_behind_the_front
returns-clause-withdrawal_grants_behind_the_front c = wrong 9 Clear withdrawal_from_the_midst refl legal-withdrawal_from_the_midst

pub returns-clause-withdrawal_takes_another_request : goal.returns-clause-withdrawal_takes_another_request
returns-clause-withdrawal_takes_another_request c = wrong 10 Clear withdrawal_from_the_midst refl legal-withdrawal_from_the_midst

pub returns-clause-withdrawal_too_late : goal.returns-clause-withdrawal_too_late
returns-clause-withdrawal_too_late c = legal-withdrawal_too_late

pub returns-clause-withdrawal_of_what_was_granted : goal.returns-clause-withdrawal_of_what_was_granted
returns-clause-withdrawal_of_what_was_granted c = wrong 5 Withdrawn withdrawal_too_late refl legal-withdrawal_too_late
