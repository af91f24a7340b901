-- Each history worked by hand is legal: the prover serves its calls and compares the replies.
use Rattle.std.proofs.Common.{refl}
use Rattle.lock_rules.specs.Legal.{IsLegal}
use Rattle.lock_rules.specs.Examples.{queue_in_order, promotion_stops, readers_together, promotion_in_order, intentions, refusals, down_the_tree, up_the_tree, release_promotes, release_of_one, asks_again, conversion_first, conversion_at_once, conversion_under_parent, abort_while_waiting, readers_that_convert, youngest_of_two, victim_in_the_way, conversions_that_meet, circle_through_the_queue, two_victims, begin_beside_others, polls, release_above_another, commit_of_four, conversion_to_the_upper_bound, conversion_needs_more_of_the_parent, parents_on_each_level, releases_promote_one_after_another, begins_again, polls_again, circle_of_five, three_victims, beside_the_circle, tries, try_closes_no_circle, withdrawals, withdrawal_from_the_midst, withdrawal_too_late}
use Rattle.lock_rules.proofs.Histories.{legal-served}

pub legal-queue_in_order : IsLegal queue_in_order
legal-queue_in_order = legal-served queue_in_order refl

pub legal-promotion_stops : IsLegal promotion_stops
legal-promotion_stops = legal-served promotion_stops refl

pub legal-readers_together : IsLegal readers_together
legal-readers_together = legal-served readers_together refl

pub legal-promotion_in_order : IsLegal promotion_in_order
legal-promotion_in_order = legal-served promotion_in_order refl

pub legal-intentions : IsLegal intentions
legal-intentions = legal-served intentions refl

pub legal-refusals : IsLegal refusals
legal-refusals = legal-served refusals refl

pub legal-down_the_tree : IsLegal down_the_tree
legal-down_the_tree = legal-served down_the_tree refl

pub legal-up_the_tree : IsLegal up_the_tree
legal-up_the_tree = legal-served up_the_tree refl

pub legal-release_promotes : IsLegal release_promotes
legal-release_promotes = legal-served release_promotes refl

pub legal-release_of_one : IsLegal release_of_one
legal-release_of_one = legal-served release_of_one refl

pub legal-asks_again : IsLegal asks_again
legal-asks_again = legal-served asks_again refl

pub legal-conversion_first : IsLegal conversion_first
legal-conversion_first = legal-served conversion_first refl

pub legal-conversion_at_once : IsLegal conversion_at_once
legal-conversion_at_once = legal-served conversion_at_once refl

pub legal-conversion_under_parent : IsLegal conversion_under_parent
legal-conversion_under_parent = legal-served conversion_under_parent refl

pub legal-abort_while_waiting : IsLegal abort_while_waiting
legal-abort_while_waiting = legal-served abort_while_waiting refl

pub legal-readers_that_convert : IsLegal readers_that_convert
legal-readers_that_convert = legal-served readers_that_convert refl

pub legal-youngest_of_two : IsLegal youngest_of_two
legal-youngest_of_two = legal-served youngest_of_two refl

pub legal-victim_in_the_way : IsLegal victim_in_the_way
legal-victim_in_the_way = legal-served victim_in_the_way refl

pub legal-conversions_that_meet : IsLegal conversions_that_meet
legal-conversions_that_meet = legal-served conversions_that_meet refl

pub legal-circle_through_the_queue : IsLegal circle_through_the_queue
legal-circle_through_the_queue = legal-served circle_through_the_queue refl

pub legal-two_victims : IsLegal two_victims
legal-two_victims = legal-served two_victims refl

pub legal-begin_beside_others : IsLegal begin_beside_others
legal-begin_beside_others = legal-served begin_beside_others refl

pub legal-polls : IsLegal polls
legal-polls = legal-served polls refl

pub legal-release_above_another : IsLegal release_above_another
legal-release_above_another = legal-served release_above_another refl

pub legal-commit_of_four : IsLegal commit_of_four
legal-commit_of_four = legal-served commit_of_four refl

pub legal-conversion_to_the_upper_bound : IsLegal conversion_to_the_upper_bound
legal-conversion_to_the_upper_bound = legal-served conversion_to_the_upper_bound refl

pub legal-conversion_needs_more_of_the_parent : IsLegal conversion_needs_more_of_the_parent
legal-conversion_needs_more_of_the_parent = legal-served conversion_needs_more_of_the_parent refl

pub legal-parents_on_each_level : IsLegal parents_on_each_level
legal-parents_on_each_level = legal-served parents_on_each_level refl

pub legal-releases_promote_one_after_another : IsLegal releases_promote_one_after_another
legal-releases_promote_one_after_another = legal-served releases_promote_one_after_another refl

pub legal-begins_again : IsLegal begins_again
legal-begins_again = legal-served begins_again refl

pub legal-polls_again : IsLegal polls_again
legal-polls_again = legal-served polls_again refl

pub legal-circle_of_five : IsLegal circle_of_five
legal-circle_of_five = legal-served circle_of_five refl

pub legal-three_victims : IsLegal three_victims
legal-three_victims = legal-served three_victims refl

pub legal-beside_the_circle : IsLegal beside_the_circle
legal-beside_the_circle = legal-served beside_the_circle refl

pub legal-tries : IsLegal tries
legal-tries = legal-served tries refl

pub legal-try_closes_no_circle : IsLegal try_closes_no_circle
legal-try_closes_no_circle = legal-served try_closes_no_circle refl

pub legal-withdrawals : IsLegal withdrawals
legal-withdrawals = legal-served withdrawals refl

pub legal-withdrawal_from_the_midst : IsLegal withdrawal_from_the_midst
legal-withdrawal_from_the_midst = legal-served withdrawal_from_the_midst refl

pub legal-withdrawal_too_late : IsLegal withdrawal_too_late
legal-withdrawal_too_late = legal-served withdrawal_too_late refl
