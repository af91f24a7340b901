-- Every state that a history leads to is lawful.
use Rattle.std.proofs.Common.{List}
use Rattle.lock_rules.specs.Entries.{Entry}
use Rattle.lock_rules.specs.Legal.{state_of}
use Rattle.lock_rules.specs.Lawful.{IsLawfulState}
use Rattle.lock_rules.proofs.Sound.{stands-under}
use Rattle.lock_rules.proofs.Once.{holders-listed, locks-once, one-request}
use Rattle.lock_rules.proofs.LockCounts.{locks-bounded}
use Rattle.lock_rules.proofs.Children.{children-held}
use Rattle.lock_rules.proofs.Access.{access-compatible}
use Rattle.lock_rules.proofs.Steps.{state-lawful}
use Rattle.lock_rules.proofs.Idle.{state-idle}
use Rattle.lock_rules.proofs.Owners.{state-numbered, owners-open}
use Rattle.lock_rules.proofs.Fronts.{promotion-longest}
use Rattle.lock_rules.proofs.Waiting.{waits-tell}
use Rattle.lock_rules.proofs.States.{fit-tells, holders-compatible}
use Rattle.lock_rules.proofs.Victims.{determined}
use Rattle.lock_rules.proofs.Doomed.{keep-theirs, doom-promotes, withdraw-one}
use Rattle.lock_rules.proofs.Requests.{lock-asks, convert-asks, lock-converts, lock-holds, convert-holds, try-asks, try-leaves}
use Rattle.lock_rules.proofs.Refusals.{refused-first, refused-keeps, refusals-meant, others-accepted, abort-needs, restart-needs, commit-accepted}
use Rattle.lock_rules.proofs.RefusalOrder.{tests-give, refusals-lowest, conversions-unbounded}
use Rattle.lock_rules.proofs.Sessions.{begin-opens, poll-tells}
use Rattle.lock_rules.proofs.Taken.{release-one, commit-all, abort-all, restart-all}

-- every state that a history leads to is lawful
pub lawful : (es : List Entry) → IsLawfulState (state_of es)
lawful es = let i = state-lawful es in record {
  holders_listed = holders-listed (state_of es) i.sound.order;
  locks_once = locks-once (state_of es) i.sound.order;
  one_request = one-request (state_of es) i.sound.once;
  locks_bounded = locks-bounded es;
  fit_exact = fit-tells (state_of es) i.sound;
  holders_compatible = holders-compatible (state_of es) i.sound;
  nobody_waits_needlessly = i.unfit;
  locks_under_parents = λ s r m h. stands-under (state_of es).table s r m (i.sound.held_under s r m h);
  requests_under_parents = λ s q h. stands-under (state_of es).table s q.resource q.mode (i.sound.asked_under s q h);
  children_held = children-held (state_of es) i.sound;
  access_compatible = access-compatible (state_of es) i.sound;
  promotions_longest = promotion-longest (state_of es).table;
  waits_exact = waits-tell (state_of es).table;
  no_circle = λ s c. i.no_circle s c.others c.walk;
  doomed_wait_for_nothing = state-idle es;
  owners_open = owners-open (state_of es) (state-numbered es);
  numbers_distinct = (state-numbered es).apart;
  numbers_counted = (state-numbered es).counted;
  victims_determined = determined (state_of es) (state-numbered es);
  victims_keep_their_locks = keep-theirs (state_of es) i.sound.once;
  dooms_promote = doom-promotes (state_of es);
  refusals_exact = refused-first (state_of es);
  refusals_keep = refused-keeps (state_of es);
  refusals_meant = refusals-meant (state_of es) (locks-bounded es);
  others_accepted = others-accepted (state_of es) (locks-bounded es);
  tests_give_refusals = tests-give (state_of es);
  refusals_lowest = refusals-lowest (state_of es) (locks-bounded es);
  conversions_unbounded = conversions-unbounded (state_of es) (locks-bounded es);
  abort_needs_transaction = abort-needs (state_of es) (locks-bounded es);
  restart_needs_transaction = restart-needs (state_of es) (locks-bounded es);
  clear_commit_accepted = commit-accepted (state_of es) (locks-bounded es);
  begin_opens = begin-opens (state_of es);
  poll_reports = poll-tells (state_of es) (state-numbered es);
  locks_answered = lock-asks (state_of es);
  conversions_answered = convert-asks (state_of es);
  held_is_converted = lock-converts (state_of es);
  granted_is_held = lock-holds (state_of es) i.sound.once;
  converted_is_held = convert-holds (state_of es) i.sound.once;
  tries_answered = try-asks (state_of es);
  tries_leave_waits = try-leaves (state_of es);
  withdraw_takes_request = withdraw-one (state_of es) i.sound.once;
  release_takes_one_lock = release-one (state_of es) i;
  commit_takes_all_locks = commit-all (state_of es) i;
  abort_takes_all_locks = abort-all (state_of es) i;
  restart_takes_all_locks = restart-all (state_of es) i;
}
