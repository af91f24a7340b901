-- The counters of a history as a book tells them.
use Rattle.std.specs.Prelude.{List}
use Rattle.lock_rules.specs.declared.calls.Why.TheVariants as why
use Rattle.lock_rules.specs.declared.kinds.Op.TheVariants as op
use Rattle.lock_rules.specs.Entries.{Entry}
use Rattle.lock_rules.specs.Counts.{calls, refusals, requests, granted_at_once, requests_refused, waits_begun, waits_granted, waits_doomed, waits_withdrawn, waits_aborted, waits_restarted, still_waiting, deadlocks}
use Rattle.lock_desk.specs.declared.counts.Calls.{Calls}
use Rattle.lock_desk.specs.declared.counts.Refusals.{Refusals}
use Rattle.lock_desk.specs.declared.counts.Counts.{Counts}

-- how many calls of each operation the history has
abbrev pub calls_of : List Entry → Calls
calls_of h = record {
  begin = calls op.Begin h;
  lock = calls op.Lock h;
  convert = calls op.Convert h;
  poll = calls op.Poll h;
  release = calls op.Release h;
  commit = calls op.Commit h;
  abort = calls op.Abort h;
  try_lock = calls op.Try h;
  withdraw = calls op.Withdraw h;
  restart = calls op.Restart h;
}

-- how many of its calls were refused for each reason
abbrev pub refusals_of : List Entry → Refusals
refusals_of h = record {
  already_open = refusals why.AlreadyOpen h;
  no_transaction = refusals why.NoTransaction h;
  is_waiting = refusals why.IsWaiting h;
  is_doomed = refusals why.IsDoomed h;
  nothing_asked = refusals why.NothingAsked h;
  not_held = refusals why.NotHeld h;
  parent_not_held = refusals why.ParentNotHeld h;
  child_held = refusals why.ChildHeld h;
  too_many_locks = refusals why.TooManyLocks h;
  would_wait = refusals why.WouldWait h;
  not_waiting = refusals why.NotWaiting h;
}

-- all counters of the history
abbrev pub counts_of : List Entry → Counts
counts_of h = record {
  calls = calls_of h;
  refusals = refusals_of h;
  requests = requests h;
  granted_at_once = granted_at_once h;
  requests_refused = requests_refused h;
  waits_begun = waits_begun h;
  waits_granted = waits_granted h;
  victims = waits_doomed h;
  waits_withdrawn = waits_withdrawn h;
  waits_aborted = waits_aborted h;
  waits_restarted = waits_restarted h;
  waiting = still_waiting h;
  deadlocks = deadlocks h;
}
