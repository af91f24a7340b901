-- How the counters of a history belong together.
use Rattle.std.specs.Prelude.{◌≡◌, ◌+◌, ◌≤◌, List, length}
use Rattle.lock_rules.specs.Entries.{Entry}
use Rattle.lock_rules.specs.Counts.{requests, granted_at_once, requests_refused, waits_begun, waits_granted, waits_doomed, waits_withdrawn, waits_aborted, waits_restarted, still_waiting, deadlocks}

-- each request was granted at once, began a wait or was refused
abbrev pub AreRequestsAnswered : List Entry → Type 0
AreRequestsAnswered h = requests h ≡ granted_at_once h + waits_begun h + requests_refused h

-- each wait ended in one way, or hasn't ended
abbrev pub DoWaitsEndOnce : List Entry → Type 0
DoWaitsEndOnce h = waits_begun h ≡ waits_granted h + waits_doomed h + waits_withdrawn h + waits_aborted h + waits_restarted h + still_waiting h

-- no counter is above the number of calls, and there are no more deadlocks than victims
pub record AreCountsBounded (h : List Entry) : Type 0 where
  pub begun : waits_begun h ≤ length h
  pub granted : waits_granted h ≤ length h
  pub doomed : waits_doomed h ≤ length h
  pub withdrawn : waits_withdrawn h ≤ length h
  pub aborted : waits_aborted h ≤ length h
  pub restarted : waits_restarted h ≤ length h
  pub deadlocks : deadlocks h ≤ waits_doomed h
