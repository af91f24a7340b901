use Rattle.std.proofs.Common.{◌≡◌, take}
use Rattle.lock_report.specs.Blocking.{waits_among}
use Rattle.lock_report.proofs.blocking.waits.waits_among.Given as goal

-- the waits of the sessions so far are listed
abbrev pub invariant-loop-begun : goal.invariant-loop-begun
invariant-loop-begun l = l.waits.items ≡ waits_among l.sessions (take l.begun-index l.opens) l.claims
