use Rattle.std.proofs.Common.{◌≡◌, drop}
use Rattle.lock_report.specs.Blockers.{request_of}
use Rattle.lock_report.proofs.blocking.requests.request_of.Given as goal

-- the first of the session's requests from this one on is the first of all
abbrev pub invariant-loop-request : goal.invariant-loop-request
invariant-loop-request l = request_of l.session (drop l.request-index l.requests) ≡ request_of l.session l.requests
