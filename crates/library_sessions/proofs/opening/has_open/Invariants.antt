use Rattle.std.proofs.Common.{◌≢◌, ◌<◌, ℕ, get_or}
use Rattle.library_sessions.specs.declared.session_handle.SessionHandle.{SessionHandle}
use Rattle.library_sessions.proofs.opening.has_open.Given as goal

abbrev pub invariant-loop-k : goal.invariant-loop-k
invariant-loop-k l = (j : ℕ) (d : SessionHandle) → j < l.k → (get_or l.handles j d).is_open ≢ 1
