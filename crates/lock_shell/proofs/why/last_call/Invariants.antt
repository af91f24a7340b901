use Rattle.lock_shell.specs.inner.Parts.{HasNoneOfLast}
use Rattle.lock_shell.proofs.why.last_call.Given as goal

-- none of the entries behind is a call of the session
abbrev pub invariant-loop-back : goal.invariant-loop-back
invariant-loop-back l = HasNoneOfLast l.session l.entries l.back
