use Rattle.std.proofs.Common.{◌≡◌, map}
use Rattle.std.specs.Prelude.{All}
use Rattle.library_sessions.specs.Offices.{IsOfOffice}
use Rattle.library_sessions.proofs.opening.shares_of.Given as goal

abbrev pub invariant-loop-session : goal.invariant-loop-session
invariant-loop-session l = (map (λ share. share.value.session) l.made.items ≡ l.yielded) × All (λ share. IsOfOffice l.fn.office l.fn.mark l.fn.waker l.fn.bound share.value) l.made.items × (l.shared.value ≡ l.fn.office)
