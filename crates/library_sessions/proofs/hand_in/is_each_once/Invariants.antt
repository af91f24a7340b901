use Rattle.std.proofs.Common.{◌≡◌, ℕ, ◌≤◌, take}
use Rattle.lock_rules.specs.declared.calls.TheConstants.{MAX_SESSIONS}
use Rattle.publication.specs.Rolls.{is_called}
use Rattle.publication.proofs.Gathering.{has_number}
use Rattle.library_sessions.proofs.hand_in.is_each_once.Given as goal

-- the numbers of the sessions so far are called
abbrev pub invariant-loop-session : goal.invariant-loop-session
invariant-loop-session l = (n : ℕ) → n ≤ MAX_SESSIONS → is_called l.roll n ≡ has_number n (take l.session-index l.handed)
