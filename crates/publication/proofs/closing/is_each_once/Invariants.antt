use Rattle.std.proofs.Common.{◌≡◌, ℕ, ◌≤◌, take}
use Rattle.sequential.specs.declared.entry.TheConstants.{MAX_SESSIONS}
use Rattle.publication.specs.Rolls.{is_called}
use Rattle.publication.proofs.Gathering.{has_number}
use Rattle.publication.proofs.closing.is_each_once.Given as goal

-- the numbers of the tickets so far are called
abbrev pub invariant-loop-ticket : goal.invariant-loop-ticket
invariant-loop-ticket g l = (n : ℕ) → n ≤ MAX_SESSIONS → is_called l.roll n ≡ has_number n (take l.ticket-index l.tickets)
