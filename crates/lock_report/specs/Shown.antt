-- The state of a lock table as text for people, made of its lists.
use Rattle.std.specs.Prelude.{ℕ, List, Option}
use Rattle.lock_rules.specs.declared.listing.Claim.{Claim}
use Rattle.lock_report.specs.declared.snapshot.OpenTransaction.{OpenTransaction}
use Rattle.lock_report.specs.declared.snapshot.WaitLine.{WaitLine}
use Rattle.lock_report.specs.declared.snapshot.WaitFor.{WaitFor}
use Rattle.lock_report.specs.StateText.{text_of_state}
use Rattle.lock_report.specs.Jam.{roots_of}

-- the text of a state of the sessions 1 to n in front of a place, in which so many requests wait; with what is told of its waits
abbrev pub text_of_lists : ℕ → Option ℕ → ℕ → List OpenTransaction → List Claim → List WaitFor → List WaitLine → List ℕ
text_of_lists n place waiting opens claims waits told = text_of_state place waiting (roots_of n opens claims waits) opens claims told
