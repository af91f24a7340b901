use Rattle.std.proofs.Common.{◌∙◌, ◌++◌, List, ap₂, sym}
use Rattle.lock_report.specs.declared.snapshot.WaitFor.{WaitFor}
use Rattle.lock_rules.specs.Legal.{state_of}
use Rattle.history_commands.specs.Showing.{waits_by}
use Rattle.history_commands.proofs.listing.all_waits.Goals as goal
use Rattle.lock_rules.proofs.Ranges.{next-session}

pub loop-before-preserved : goal.loop-before-preserved
loop-before-preserved c =
    let st = state_of c.args.book.now.history in
    c.in_ok-extend_from_slice.ensures.items
    ∙ (ap₂ (λ (l k : List WaitFor). l ++ k) c.loop-before.invariant (c.deref.ensures.value ∙ c.in_ok-own.ensures)
    ∙ sym (next-session (waits_by c.args.book.now.sessions st) c.loop-before.before))
