use Rattle.std.proofs.Common.{◌∙◌, ◌++◌, ◌+◌, List, ap, sym}
use Rattle.lock_report.specs.declared.snapshot.OpenTransaction.{OpenTransaction}
use Rattle.lock_rules.specs.Legal.{state_of}
use Rattle.history_commands.specs.Showing.{open_of}
use Rattle.history_commands.proofs.listing.open_transactions.Goals as goal
use Rattle.lock_rules.proofs.Ranges.{next-session}

pub loop-before-preserved : goal.loop-before-preserved
loop-before-preserved c =
    let st = state_of c.args.book.now.history in
    let n = c.loop-before.before in
    c.in_ok-add_open.ensures ∙ (ap (λ (l : List OpenTransaction). l ++ open_of (n + 1) (st.begun (n + 1))) c.loop-before.invariant ∙ sym (next-session (λ s. open_of s (st.begun s)) n))
