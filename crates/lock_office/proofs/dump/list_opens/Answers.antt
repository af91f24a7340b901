use Rattle.lock_rules.specs.Legal.{state_of}
use Rattle.lock_office.specs.Dump.{open_of}
use Rattle.lock_office.proofs.dump.list_opens.Goals as goal
use Rattle.lock_rules.proofs.Ranges.{session-more}

pub loop-before-preserved : goal.loop-before-preserved
loop-before-preserved c =
    let st = state_of c.args.book.now.history in
    session-more (λ s. open_of s (st.begun s)) c.loop-before.before c.loop-before.opens.items _ c.loop-before.invariant c.in_ok-add_open.ensures
