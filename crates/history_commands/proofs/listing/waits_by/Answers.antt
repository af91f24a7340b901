use Rattle.std.proofs.Common.{◌∙◌, ◌++◌, ◌+◌, List, ap, sym}
use Rattle.lock_report.specs.declared.snapshot.WaitFor.{WaitFor}
use Rattle.lock_rules.specs.Legal.{state_of}
use Rattle.lock_rules.specs.State.{request_of}
use Rattle.history_commands.specs.Showing.{wait_of}
use Rattle.history_commands.proofs.WithoutRequest.{no-request, no-waits}
use Rattle.history_commands.proofs.listing.waits_by.Goals as goal
use Rattle.lock_rules.proofs.Ranges.{next-session}

pub returns-in_default : goal.returns-in_default
returns-in_default c =
    let st = state_of c.args.book.now.history in
    let none = no-request st (request_of c.args.session st.table.requests) (sym c.request.ensures ∙ c.in_default.is) in
    c.new-waits.ensures.items ∙ sym (no-waits st c.args.session c.args.book.now.sessions none)

pub loop-before-preserved : goal.loop-before-preserved
loop-before-preserved c =
    let st = state_of c.args.book.now.history in
    let n = c.loop-before.before in
    c.in_ok-add_wait.ensures ∙ (ap (λ (l : List WaitFor). l ++ wait_of st c.args.session (n + 1)) c.loop-before.invariant ∙ sym (next-session (wait_of st c.args.session) n))
