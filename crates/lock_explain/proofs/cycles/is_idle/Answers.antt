use Rattle.std.proofs.Common.{not, ap, ◌∙◌}
use Rattle.lock_rules.specs.Legal.{state_of}
use Rattle.lock_rules.specs.State.{request_of}
use Rattle.lock_rules.proofs.Lists.{other}
use Rattle.lock_explain.proofs.WaitingGraph.{idle-other, no-line}
use Rattle.lock_explain.proofs.cycles.is_idle.Goals as goal

pub returns-then-session-asked : goal.returns-then-session-asked
returns-then-session-asked c =
    let a = c.args.asked.now in
    let st = state_of c.args.before.now.history in
    λ idle u.
    let none = no-line st (request_of c.args.session st.table.requests) c.request.result c.request.ensures (c.is_none.ensures ∙ ap not idle) in
    idle-other a.session a.resource a.target st.table c.requires.asked.idle c.args.session u (other a.session c.args.session c.if-session-asked.true) none
