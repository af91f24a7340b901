use Rattle.std.proofs.Common.{◌||◌, Bool, sym, ◌∙◌, ap, is_some}
use Rattle.lock_rules.specs.Queue.{with_request}
use Rattle.lock_rules.proofs.Begins.{new}
use Rattle.lock_explain.specs.Waiting.{request_ahead}
use Rattle.lock_rules.specs.Legal.{state_of}
use Rattle.lock_rules.proofs.Lists.{other}
use Rattle.lock_explain.proofs.WaitingGraph.{asker-waits}
use Rattle.lock_explain.proofs.cycles.asker_waits.Goals as goal

pub returns-then-is_some : goal.returns-then-is_some
returns-then-is_some c =
    let a = c.args.asked.now in
    let t = (state_of c.args.before.now.history).table in
    let edge = asker-waits a.session a.resource a.target t c.requires.asked.idle c.args.other (other a.session c.args.other c.if-other-asked.false) in
    c.if-is_some.true ∙ sym (edge ∙ ap (λ (b : Bool). b || is_some (request_ahead (with_request a.session a.resource a.target t) (new a.session a.resource a.target) c.args.other)) (sym (ap is_some c.held_in_conflict.ensures) ∙ (sym c.is_some.ensures ∙ c.if-is_some.true)))

pub returns-else-is_some : goal.returns-else-is_some
returns-else-is_some c =
    let a = c.args.asked.now in
    let t = (state_of c.args.before.now.history).table in
    let edge = asker-waits a.session a.resource a.target t c.requires.asked.idle c.args.other (other a.session c.args.other c.if-other-asked.false) in
    c.is_some-else-is_some.ensures ∙ (ap is_some c.request_ahead.ensures ∙ sym (edge ∙ ap (λ (b : Bool). b || is_some (request_ahead (with_request a.session a.resource a.target t) (new a.session a.resource a.target) c.args.other)) (sym (ap is_some c.held_in_conflict.ensures) ∙ (sym c.is_some.ensures ∙ c.if-is_some.false))))
