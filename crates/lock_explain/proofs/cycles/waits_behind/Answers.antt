use Rattle.std.proofs.Common.{Bool, ◌&&◌, sym, ◌∙◌, ap}
use Rattle.lock_rules.specs.Legal.{state_of}
use Rattle.lock_rules.specs.State.{request_of}
use Rattle.lock_explain.specs.inner.Graph.{is_fresh}
use Rattle.lock_explain.proofs.WaitingGraph.{fresh-told}
use Rattle.lock_explain.proofs.cycles.waits_behind.Goals as goal

pub returns-then-eq : goal.returns-then-eq
returns-then-eq c =
    let st = state_of c.args.before.now.history in
    let line = c.in-Some.request in
    let same = c.eq.ensures ∙ c.same_path_is_equality.ensures.code line.resource c.args.asked.now.resource in
    let told = fresh-told st c.args.asked.now.resource (request_of c.args.session st.table.requests) line (sym c.request.ensures ∙ c.in-Some.is) in
    c.is_fresh.ensures ∙ (ap (λ (b : Bool). b && is_fresh line.kind) (sym c.if-eq.true ∙ same) ∙ told)

pub returns-else-eq : goal.returns-else-eq
returns-else-eq c =
    let st = state_of c.args.before.now.history in
    let line = c.in-Some.request in
    let same = c.eq.ensures ∙ c.same_path_is_equality.ensures.code line.resource c.args.asked.now.resource in
    let told = fresh-told st c.args.asked.now.resource (request_of c.args.session st.table.requests) line (sym c.request.ensures ∙ c.in-Some.is) in
    c.if-eq.false ∙ (ap (λ (b : Bool). b && is_fresh line.kind) (sym c.if-eq.false ∙ same) ∙ told)
