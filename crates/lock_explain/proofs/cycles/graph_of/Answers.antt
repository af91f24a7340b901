use Rattle.std.proofs.Common.{◌≡◌, ℕ, ◌+◌, ◌&&◌, ltb, ap, ◌∙◌, arith}
use Rattle.lock_rules.specs.Legal.{state_of}
use Rattle.lock_rules.specs.Waits.{waits_for}
use Rattle.lock_explain.specs.Waiting.{waiting_state}
use Rattle.lock_explain.specs.inner.Asked.{claim_of}
use Rattle.lock_explain.proofs.GraphRows.{edge-inside}
use Rattle.lock_explain.proofs.SessionsOfAHistory.{wait-inside}
use Rattle.lock_explain.proofs.cycles.graph_of.Goals as goal

pub returns-clause-waits : goal.returns-clause-waits
returns-clause-waits c =
    let book = c.args.before.now in
    let asked = c.args.asked.now in
    let st = waiting_state (state_of book.history) (claim_of asked) in
    let n = book.sessions in
    let inside = wait-inside n book.history c.history.ensures.within asked.session asked.resource asked.target c.requires.asked.some c.requires.asked.within in
    let all : c.loop-position.position ≡ n = omega (arith, c.loop-position-test.false, c.loop-position.auto.position-end, c.sessions-sessions.ensures.sessions) in
    record {
      pairs = λ a b.
          c.loop-position.invariant.1 a b
          ∙ (ap (λ (k : ℕ). ltb a k && (ltb b n && waits_for st.table (a + 1) (b + 1))) all
          ∙ edge-inside a b n (waits_for st.table (a + 1) (b + 1)) (λ e. let k = inside (a + 1) (b + 1) e in (k.0.1, k.1.1)));
      some = λ s u e. (inside s u e).0.0;
    }
