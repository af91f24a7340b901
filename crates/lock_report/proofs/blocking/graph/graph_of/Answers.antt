use Rattle.std.proofs.Common.{◌≡◌, ◌∙◌, ℕ, ◌+◌, List, ap, take}
use Rattle.std.proofs.lemmas.List.{take_all}
use Rattle.waits_for.specs.Pairs.{pairs_of}
use Rattle.lock_report.specs.declared.snapshot.WaitFor.{WaitFor}
use Rattle.lock_report.specs.Jam.{does_wait}
use Rattle.lock_report.proofs.Walks.{next-edge, some-waits}
use Rattle.lock_report.proofs.blocking.graph.graph_of.Goals as goal

pub loop-wait-preserved : goal.loop-wait-preserved
loop-wait-preserved c = (
  c.set.ensures.sessions ∙ c.loop-wait.invariant.0,
  next-edge c.args.sessions c.args.waits.now c.loop-wait.wait-index _ (pairs_of c.loop-wait.rows) (pairs_of c.set.new.self) c.requires.within c.loop-wait-test.true
      c.loop-wait.invariant.1 c.set.ensures.pairs,
)

pub returns-clause-pairs : goal.returns-clause-pairs
returns-clause-pairs c =
    let waits = c.args.waits.now in
    let all : take c.loop-wait.wait-index waits ≡ waits = take_all c.loop-wait.wait-index waits c.loop-wait-test.false in
    record { pairs = λ a b. c.loop-wait.invariant.1 a b ∙ ap (λ (ws : List WaitFor). does_wait ws (a + 1) (b + 1)) all; some = some-waits c.args.sessions waits c.requires.within }
