use Rattle.std.proofs.Common.{sym, ◌∙◌}
use Rattle.programs.proofs.Runs.{begun-on, begun-stop, run-at-end}
use Rattle.programs.proofs.run_calls.serve_others.Goals as goal

pub returns-then-not-goes_on-clause-done : goal.returns-then-not-goes_on-clause-done
returns-then-not-goes_on-clause-done g c = λ before b.
    begun-stop g.O.Programmed.form _ _ _ _ _ _ _ b c.append.ensures.replies c.append.ensures.first c.append.ensures.refused (sym c.goes_on.ensures ∙ c.if-not-goes_on.true)

pub returns-then-length-eq1-clause-done : goal.returns-then-length-eq1-clause-done
returns-then-length-eq1-clause-done g c = λ before b.
    run-at-end g.O.Programmed.form _ _ _ _ _ 1
    (begun-on g.O.Programmed.form _ _ _ _ _ _ _ b c.append.ensures.replies c.append.ensures.first c.append.ensures.refused (sym c.goes_on.ensures ∙ c.if-not-goes_on.false)) (sym c.if-length-eq1.true ∙ c.length.ensures)

pub serve_from_second-requires-clause-running : goal.serve_from_second-requires-clause-running
serve_from_second-requires-clause-running g c = (
  c.requires.begun.0,
  begun-on g.O.Programmed.form _ _ _ _ _ _ _ c.requires.begun.1 c.append.ensures.replies c.append.ensures.first c.append.ensures.refused (sym c.goes_on.ensures ∙ c.if-not-goes_on.false),
)

pub returns-clause-done : goal.returns-clause-done
returns-clause-done g c = λ before b.
    c.serve_from_second.ensures.done before
    (begun-on g.O.Programmed.form _ _ _ _ _ _ _ b c.append.ensures.replies c.append.ensures.first c.append.ensures.refused (sym c.goes_on.ensures ∙ c.if-not-goes_on.false))
