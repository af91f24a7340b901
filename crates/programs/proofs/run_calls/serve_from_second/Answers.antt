use Rattle.std.proofs.Common.{refl, sym, ap, ◌∙◌, arith}
use Rattle.programs.proofs.Pushes.{longer-push}
use Rattle.programs.proofs.Runs.{running-push, run-at-stop, run-at-cut, run-at-end}
use Rattle.programs.proofs.run_calls.serve_from_second.Goals as goal

pub loop-at-init : goal.loop-at-init
loop-at-init g c = record {
  running = λ before b. b;
  going = c.requires.running.1.going;
  count = c.requires.running.1.count;
  longer = omega arith;
  tells = λ from few told. told;
  legal = c.requires.legal;
  sessions = refl;
  cut = refl;
  bound = refl;
}

pub returns-in_default-clause-done : goal.returns-in_default-clause-done
returns-in_default-clause-done g c = λ before b.
    run-at-cut g.O.Programmed.form _ _ _ _ _ _ _ _ (c.loop-at.invariant.running before b) (omega (arith, c.loop-at.auto.at)) (omega (arith, c.loop-at-test.true, c.length-calls.ensures)) (ap g.O.Sequential.history c.in_default.ensures.refused)
    (c.refuse.ensures.replies c.args.program.now) c.refuse.ensures.first c.refuse.ensures.refused

pub returns-then-not-goes_on-clause-done : goal.returns-then-not-goes_on-clause-done
returns-then-not-goes_on-clause-done g c = λ before b.
    run-at-stop g.O.Programmed.form _ _ _ _ _ _ _ _ _ _ (c.loop-at.invariant.running before b) (omega (arith, c.loop-at-test.true, c.length-calls.ensures)) c.call-call.ensures c.in-Ok.ensures.entry
    c.append.ensures.replies c.append.ensures.first c.append.ensures.refused (sym c.goes_on.ensures ∙ c.if-not-goes_on.true)

pub loop-at-preserved : goal.loop-at-preserved
loop-at-preserved g c =
    let i = c.loop-at.invariant in
    let r = c.append.ensures in
    let here = running-push g.O.Programmed.form _ _ _ _ _ _ _ _ _ _ (i.running c.requires.running.0 c.requires.running.1) c.call-call.ensures c.in-Ok.ensures.entry r.replies r.first r.refused (sym c.goes_on.ensures ∙ c.if-not-goes_on.false) in record {
      running = λ before b. running-push g.O.Programmed.form _ _ _ _ _ _ _ _ _ _ (i.running before b) c.call-call.ensures c.in-Ok.ensures.entry r.replies r.first r.refused (sym c.goes_on.ensures ∙ c.if-not-goes_on.false);
      going = here.going;
      count = here.count;
      longer = longer-push _ _ _ _ c.in-Ok.ensures.entry i.longer;
      tells = λ from few told. let far = i.longer in c.in-Ok.ensures.tells from (omega (arith, few, far)) (i.tells from few told);
      legal = c.served-served.ensures.legal;
      sessions = c.in-Ok.ensures.sessions ∙ i.sessions;
      cut = c.in-Ok.ensures.cut ∙ i.cut;
      bound = c.in-Ok.ensures.bound ∙ i.bound;
    }

pub returns-clause-done : goal.returns-clause-done
returns-clause-done g c = λ before b.
    run-at-end g.O.Programmed.form _ _ _ _ _ _ (c.loop-at.invariant.running before b)
    (omega (arith, c.loop-at.auto.at-end, c.loop-at-test.false, c.length-calls.ensures, c.requires.more))
