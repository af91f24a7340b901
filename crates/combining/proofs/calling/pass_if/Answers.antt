use Rattle.std.proofs.Common.{◌≤◌, ◌*◌, ◌++◌, ℕ, length, refl, sym, subst}
use Rattle.combining.specs.Rounds.{most_of}
use Rattle.combining.specs.declared.bounds.PassBound.{PassBound}
use Rattle.combining.proofs.Places.{entered-count}
use Rattle.combining.proofs.Turns.{waiting-passed}
use Rattle.combining.proofs.calling.pass_if.Goals as goal

pub returns-in-Pass-clause-waits : goal.returns-in-Pass-clause-waits
returns-in-Pass-clause-waits g c = waiting-passed c.args.session.now c.pass.new.session c.in-Pass.served (c.in-Pass.ensures.pass c.in-Pass.served c.in-Pass.starved c.in-Pass.left refl)

pub returns-in-Pass-clause-few : goal.returns-in-Pass-clause-few
returns-in-Pass-clause-few g c =
    let t = c.args.session.now in
    let u = c.pass.new.session in
    let served = c.in-Pass.served in
    let pass = c.in-Pass.ensures.pass served c.in-Pass.starved c.in-Pass.left refl in
    let count = entered-count t u (length (t.front ++ pass.others)) served pass.entered in
    let few = c.in-Pass.ensures.few served c.in-Pass.starved c.in-Pass.left refl in
    subst (λ (n : ℕ). n ≤ most_of c.args.bound) (sym count) (subst (λ (b : PassBound). served ≤ b.rounds * b.calls) c.at_least_one.ensures.value few)
