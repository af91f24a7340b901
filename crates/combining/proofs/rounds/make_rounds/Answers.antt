use Rattle.std.proofs.Common.{rules, ◌≡◌, ◌∙◌, ◌+◌, ◌-◌, ◌≤◌, false, ℕ, length, refl, subst, arith}
use Rattle.publication.proofs.Lists.{prefix_self, prefix_trans}
use Rattle.combining.proofs.EndedWaits.{told-on, told-self}
use Rattle.combining.proofs.OwnCalls.{pass-entered}
use Rattle.combining.proofs.BoundedPasses.{passed-none, passed-on, rounds-on, no-round, next-round, all-rounds, served-is}
use Rattle.combining.proofs.RoundWeights.{led-further}
use Rattle.combining.specs.inner.BoundedPasses.{HasServedWithin}
use Rattle.combining.proofs.rounds.make_rounds.Goals as goal

pub loop-made-init : goal.loop-made-init
loop-made-init g c =
    let t = c.args.session.now in
    record {
      work = c.requires.work;
      passed = (0, passed-none t, no-round c.args.bound.calls);
      led = refl;
      longer = prefix_self t.front;
      backs = refl;
      pieces = refl;
      few = c.requires.bound.2;
      told = told-self c.args.board.now.sessions t t (g.T.Listener.list c.args.listener.now) refl;
      room = refl;
    }

pub loop-made-preserved : goal.loop-made-preserved
loop-made-preserved g c =
    let t = c.args.session.now in
    let u = c.loop-made.session in
    let i = c.loop-made.invariant in
    let served = i.passed.0 in
    let next = c.make_round_telling-last in
    let v = next.new.session in
    let e = next.ensures in
    let fed : next.result.starved ≡ false = search rules in
    record {
      work = e.work;
      passed = (
        served + next.result.served,
        passed-on t u v served next.result.served i.passed.1 e.round.passed,
        next-round c.loop-made.made c.args.bound.calls served next.result.served i.passed.2 (omega (arith, e.round.few)),
      );
      led = led-further g.T.Listener.weight c.args.bound c.loop-made.made t.front u.front v.front i.led (e.round.led fed);
      longer = prefix_trans t.front u.front v.front i.longer e.round.longer;
      backs = e.round.kept fed ∙ i.backs;
      pieces = e.round.taken ∙ i.pieces;
      few = search rules;
      told = told-on c.args.board.now.sessions t u v _ _ _ (pass-entered t u served i.passed.1) e.round.longer (pass-entered u v next.result.served e.round.passed) i.told e.told;
      room = e.room ∙ i.room;
    }

pub returns-then-made-bound-clause-rounds : goal.returns-then-made-bound-clause-rounds
returns-then-made-bound-clause-rounds g c =
    let n = c.args.board.now.sessions in
    let calls = c.args.bound.calls in
    let t = c.args.session.now in
    let u = c.loop-made.session in
    let i = c.loop-made.invariant in
    let served = i.passed.0 in
    let last = c.make_round_telling-last in
    let v = last.new.session in
    let e = last.ensures.round in
    let all = rounds-on n c.args.bound c.loop-made.made t u v c.args.load.now c.loop-made.load last.new.load served last.result.served last.result.starved last.result.left
    i.passed.1 i.passed.2 i.led i.longer i.backs i.pieces e in
    let made : c.loop-made.made + 1 ≤ c.args.bound.rounds = omega (arith, i.few) in
    let many : served + last.result.served ≡ c.seen.result - c.seen-known.result = served-is (length v.front) (length t.front) (served + last.result.served) c.seen.result c.seen-known.result all.passed.count c.seen.ensures c.seen-known.ensures in
    (c.loop-made.made + 1, made, subst (λ (k : ℕ). HasServedWithin g.T.Listener.weight n c.args.bound (c.loop-made.made + 1) t v c.args.load.now last.new.load k last.result.starved last.result.left) many all)

pub returns-then-made-bound-clause-told : goal.returns-then-made-bound-clause-told
returns-then-made-bound-clause-told g c =
    let t = c.args.session.now in
    let u = c.loop-made.session in
    let i = c.loop-made.invariant in
    let last = c.make_round_telling-last in
    let e = last.ensures in
    told-on c.args.board.now.sessions t u last.new.session _ _ _ (pass-entered t u i.passed.0 i.passed.1) e.round.longer (pass-entered u last.new.session last.result.served e.round.passed) i.told e.told

pub returns-then-made-bound-clause-pass : goal.returns-then-made-bound-clause-pass
returns-then-made-bound-clause-pass g c = (returns-then-made-bound-clause-rounds g c).2.passed

pub returns-then-made-bound-clause-served : goal.returns-then-made-bound-clause-served
returns-then-made-bound-clause-served g c =
    let all = (returns-then-made-bound-clause-rounds g c).2 in
    record { longer = all.longer; put_back = all.put_back; heard = all.heard; taken = all.taken }

pub returns-then-made-bound-clause-few : goal.returns-then-made-bound-clause-few
returns-then-made-bound-clause-few g c =
    let rounds = returns-then-made-bound-clause-rounds g c in
    all-rounds rounds.0 c.args.bound.rounds c.args.bound.calls _ rounds.1 rounds.2.few
