use Rattle.std.proofs.Common.{◌≡◌, ◌∙◌, ℕ, ◌+◌, ◌*◌, get_or, ap, arith}
use Rattle.lock_rules.specs.Counts.{count_if}
use Rattle.lock_rules.proofs.Counting.{count-le-length}
use Rattle.lock_rules.proofs.CountTallies.{below, called-next, called-all, called-none}
use Rattle.lock_desk.proofs.call_counts.CallCounts.called.Goals as goal

pub returns : goal.returns
returns c = λ h t few.
    let all : c.loop-number.number ≡ 12 = omega (arith, c.loop-number-test.false, c.loop-number.auto.number-end) in
    c.loop-number.invariant h t few ∙ ap (λ (n : ℕ). count_if (below c.args.op n) h) all ∙ called-all c.args.op h

pub loop-number-init : goal.loop-number-init
loop-number-init c = λ h t few. called-none c.args.op h

pub loop-number-preserved : goal.loop-number-preserved
loop-number-preserved c = λ h t few.
    let n = c.loop-number.number in
    let cell = ap (λ (x : ℕ). get_or c.args.self.now.replies (x * 12 + n) 0) c.number.ensures in
    omega (arith, cell, c.loop-number.invariant h t few, t.replies c.args.op n c.loop-number-test.true, called-next c.args.op n h, count-le-length (below c.args.op (n + 1)) h, few)
