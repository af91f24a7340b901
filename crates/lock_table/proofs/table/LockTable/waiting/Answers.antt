use Rattle.std.proofs.Common.{rules, get_or, ◌+◌, ◌≡◌, ◌∙◌, ℕ, is_some, length, take, List, ap, sym, refl, arith}
use Rattle.std.proofs.Math.Seq.{take-length}
use Rattle.lock_rules.specs.Counts.{one_if, count_if}
use Rattle.lock_rules.proofs.Counting.{count-next, count-le}
use Rattle.lock_table.specs.declared.lockers.Locker.{Locker}
use Rattle.lock_table.specs.inner.Lockers.{standing_of}
use Rattle.lock_table.proofs.table.LockTable.waiting.Goals as goal

pub returns : goal.returns
returns c =
    let ws = c.args.self.now.lockers.items in
    let all : c.loop-index.index ≡ length ws = omega (arith, c.loop-index-test.false, c.loop-index.auto.index-end, c.len-index-end.ensures) in
    c.loop-index.invariant ∙ ap (λ (xs : List Locker). count_if (λ (w : Locker). is_some (standing_of w).wanted) xs) (ap (λ (n : ℕ). take n ws) all ∙ take-length ws)

pub loop-index-init : goal.loop-index-init
loop-index-init c = refl

pub loop-index-preserved : goal.loop-index-preserved
loop-index-preserved c =
    let ws = c.args.self.now.lockers.items in
    let i = c.loop-index.index in
    let p = λ (w : Locker). is_some (standing_of w).wanted in
    let w = c.index.result.now in
    let at : get_or ws i w ≡ w = search rules in
    omega (arith, c.saturating_add-count.ensures, c.one_if.ensures, c.loop-index.invariant, count-le p ws i, c.loop-index-test.true, c.len-index-end.ensures)
    ∙ (ap (λ b. count_if p (take i ws) + one_if b) c.is_waiting-waits.ensures
    ∙ (ap (λ (x : Locker). count_if p (take i ws) + one_if (p x)) (sym at) ∙ sym (count-next p ws i w (omega (arith, c.loop-index-test.true, c.len-index-end.ensures)))))
