use Rattle.std.proofs.Common.{arith, ℕ, ◌+◌, ap, sym, ◌∙◌, string_bytes, take, length-take}
use Rattle.lock_report.proofs.QueueLines.{next_line, next_number, no_line, number_few, same_number}
use Rattle.lock_report.proofs.boxes.put_queue.Goals as goal
use Rattle.lock_report.proofs.boxes.put_queue.Goals.{then-is_request_kind+in_ok-put_numbered, else-is_request_kind}

pub overflow_add-ahead : goal.overflow_add-ahead
overflow_add-ahead c =
    let few = number_few 1 (take c.loop-claim.claim-index c.args.claims.now) in
    let taken = length-take c.loop-claim.claim-index c.args.claims.now in
    omega (arith, few, taken, c.loop-claim.invariant.numbered, c.loop-claim-test.true, c.loop-claim.auto, c.loop-claim.auto.claim-index-end)

pub loop-claim-preserved : goal.loop-claim-preserved
loop-claim-preserved c = elim c.if-is_request_kind.branch [
  | then-is_request_kind+in_ok-put_numbered w ↦ record {
    text = ap string_bytes w.out-is ∙ next_line c.args.claims.now c.loop-claim.claim-index c.loop-claim.ahead c.claim-item.result _ _ _ c.loop-claim-test.true c.claim-item.is
        (sym c.is_request_kind.ensures ∙ w.if-is_request_kind.true) c.loop-claim.invariant.numbered c.loop-claim.invariant.text w.in_ok-put_numbered.ensures;
    numbered = ap (λ (n : ℕ). n + 1) w.ahead-is ∙ next_number c.args.claims.now c.loop-claim.claim-index c.loop-claim.ahead c.claim-item.result c.loop-claim-test.true c.claim-item.is
        (sym c.is_request_kind.ensures ∙ w.if-is_request_kind.true) c.loop-claim.invariant.numbered;
  }
  | else-is_request_kind w ↦ record {
    text = ap string_bytes w.out-is ∙ no_line c.args.claims.now c.loop-claim.claim-index c.claim-item.result _ _ c.loop-claim-test.true c.claim-item.is
        (sym c.is_request_kind.ensures ∙ w.if-is_request_kind.false) c.loop-claim.invariant.text;
    numbered = ap (λ (n : ℕ). n + 1) w.ahead-is ∙ same_number c.args.claims.now c.loop-claim.claim-index c.loop-claim.ahead c.claim-item.result c.loop-claim-test.true c.claim-item.is
        (sym c.is_request_kind.ensures ∙ w.if-is_request_kind.false) c.loop-claim.invariant.numbered;
  }
]
