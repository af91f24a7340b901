use Rattle.std.proofs.Common.{◌≡◌, ◌∙◌, refl, sym, arith}
use Rattle.lock_trace.proofs.FastPath.{digit_read}
use Rattle.lock_trace.proofs.fast_path.number_from.Goals as goal
use Rattle.lock_trace.proofs.fast_path.number_from.Goals.{else-number-eq0-via-then-number-eq0+else-end-start, else-number-eq0-via-else-number-eq0}

pub loop-at-preserved : goal.loop-at-preserved
loop-at-preserved c =
    let l = c.loop-at in
    let first : l.number ≡ 0 → l.at ≡ c.args.start =
    elim c.else-number-eq0.branch [ else-number-eq0-via-then-number-eq0+else-end-start w ↦ λ zero. sym l.invariant.here ∙ w.if-end-start.false | else-number-eq0-via-else-number-eq0 w ↦ λ zero. absurd (w.if-number-eq0.false zero) ] in
    record {
      here = omega arith;
      read = digit_read c.args.field.now c.args.start l.at l.number _ l.auto.at c.loop-at-test.true refl c.if-byte-lt48.false c.if-byte-gt57.false (omega (arith, c.if-number-gt-MAX_PREFIX.false)) first l.invariant.read;
    }
