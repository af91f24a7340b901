use Rattle.std.proofs.Common.{◌≡◌, ◌<◌, false, true, arith, sym, ap, ne_eqb, below_more, length, slice_index_or, subst, take, ◌∙◌, List, ℕ}
use Rattle.lock_tree.specs.inner.NumeralScan.{IsScanOf}
use Rattle.lock_tree.specs.Text.{is_slash}
use Rattle.lock_tree.proofs.ByByte.{first_piece_is, read_more}
use Rattle.lock_tree.proofs.piece.next_piece.Goals as goal
use Rattle.lock_tree.proofs.piece.next_piece.Goals.{else-loop-byte-test, then-loop-byte-test+then-byte-eq47}

pub loop-byte-preserved : goal.loop-byte-preserved
loop-byte-preserved c =
    let byte = slice_index_or c.args.bytes.now c.loop-byte.byte-index 0 in
    record {
      length = omega arith;
      front = below_more (λ k. is_slash (slice_index_or c.args.bytes.now k 0) ≡ false) c.loop-byte.byte-index c.loop-byte.invariant.front (ne_eqb byte 47 c.if-byte-eq47.false);
      scan = read_more c.args.bytes.now c.loop-byte.byte-index c.push-scan.result c.loop-byte-test.true (c.push-scan.ensures _ c.loop-byte.invariant.scan);
    }

pub returns : goal.returns
returns c =
    let bytes = c.args.bytes.now in
    let i = c.loop-byte.byte-index in
    let at : i < length bytes → is_slash (slice_index_or bytes i 0) ≡ true =
    elim c.loop-byte-test.branch [ else-loop-byte-test w ↦ λ more. absurd (omega arith) | then-loop-byte-test+then-byte-eq47 w ↦ λ more. ap is_slash w.if-byte-eq47.true ] in
    let is = first_piece_is bytes i c.loop-byte.auto.byte-index-end c.loop-byte.invariant.front at in
    let P : List ℕ → Type 0 = λ t. IsScanOf c.loop-byte.scan t in
    record { piece = ap (λ (k : ℕ). take k bytes) c.loop-byte.invariant.length ∙ sym is; scan = subst P (sym is) c.loop-byte.invariant.scan }
