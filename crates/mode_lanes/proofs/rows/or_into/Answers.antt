use Rattle.std.proofs.Common.{sym, ◌∙◌, arith}
use Rattle.std.specs.Prelude.{bit_or, bit_xor}
use Rattle.std.proofs.lemmas.Simd.{length-chunk, length-zip2}
use lib.Lanes.{chunk, zip2}
use Rattle.mode_lanes.proofs.Unions.{fold-or}
use Rattle.mode_lanes.proofs.Written.{written-item, written-lanes, adds-item, adds-lanes, changed-whole}
use Rattle.mode_lanes.proofs.rows.or_into.Goals as goal

pub loop-at-preserved : goal.loop-at-preserved
loop-at-preserved c =
    let at = c.loop-at.at in
    let now = c.loop-at.row in
    let old = c.args.row.now in
    let other = c.args.other.now in
    let h = c.loop-at.invariant in
    let mine = length-chunk at 4 now (omega (arith, h.written.room)) in
    let theirs = length-chunk at 4 other (omega arith) in
    let after = length-zip2 bit_or (chunk at 4 now) (chunk at 4 other) (mine ∙ sym theirs) ∙ mine in
    let news = length-zip2 bit_xor (chunk at 4 now) (zip2 bit_or (chunk at 4 now) (chunk at 4 other)) (mine ∙ sym after) ∙ mine in
    record {
      within = omega arith;
      lanes = length-zip2 bit_or c.loop-at.changed (zip2 bit_xor (chunk at 4 now) (zip2 bit_or (chunk at 4 now) (chunk at 4 other))) (h.lanes ∙ sym news) ∙ h.lanes;
      written = written-lanes bit_or old other now at h.written 4 c.requires (omega arith);
      changes = adds-lanes old other now at h.written 4 c.loop-at.changed c.requires (omega arith) h.lanes h.changes;
    }

pub loop-k-init : goal.loop-k-init
loop-k-init c = record {
  written = c.loop-at.invariant.written;
  changes = rw (fold-or 0 c.loop-at.changed) c.loop-at.invariant.changes;
}

pub loop-k-preserved : goal.loop-k-preserved
loop-k-preserved c = record {
  written = written-item bit_or c.args.row.now c.args.other.now c.loop-k.row c.loop-k.k c.loop-k.invariant.written (omega arith);
  changes = adds-item c.args.row.now c.args.other.now c.loop-k.row c.loop-k.k c.loop-k.invariant.written c.loop-k.changes c.loop-k.invariant.changes;
}

pub returns-clause-changed : goal.returns-clause-changed
returns-clause-changed c = changed-whole c.args.row.now c.args.other.now c.loop-k.row c.loop-k.k c.loop-k.changes c.loop-k.invariant.written (omega arith) c.loop-k.invariant.changes
