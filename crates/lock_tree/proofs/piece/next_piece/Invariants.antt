use Rattle.std.proofs.Common.{◌≡◌, ℕ, ◌<◌, false, get_or, take}
use Rattle.lock_tree.specs.inner.NumeralScan.{IsScanOf}
use Rattle.lock_tree.specs.Text.{is_slash}
use Rattle.lock_tree.proofs.piece.next_piece.Given as goal

-- the bytes so far belong to the piece and are scanned
abbrev pub invariant-loop-byte : goal.invariant-loop-byte
invariant-loop-byte l = record {
  length : l.length ≡ l.byte-index;
  front : (k : ℕ) → k < l.byte-index → is_slash (get_or l.bytes k 0) ≡ false;
  scan : IsScanOf l.scan (take l.byte-index l.bytes);
}
