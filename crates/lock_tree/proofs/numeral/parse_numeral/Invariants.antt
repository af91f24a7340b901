use Rattle.std.proofs.Common.{take}
use Rattle.lock_tree.specs.inner.NumeralScan.{IsScanOf}
use Rattle.lock_tree.proofs.numeral.parse_numeral.Given as goal

-- the bytes so far are scanned
abbrev pub invariant-loop-byte : goal.invariant-loop-byte
invariant-loop-byte l = IsScanOf l.scan (take l.byte-index l.text)
