use Rattle.std.proofs.Common.{arith}
use Rattle.mode_lanes.specs.Masks.{meets}
use Rattle.mode_lanes.proofs.Unions.{not_from_ne}
use Rattle.mode_lanes.proofs.Hits.{position-found, position-none}
use Rattle.std.specs.Prelude.{bit_and}
use Rattle.std.proofs.Common.{sym, get_or}
use Rattle.mode_lanes.proofs.columns.first_in_tail.Goals as goal

pub returns-then-column-k-ne0 : goal.returns-then-column-k-ne0
returns-then-column-k-ne0 c = sym (position-found (meets c.args.mask) c.args.column.now c.loop-k.k (omega arith) c.loop-k.invariant (not_from_ne (bit_and (get_or c.args.column.now c.loop-k.k 0) c.args.mask) c.if-column-k-ne0.true))

pub returns : goal.returns
returns c = sym (position-none (meets c.args.mask) c.args.column.now (λ k lt. c.loop-k.invariant k (omega (arith, lt))))
