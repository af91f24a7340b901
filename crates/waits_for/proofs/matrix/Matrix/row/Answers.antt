use Rattle.std.proofs.Common.{◌≡◌, ◌+◌, ◌-◌, ◌<◌, arith}
use Rattle.waits_for.specs.inner.Bits.{words_for}
use Rattle.waits_for.proofs.Places.{pairs_of-row, seen-sessions}
use Rattle.waits_for.proofs.matrix.Matrix.row.Goals as goal

pub returns-clause-bits : goal.returns-clause-bits
returns-clause-bits c u =
    let n = c.self.inside.sessions in
    let e = seen-sessions n c.self.inside.words.items c.args.self.now c.self.view_is in
    let below : c.args.t < n = omega (arith, e, c.requires) in
    let width : c.row_start-from.result + c.words_for-width.result - c.row_start-from.result ≡ words_for n = omega (arith, c.words_for-width.ensures) in
    rw c.deref.ensures.value (rw width (rw c.row_start-from.ensures.start (pairs_of-row n c.self.inside.words.items c.args.self.now c.self.view_is c.args.t below c.self.invariant.0 c.self.invariant.1 u)))
