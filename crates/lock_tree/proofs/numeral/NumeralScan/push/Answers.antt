use Rattle.lock_tree.proofs.ByByte.{read_on}
use Rattle.lock_tree.proofs.numeral.NumeralScan.push.Goals as goal

pub returns : goal.returns
returns c text h =
    let step = rw c.saturating_sub.ensures at c.with_digit.ensures in
    rw c.is_ascii_digit.ensures.value (read_on text c.args.byte c.args.self.are_digits c.args.self.number c.with_digit.result step h)
