use Rattle.mode_lanes.proofs.Unions.{meets-union}
use Rattle.mode_lanes.proofs.columns.any_meets.Goals as goal

pub returns : goal.returns
returns c = rw c.union.ensures (meets-union c.args.mask c.args.column.now)
