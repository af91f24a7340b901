use Rattle.std.proofs.Common.{rules}
use Rattle.publication.proofs.LaidDown.{splits_bounded}
use Rattle.publication.proofs.SplitsAndJoins.{splits_copy}
use Rattle.publication.proofs.steps.split_copy.Goals as goal

pub split_seat-requires : goal.split_seat-requires
split_seat-requires g c = (search rules, search rules, splits_bounded (splits_copy c.args.seat.now.id c.args.seat.now.me.0 c.requires.made))
