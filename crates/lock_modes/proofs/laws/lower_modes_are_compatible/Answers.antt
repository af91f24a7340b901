use Rattle.lock_modes.proofs.Lower.{compatible-below}
use Rattle.lock_modes.proofs.laws.lower_modes_are_compatible.Goals as goal

pub returns : goal.returns
returns c asked granted a g below_asked below_granted = compatible-below a asked g granted below_asked below_granted
