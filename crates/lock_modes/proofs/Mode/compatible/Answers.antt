use Rattle.lock_modes.proofs.Codes.{mask_agrees, mask-same}
use Rattle.lock_modes.proofs.Compatibility.{compatible-decides}
use Rattle.lock_modes.proofs.Mode.compatible.Goals as goal

pub returns-clause-relation : goal.returns-clause-relation
returns-clause-relation c = rw (c.conflict_mask.ensures, c.code.ensures, mask-same) (compatible-decides c.args.asked c.args.granted)

pub returns-clause-masks : goal.returns-clause-masks
returns-clause-masks c = mask_agrees c.args.asked c.args.granted
