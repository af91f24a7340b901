use Rattle.std.proofs.Common.{sym, subst}
use Rattle.lock_holders.specs.Holders.{IsPlaceOf}
use Rattle.lock_holders.proofs.Rising.{has-own, has-between}
use Rattle.lock_holders.proofs.holder_columns.HolderPlace.is_own.Goals as goal

pub returns-in-Own : goal.returns-in-Own
returns-in-Own c = λ s hs h. sym (has-own s hs _ (subst (IsPlaceOf s hs) c.in-Own.is h))

pub returns-in-Between : goal.returns-in-Between
returns-in-Between c = λ s hs h. sym (has-between s hs _ (subst (IsPlaceOf s hs) c.in-Between.is h))
