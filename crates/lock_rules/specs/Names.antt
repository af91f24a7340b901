-- The names of the refusals, as histories and messages write them.
use Rattle.std.specs.Prelude.{ℕ, List, codes}
use Rattle.lock_rules.specs.declared.calls.Why.{Why}
use Rattle.lock_rules.specs.declared.calls.Why.TheVariants.{AlreadyOpen, NoTransaction, IsWaiting, IsDoomed, NothingAsked, NotHeld, ParentNotHeld, ChildHeld, TooManyLocks, WouldWait, NotWaiting}

-- the name of the refusal, as histories write it
abbrev pub name_of_why : Why → List ℕ
name_of_why AlreadyOpen = codes "AlreadyOpen"
name_of_why NoTransaction = codes "NoTransaction"
name_of_why IsWaiting = codes "IsWaiting"
name_of_why IsDoomed = codes "IsDoomed"
name_of_why NothingAsked = codes "NothingAsked"
name_of_why NotHeld = codes "NotHeld"
name_of_why ParentNotHeld = codes "ParentNotHeld"
name_of_why ChildHeld = codes "ChildHeld"
name_of_why TooManyLocks = codes "TooManyLocks"
name_of_why WouldWait = codes "WouldWait"
name_of_why NotWaiting = codes "NotWaiting"
