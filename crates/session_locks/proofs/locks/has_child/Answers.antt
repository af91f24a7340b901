use Rattle.std.proofs.Common.{◌∙◌, rules, tests}
use Rattle.std.proofs.lemmas.Iterator.{YieldsList-from_slice}
use Rattle.std.proofs.lemmas.Iterator.Search.{any_from_yields_List}
use Rattle.session_locks.specs.declared.locks.HeldLock.{HeldLock}
use Rattle.session_locks.specs.LockLists.{is_child}
use Rattle.session_locks.proofs.LockLists.{any-child}
use Rattle.session_locks.proofs.locks.has_child.Goals as goal

pub returns : goal.returns
returns c =
    any_from_yields_List (λ (l : HeldLock). is_child c.args.resource l.resource) _ _ _ c.any.ensures.ran (YieldsList-from_slice c.args.list.now cc) (λ x b q k. search (rules, tests))
    ∙ any-child c.args.resource c.args.list.now
