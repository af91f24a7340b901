use Rattle.std.proofs.Common.{sym, ◌∙◌, ap}
use Rattle.session_locks.specs.LockLists.{has_child}
use Rattle.lock_table.specs.inner.Lockers.{Standing}
use Rattle.lock_table.proofs.LockerStandings.{standing-here}
use Rattle.lock_table.proofs.Asking.{within}
use Rattle.lock_table.proofs.table.LockTable.holds_child.Goals as goal

pub returns : goal.returns
returns c =
    let w = within c.args.self.now c.args.session c.position_of.ensures c.requires.session in
    c.holds_child.ensures ∙ ap (λ (x : Standing). has_child c.args.resource x.held) (sym (standing-here c.args.self.now.lockers.items c.args.session c.index-locker.result.now w c.index-locker.ensures))
