use Rattle.std.proofs.Common.{sym}
use Rattle.lock_holders.specs.SessionModes.{without}
use Rattle.lock_holders.proofs.Rising.{length-without, left-between}
use Rattle.lock_holders.proofs.Columns.{AreOf, beside-as, are-columns, columns-of, remove-in}
use Rattle.lock_holders.proofs.holder_columns.Columns.remove.Goals as goal

left : (c : goal.After-remove_at-in-Own) → AreOf c.remove_at.new.list.items c.remove_at-in-Own.new.list.items (without c.args.session c.args.self.now.items)
left c =
    let a = c.self.inside in
    remove-in a.sessions.items a.codes.items _ _ c.args.self.now.items c.in-Own.index c.args.session (columns-of a c.args.self.now c.self.view_is c.self.invariant) c.in-Own.ensures c.remove_at.ensures.items c.remove_at-in-Own.ensures.items

pub invariant_of-self : goal.invariant_of-self
invariant_of-self c = are-columns _ _ (left c)

pub returns-in-Own-clause-items : goal.returns-in-Own-clause-items
returns-in-Own-clause-items c = beside-as _ _ _ (left c)

pub returns-in-Own-clause-len : goal.returns-in-Own-clause-len
returns-in-Own-clause-len c = rw (beside-as _ _ _ (left c)) (length-without c.args.session c.args.self.now.items)

pub returns-in_default-clause-items : goal.returns-in_default-clause-items
returns-in_default-clause-items c = sym (left-between c.args.session c.args.self.now.items _ c.in_default.ensures)
