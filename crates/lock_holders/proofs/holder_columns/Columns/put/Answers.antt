use Rattle.std.proofs.Common.{subst}
use Rattle.lock_holders.specs.SessionModes.{with_holder}
use Rattle.lock_holders.specs.Holders.{IsOwn, IsBetween, IsPlaceOf}
use Rattle.lock_holders.proofs.Rising.{length-with}
use Rattle.lock_holders.proofs.Columns.{AreOf, beside-as, are-columns, columns-of, set-in, insert-in}
use Rattle.lock_holders.proofs.holder_columns.Columns.put.Goals as goal

own : (c : goal.After-write_at) → AreOf c.self.inside.sessions.items c.write_at.new.codes.items (with_holder c.args.holder c.args.self.now.items)
own c =
    let a = c.self.inside in
    let h = c.args.holder in
    let hs = c.args.self.now.items in
    let place : IsOwn h.session hs c.in-Own.index = subst (IsPlaceOf h.session hs) c.in-Own.is c.requires.place in
    set-in a.sessions.items a.codes.items _ hs c.in-Own.index h c.code-code.result (columns-of a c.args.self.now c.self.view_is c.self.invariant) place c.code-code.ensures c.write_at.ensures.items

between : (c : goal.After-insert_at-in-Between) → AreOf c.insert_at.new.list.items c.insert_at-in-Between.new.list.items (with_holder c.args.holder c.args.self.now.items)
between c =
    let a = c.self.inside in
    let h = c.args.holder in
    let hs = c.args.self.now.items in
    let place : IsBetween h.session hs c.in-Between.index = subst (IsPlaceOf h.session hs) c.in-Between.is c.requires.place in
    insert-in a.sessions.items a.codes.items _ _ hs c.in-Between.index h c.code-code.result (columns-of a c.args.self.now c.self.view_is c.self.invariant) place c.code-code.ensures c.insert_at.ensures.items c.insert_at-in-Between.ensures.items

pub invariant_of-self : goal.invariant_of-self
invariant_of-self c = are-columns _ _ (own c)

pub invariant_of-self-in-Between : goal.invariant_of-self-in-Between
invariant_of-self-in-Between c = are-columns _ _ (between c)

pub returns-in-Own-clause-items : goal.returns-in-Own-clause-items
returns-in-Own-clause-items c = beside-as _ _ _ (own c)

pub returns-in-Own-clause-len : goal.returns-in-Own-clause-len
returns-in-Own-clause-len c = rw (beside-as _ _ _ (own c)) (length-with c.args.holder c.args.self.now.items)

pub returns-in-Between-clause-items : goal.returns-in-Between-clause-items
returns-in-Between-clause-items c = beside-as _ _ _ (between c)

pub returns-in-Between-clause-len : goal.returns-in-Between-clause-len
returns-in-Between-clause-len c = rw (beside-as _ _ _ (between c)) (length-with c.args.holder c.args.self.now.items)
