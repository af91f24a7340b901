use Rattle.library_sessions.proofs.deadlocks.told.Goals as goal

pub returns-clause-ok : goal.returns-clause-ok
returns-clause-ok c = λ e.
    let w = c.write_told-status.ensures in
    let ok = c.if-status-ne-OK.false in
    (c.newest_deadlocks-told.result.now, c.newest_deadlocks-told.ensures, w.list ok, c.deadlock_count.ensures, w.members ok, w.member_count ok)
