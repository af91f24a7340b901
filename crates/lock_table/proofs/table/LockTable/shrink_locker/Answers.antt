use Rattle.std.proofs.Common.{rules, [], refl}
use Rattle.lock_table.proofs.CellTable.{became-same}
use Rattle.lock_table.proofs.Asking.{within, room-same, room-whole}
use Rattle.lock_table.proofs.RowsOfTheTable.{ready-same}
use Rattle.lock_table.proofs.table.LockTable.shrink_locker.Goals as goal

pub returns-clause-same : goal.returns-clause-same
returns-clause-same c =
    room-same c.args.self.now c.args.session c.index_mut-locker.result.now c.shrink.new.self c.requires.may_serve.whole (within c.args.self.now c.args.session c.position_of.ensures c.requires.may_serve.session) c.index_mut-locker.ensures.value c.shrink.ensures.standing [] _ refl refl refl (became-same [] c.args.self.now.cells.entries c.requires.may_serve.whole.cells)

pub returns-clause-kept : goal.returns-clause-kept
returns-clause-kept c =
    record {
      whole = room-whole c.args.self.now c.args.session c.index_mut-locker.result.now c.shrink.new.self c.requires.may_serve.whole (within c.args.self.now c.args.session c.position_of.ensures c.requires.may_serve.session) c.index_mut-locker.ensures.value c.shrink.ensures.standing [] _ refl refl refl (became-same [] c.args.self.now.cells.entries c.requires.may_serve.whole.cells);
      lockers = search rules;
      ready = ready-same c.args.self.now _ (room-same c.args.self.now c.args.session c.index_mut-locker.result.now c.shrink.new.self c.requires.may_serve.whole (within c.args.self.now c.args.session c.position_of.ensures c.requires.may_serve.session) c.index_mut-locker.ensures.value c.shrink.ensures.standing [] _ refl refl refl (became-same [] c.args.self.now.cells.entries c.requires.may_serve.whole.cells)) (search rules) refl c.requires.may_serve.ready;
    }
