use Rattle.std.proofs.Common.{ap, sym, ◌∙◌}
use Rattle.lock_holders.specs.SessionModes.{go_with}
use Rattle.lock_holders.proofs.Rising.{fits-go}
use Rattle.lock_table.proofs.cells.Cell.admit.Goals as goal

pub returns-then-compatible-clause-shared : goal.returns-then-compatible-clause-shared
returns-then-compatible-clause-shared c =
    ap (go_with c.args.holder.mode) c.put.ensures.items
    ∙ fits-go c.args.holder c.args.self.now.holders.items c.requires.rising c.requires.fits (sym c.compatible.ensures.value ∙ c.if-compatible.true)
