use Rattle.std.proofs.Common.{◌≡◌, ◌<◌, ◌-◌, ◌∙◌, List, sym, ap, length, arith, swap, get_or}
use Rattle.std.proofs.lemmas.List.Edits.{length-swap}
use Rattle.lock_table.specs.declared.cells.Cell.{Cell}
use Rattle.lock_table.specs.inner.Cells.{Table, view_of}
use Rattle.lock_table.proofs.CellEntries.{length-beside}
use Rattle.lock_table.proofs.Places.{gone-there, idle-swapped, fewer}
use Rattle.lock_table.proofs.cell_table.CellTable.vacate.Goals as goal

pub swap_remove-last-requires : goal.swap_remove-last-requires
swap_remove-last-requires c =
    omega (arith, c.requires.within, ap (λ (t : Table). length t.entries) c.self.view_is, length-beside c.self.inside.keys.used c.self.inside.cells.items c.self.invariant.long)

pub swap-requires-clause-i_in_bounds : goal.swap-requires-clause-i_in_bounds
swap-requires-clause-i_in_bounds c =
    omega (arith, c.requires.within, ap (λ (t : Table). length t.entries) c.self.view_is, length-beside c.self.inside.keys.used c.self.inside.cells.items c.self.invariant.long, c.self.invariant.long, c.self.inside.cells.ok.0)

pub invariant_of-self : goal.invariant_of-self
invariant_of-self c =
    let rs = c.self.inside.keys.used in
    let xs = c.self.inside.cells.items in
    let lt : c.args.place < length rs = omega (arith, c.requires.within, ap (λ (t : Table). length t.entries) c.self.view_is, length-beside rs xs c.self.invariant.long) in
    let fewer-left = fewer rs c.args.place lt _ c.swap_remove-last.ensures.gone in
    let last : c.swap_remove-last.result ≡ length rs - 1 = omega (arith, c.swap_remove-last.ensures.last) in
    let swapped = c.swap.ensures.items ∙ ap (swap xs c.args.place) last in
    record {
      long = omega (arith, fewer-left, ap length swapped, length-swap xs c.args.place (length rs - 1), c.self.invariant.long);
      idle = λ j d h g. ap (λ (ys : List Cell). view_of (get_or ys j d)) swapped ∙ idle-swapped rs xs c.args.self.now.entries (ap (λ (t : Table). t.entries) c.self.view_is) c.self.invariant.long c.args.place lt c.requires.idle c.self.invariant.idle j d (omega (arith, h, fewer-left, lt)) (omega (arith, g, ap length swapped));
    }

pub returns : goal.returns
returns c =
    let rs = c.self.inside.keys.used in
    let xs = c.self.inside.cells.items in
    let lt : c.args.place < length rs = omega (arith, c.requires.within, ap (λ (t : Table). length t.entries) c.self.view_is, length-beside rs xs c.self.invariant.long) in
    let last : c.swap_remove-last.result ≡ length rs - 1 = omega (arith, c.swap_remove-last.ensures.last) in
    let swapped = c.swap.ensures.items ∙ ap (swap xs c.args.place) last in
    record {
      gone = gone-there rs xs c.args.self.now.entries (ap (λ (t : Table). t.entries) c.self.view_is) c.self.invariant.long c.args.place lt c.swap_remove-last.ensures.apart _ _ c.swap_remove-last.ensures.gone swapped;
    }
