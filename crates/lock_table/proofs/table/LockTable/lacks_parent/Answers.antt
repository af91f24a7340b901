use Rattle.std.proofs.Common.{◌≡◌, ◌∙◌, ◌&&◌, not, Bool, ap, sym, refl}
use Rattle.lock_modes.specs.declared.Mode.{Mode}
use Rattle.lock_modes.specs.Order.{at_or_below, need_of}
use Rattle.lock_tree.specs.Paths.{parent_of}
use Rattle.lock_rules.specs.State.{mode_or_nothing}
use Rattle.lock_table.specs.Changes.{mode_held}
use Rattle.lock_table.proofs.table.LockTable.lacks_parent.Goals.{in-Some-mode_at, in-None}
use Rattle.lock_table.proofs.table.LockTable.lacks_parent.Goals as goal

pub returns : goal.returns
returns c =
    let up = c.in-Some.ensures in
    let need = need_of c.args.mode in
    let held : c.match-mode_at.held ≡ mode_or_nothing c.mode_at.result = elim c.match-mode_at.branch [ in-Some-mode_at w ↦ w.held-is ∙ ap mode_or_nothing (sym w.in-Some-mode_at.is) | in-None w ↦ w.held-is ∙ ap mode_or_nothing (sym w.in-None.is) ] in
    let there = c.mode_at.ensures _ c.parent_place-place.ensures ∙ ap (mode_held c.args.self.now c.args.session) up.value in
    let covers = c.covers.ensures.value ∙ (ap (λ (n : Mode). at_or_below n c.match-mode_at.held) c.parent_need.ensures ∙ ap (at_or_below need) (held ∙ ap mode_or_nothing there)) in
    ap not covers ∙ sym (ap (λ (b : Bool). b && not (at_or_below need (mode_or_nothing (mode_held c.args.self.now c.args.session (parent_of c.args.resource))))) (up.some.0 refl))
