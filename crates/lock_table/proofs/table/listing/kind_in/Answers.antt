use Rattle.std.proofs.Common.{Bool, cond, is_some, sym, ◌∙◌, ap}
use Rattle.lock_rules.specs.declared.listing.ClaimKind.TheVariants.{Conversion, Fresh}
use Rattle.lock_holders.proofs.SessionModes.{mode-has}
use Rattle.lock_table.proofs.table.listing.kind_in.Goals as goal

pub returns-then-is_some : goal.returns-then-is_some
returns-then-is_some c =
    let has = sym (mode-has c.args.session c.args.cell.now.holders.items) ∙ (sym (ap is_some c.mode_held.ensures) ∙ (sym c.is_some.ensures ∙ c.if-is_some.true)) in
    sym (ap (λ (b : Bool). cond b Conversion Fresh) has)

pub returns-else-is_some : goal.returns-else-is_some
returns-else-is_some c =
    let has = sym (mode-has c.args.session c.args.cell.now.holders.items) ∙ (sym (ap is_some c.mode_held.ensures) ∙ (sym c.is_some.ensures ∙ c.if-is_some.false)) in
    sym (ap (λ (b : Bool). cond b Conversion Fresh) has)
