use Rattle.std.proofs.Common.{◌≡◌, ◌+◌, ◌<◌, length, Bool, true, cond, ◌∷◌, drop, Some, None, IfSome, sym, ◌∙◌, ap, subst, arith}
use Rattle.std.proofs.lemmas.List.{drop_more}
use Rattle.lock_modes.specs.declared.Mode.{Mode}
use Rattle.lock_holders.specs.declared.session_mode.SessionMode.{SessionMode}
use Rattle.lock_holders.specs.SessionModes.{fits_among, go_with}
use Rattle.lock_table.specs.inner.Cells.{next_grant}
use Rattle.lock_holders.proofs.Rising.{go-fits}
use Rattle.lock_table.proofs.cells.Cell.next_grant.Goals as goal

pub returns-then-is_mode : goal.returns-then-is_mode
returns-then-is_mode c =
    let hs = c.args.self.now.holders.items in
    let ws = c.args.self.now.waiting.items in
    let next = c.index-next.result.now in
    let within : c.args.granted < length ws = omega (arith, c.if-granted-len.false, c.len.ensures, c.args.self.now.waiting.ok.0) in
    let first : drop c.args.granted ws ≡ next ∷ drop (c.args.granted + 1) ws = drop_more ws c.args.granted next within ∙ ap (λ (x : SessionMode). x ∷ drop (c.args.granted + 1) ws) (sym c.index-next.ensures) in
    let fits : fits_among next hs ≡ true = go-fits next hs (subst (λ o. IfSome o (λ (m : Mode). go_with m hs ≡ true)) (c.is_mode.ensures c.if-is_mode.true) c.requires.shared) in
    sym (ap (next_grant hs) first ∙ ap (λ (b : Bool). cond b (Some next) None) fits)
