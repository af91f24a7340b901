use Rattle.std.proofs.Common.{◌≡◌, List, ◌∙◌, ap, sym, rules}
use Rattle.std.proofs.lemmas.Fn.{filter_same}
use Rattle.lock_holders.specs.declared.session_mode.SessionMode.{SessionMode}
use Rattle.lock_table.specs.declared.cells.GivenUp.{GivenUp}
use Rattle.lock_table.specs.inner.Cells.{view_of, view_after_giving_up}
use Rattle.lock_holders.specs.SessionModes.{without}
use Rattle.lock_table.proofs.cells.Cell.give_up.Goals as goal

pub returns-in-Request-clause-view : goal.returns-in-Request-clause-view
returns-in-Request-clause-view c =
    let e : c.retain.new.self.items ≡ without c.args.session c.args.self.now.waiting.items = filter_same _ _ _ (λ x b f' k. search rules) _ _ c.retain.ensures.filtered in
    ap (λ (xs : List SessionMode). record { holders = c.args.self.now.holders.items; waiting = xs }) e
    ∙ sym (ap (λ (p : GivenUp). view_after_giving_up p c.args.session (view_of c.args.self.now)) c.in-Request.is)
