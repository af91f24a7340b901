use Rattle.std.proofs.Common.{sym, ◌∙◌}
use Rattle.std.proofs.lemmas.Bool.{not-true}
use Rattle.lock_rules.specs.Legal.{state_of}
use Rattle.lock_explain.proofs.EndedNone.{none-doomed}
use Rattle.lock_explain.proofs.endings.makes_no_victim.Goals as goal

pub returns-then-ends_none : goal.returns-then-ends_none
returns-then-ends_none c = λ yes.
    let before = c.args.before.now in
    none-doomed before.sessions before.history c.args.entry.now (state_of c.args.after.now.history) c.args.after.now.ended c.requires.served c.requires.ended
    (c.ends_none.ensures c.if-ends_none.true) (sym c.is_new_victim.ensures ∙ not-true c.is_new_victim.result yes)
