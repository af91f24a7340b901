use Rattle.std.proofs.Common.{sym, ◌∙◌}
use Rattle.lock_explain.proofs.EndedNone.{eventful-alike}
use Rattle.lock_explain.proofs.explaining.explain_if_eventful.Goals as goal

pub returns-then-not-is_eventful-clause-eventful : goal.returns-then-not-is_eventful-clause-eventful
returns-then-not-is_eventful-clause-eventful c =
    let e = c.args.entry.now in
    sym c.if-not-is_eventful.true ∙ (c.is_eventful.ensures ∙ eventful-alike e.call e.reply c.ended.result.now c.args.after.now.ended c.ended.ensures.ended)

pub returns-in-Ok-clause-eventful : goal.returns-in-Ok-clause-eventful
returns-in-Ok-clause-eventful c =
    let e = c.args.entry.now in
    sym c.if-not-is_eventful.false ∙ (c.is_eventful.ensures ∙ eventful-alike e.call e.reply c.ended.result.now c.args.after.now.ended c.ended.ensures.ended)
