use Rattle.std.proofs.Common.{◌∙◌}
use Rattle.lock_trace.proofs.HintTexts.{hint_line, after_append}
use Rattle.lock_trace.proofs.hints.lines.Lines.put.Goals as goal

pub invariant_of-self : goal.invariant_of-self
invariant_of-self c =
    after_append c.append.result _ _ _ _ c.self.invariant (hint_line _ _ c.requires) (c.deref.ensures.value ∙ c.in_ok-line.ensures) c.append.ensures.more
    c.append.ensures.same
