use Rattle.std.proofs.Common.{◌∙◌, sym, refl}
use Rattle.lock_trace.proofs.Names.{why_by_name, no_why, no_text_no_why}
use Rattle.lock_trace.proofs.fields.why_of.Goals as goal

pub returns-in_default : goal.returns-in_default
returns-in_default c = sym (no_text_no_why c.args.field.now c.in_default.ensures.none)

pub returns-in-Some-parse : goal.returns-in-Some-parse
returns-in-Some-parse c = sym (why_by_name c.in-Some-parse.why c.args.field.now (sym c.in-Some.ensures.some.0 ∙ (c.in-Some-parse.ensures c.in-Some-parse.why).0 refl))

pub returns-in-None : goal.returns-in-None
returns-in-None c = sym (no_why c.args.field.now (λ w e. let bad = (c.in-None.ensures w).1 (c.in-Some.ensures.some.0 ∙ e) in cc))
