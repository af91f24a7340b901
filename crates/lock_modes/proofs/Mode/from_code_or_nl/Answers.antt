use Rattle.std.proofs.Common.{sym, ◌∙◌, ap}
use Rattle.lock_modes.specs.Codes.{mode_of_code}
use Rattle.lock_modes.proofs.Codes.{mode_of_code-code, mode_of_code-none}
use Rattle.lock_modes.proofs.Mode.from_code_or_nl.Goals as goal

pub returns-in-Some : goal.returns-in-Some
returns-in-Some c = sym (ap mode_of_code ((c.from_code.ensures c.in-Some.mode).0 c.in-Some.is) ∙ mode_of_code-code c.in-Some.mode)

pub returns-in-None : goal.returns-in-None
returns-in-None c = sym (mode_of_code-none c.args.code (λ m e. let some = (c.from_code.ensures m).1 e in let none = c.in-None.is in absurd (cc (some, none))))
