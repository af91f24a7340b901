use Rattle.std.proofs.Common.{◌≡◌, drop}
use Rattle.lock_rules.proofs.RefusalNames.{refusal_named}
use Rattle.lock_rules.proofs.calls.Why.parse.Given as goal

-- no refusal so far has the name
abbrev pub invariant-loop-why : goal.invariant-loop-why
invariant-loop-why l = refusal_named l.why-items l.text ≡ refusal_named (drop l.why-index l.why-items) l.text
