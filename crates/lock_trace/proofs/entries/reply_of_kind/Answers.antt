use Rattle.std.proofs.Common.{◌≡◌, ℕ, List, Result, Ok, Err, refl, ◌∙◌, rules}
use Rattle.lock_rules.specs.declared.calls.Reply.TheVariants as reply
use Rattle.lock_trace.specs.declared.faults.TraceKind.{TraceKind}
use Rattle.lock_rules.specs.declared.kinds.ReplyKind.{ReplyKind}
use Rattle.lock_rules.specs.declared.kinds.ReplyKind.TheVariants as reply_kind
use Rattle.lock_trace.specs.Fields.{number_in, max_u64}
use Rattle.lock_trace.specs.Entries.{value_in}
use Rattle.lock_trace.proofs.entries.reply_of_kind.Goals as goal

-- A transaction number that is read makes the reply Began.
began : (w : ReplyKind) (v : List ℕ) (r : Result ℕ TraceKind) (n : ℕ) → w ≡ reply_kind.Began → r ≡ number_in max_u64 v → r ≡ Ok n → Ok (reply.Began n) ≡ value_in w v
began w v r n is e was = rw (is, ← e, was) refl

-- A transaction number that is not read makes its fault the fault of the reply.
not_began : (w : ReplyKind) (v : List ℕ) (r : Result ℕ TraceKind) (k : TraceKind) → w ≡ reply_kind.Began → r ≡ number_in max_u64 v → r ≡ Err k → Err k ≡ value_in w v
not_began w v r k is e was = rw (is, ← e, was) refl

pub returns-in_ok-number-in-Began : goal.returns-in_ok-number-in-Began
returns-in_ok-number-in-Began c = began c.args.kind c.args.value.now c.number_of.result c.in_ok-number-in-Began.number c.in-Began.is c.number_of.ensures c.in_ok-number-in-Began.was

pub returns-in_err-number-in-Began : goal.returns-in_err-number-in-Began
returns-in_err-number-in-Began c =
    let passed_on : c.from_residual.result ≡ Err c.in_err-number-in-Began.field-0.0 = search rules in
    passed_on ∙ not_began c.args.kind c.args.value.now c.number_of.result c.in_err-number-in-Began.field-0.0 c.in-Began.is c.number_of.ensures c.in_err-number-in-Began.was
