use Rattle.std.proofs.Common.{◌∙◌, sym, arith}
use Rattle.lock_shell.proofs.Told.{last_here, last_none, none_more, none_of_none}
use Rattle.lock_shell.proofs.why.last_call.Goals as goal

pub loop-back-init : goal.loop-back-init
loop-back-init c = none_of_none c.args.session c.args.entries.now

pub returns-then-is_call_of : goal.returns-then-is_call_of
returns-then-is_call_of c =
    last_here c.args.session c.args.entries.now c.loop-back.back _ c.index-entries-place.result (omega (arith, c.loop-back-test.true)) c.index-entries-place.is
    (sym c.is_call_of.ensures ∙ c.if-is_call_of.true) c.loop-back.invariant

pub loop-back-preserved : goal.loop-back-preserved
loop-back-preserved c =
    none_more c.args.session c.args.entries.now c.loop-back.back _ c.index-entries-place.result (omega (arith, c.loop-back-test.true)) c.index-entries-place.is
    (sym c.is_call_of.ensures ∙ c.if-is_call_of.false) c.loop-back.invariant

pub returns : goal.returns
returns c = last_none c.args.session c.args.entries.now c.loop-back.back (omega (arith, c.loop-back-test.false)) c.loop-back.invariant
