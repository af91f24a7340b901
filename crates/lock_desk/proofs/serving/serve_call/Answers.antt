use Rattle.std.proofs.Common.{◌∙◌, [], Bool, ap, sym, subst}
use Rattle.lock_rules.specs.State.{is_waiting}
use Rattle.lock_rules.specs.declared.calls.Call.{Call}
use Rattle.lock_rules.specs.Kinds.{op_of_call}
use Rattle.lock_table.specs.Deadlocks.{moments_at, deadlocks_of}
use Rattle.lock_desk.specs.inner.WaitCounts.{with_abort, with_restart}
use Rattle.lock_desk.specs.inner.Counting.{with_own_wait}
use Rattle.lock_desk.specs.inner.Noting.{LogView, HasNoted}
use Rattle.lock_desk.specs.inner.NotedNothing.{noted-none}
use Rattle.lock_desk.proofs.Results.{on-err-from}
use Rattle.lock_table.proofs.Simulation.{same-shown, waits-shown}
use Rattle.lock_desk.proofs.serving.serve_call.Goals as goal

pub returns-in_err-reply-in-Lock-clause-err : goal.returns-in_err-reply-in-Lock-clause-err
returns-in_err-reply-in-Lock-clause-err c = λ st h. on-err-from c.from_residual.result (same-shown c.args.table.now c.serve_lock.new.self st c.in_err-reply-in-Lock.ensures.err h)

pub returns-in_err-reply-in-Convert-clause-err : goal.returns-in_err-reply-in-Convert-clause-err
returns-in_err-reply-in-Convert-clause-err c = λ st h. on-err-from c.from_residual-in_err-reply-in-Convert.result (same-shown c.args.table.now c.serve_convert.new.self st c.in_err-reply-in-Convert.ensures.err h)

pub returns-in_err-reply-in-Try-clause-err : goal.returns-in_err-reply-in-Try-clause-err
returns-in_err-reply-in-Try-clause-err c = λ st h. on-err-from c.from_residual-in_err-reply-in-Try.result (same-shown c.args.table.now c.serve_try.new.self st c.in_err-reply-in-Try.ensures.err h)

pub returns-in-Abort-clause-noted : goal.returns-in-Abort-clause-noted
returns-in-Abort-clause-noted c = λ st i n h.
    let log = c.args.notes.now.log in
    let same = c.count_abort.ensures in
    let waits = c.is_waiting.ensures ∙ waits-shown c.args.table.now st c.args.session c.requires.may_serve.whole h in
    let is = same ∙ ap (λ (b : Bool). record log { counts = with_abort b log.counts }) waits in
    let told = subst (λ (l : LogView). HasNoted [] (record log { counts = with_abort (is_waiting st c.args.session) log.counts }) l) (sym is) (noted-none (record log { counts = with_abort (is_waiting st c.args.session) log.counts })) in
    subst (λ (k : Call). HasNoted (moments_at c.args.served c.args.session (deadlocks_of st c.args.session k)) (record log { counts = with_own_wait (is_waiting st c.args.session) k log.counts }) c.count_abort.new.self)
    (sym c.in-Abort.is) told

pub returns-in-Restart-clause-noted : goal.returns-in-Restart-clause-noted
returns-in-Restart-clause-noted c = λ st i n h.
    let log = c.args.notes.now.log in
    let same = c.count_restart.ensures in
    let waits = c.is_waiting-in-Restart.ensures ∙ waits-shown c.args.table.now st c.args.session c.requires.may_serve.whole h in
    let is = same ∙ ap (λ (b : Bool). record log { counts = with_restart b log.counts }) waits in
    let told = subst (λ (l : LogView). HasNoted [] (record log { counts = with_restart (is_waiting st c.args.session) log.counts }) l) (sym is) (noted-none (record log { counts = with_restart (is_waiting st c.args.session) log.counts })) in
    subst (λ (k : Call). HasNoted (moments_at c.args.served c.args.session (deadlocks_of st c.args.session k)) (record log { counts = with_own_wait (is_waiting st c.args.session) k log.counts }) c.count_restart.new.self)
    (sym c.in-Restart.is) told

pub returns-in-Begin-clause-counted : goal.returns-in-Begin-clause-counted
returns-in-Begin-clause-counted c = λ history counted few. c.note.ensures history c.args.session c.args.call (sym (ap op_of_call c.in-Begin.is)) counted few

pub returns-in-Poll-clause-counted : goal.returns-in-Poll-clause-counted
returns-in-Poll-clause-counted c = λ history counted few. c.note-in-Poll.ensures history c.args.session c.args.call (sym (ap op_of_call c.in-Poll.is)) counted few

pub returns-in-Release-clause-counted : goal.returns-in-Release-clause-counted
returns-in-Release-clause-counted c = λ history counted few. c.note-in-Release.ensures history c.args.session c.args.call (sym (ap op_of_call c.in-Release.is)) counted few

pub returns-in-Commit-clause-counted : goal.returns-in-Commit-clause-counted
returns-in-Commit-clause-counted c = λ history counted few. c.note-in-Commit.ensures history c.args.session c.args.call (sym (ap op_of_call c.in-Commit.is)) counted few

pub returns-in-Abort-clause-counted : goal.returns-in-Abort-clause-counted
returns-in-Abort-clause-counted c = λ history counted few. c.note-in-Abort.ensures history c.args.session c.args.call (sym (ap op_of_call c.in-Abort.is)) counted few

pub returns-in-Withdraw-clause-counted : goal.returns-in-Withdraw-clause-counted
returns-in-Withdraw-clause-counted c = λ history counted few. c.note-in-Withdraw.ensures history c.args.session c.args.call (sym (ap op_of_call c.in-Withdraw.is)) counted few

pub returns-in-Restart-clause-counted : goal.returns-in-Restart-clause-counted
returns-in-Restart-clause-counted c = λ history counted few. c.note-in-Restart.ensures history c.args.session c.args.call (sym (ap op_of_call c.in-Restart.is)) counted few
