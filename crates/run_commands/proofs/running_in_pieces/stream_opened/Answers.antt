use Rattle.std.proofs.Common.{rules, ◌≡◌, IfErr}
use Rattle.std.specs.Prelude.{OnOk}
use Rattle.std.specs.List.{All}
use Rattle.std.proofs.lemmas.Result.{IfErr-weaker, IfOk-at_ok, on_ok_weaker}
use Rattle.lock_office.specs.ProgramBoards.{flat_history}
use Rattle.run_commands.specs.Runs.{HasRun}
use Rattle.run_commands.specs.Streams.{IsFaultOfStream, IsWrittenUpTo}
use Rattle.run_commands.specs.Workers.{IsPerformed, numbers_of}
use Rattle.run_commands.proofs.IsRunOf.{all_ours}
use Rattle.run_commands.proofs.StreamedRun.{all_ready, never_refused, rest_fault, run_written}
use Rattle.run_commands.proofs.running_in_pieces.stream_opened.Goals as goal

pub close_and_write-requires-clause-ours : goal.close_and_write-requires-clause-ours
close_and_write-requires-clause-ours g c =
    let opened = c.args.opened in
    let made = c.stream_in_threads-output in
    let performed = IfOk-at_ok (λ d. All (IsPerformed opened.office c.args.rows.now) d.0.items) c.in-Ok.is made.ensures.performed in
    all_ours opened.office c.args.rows.now _
    (all_ready c.requires.0 opened.office opened.workers.items opened.taker c.args.rows.now c.in-Ok.done.items made.result.taker
    c.requires.1 c.requires.2 made.ensures.ours made.ensures.same performed)

pub close_and_write-requires-clause-closes : goal.close_and_write-requires-clause-closes
close_and_write-requires-clause-closes g c =
    let opened = c.args.opened in
    let made = c.stream_in_threads-output in
    let performed = IfOk-at_ok (λ d. All (IsPerformed opened.office c.args.rows.now) d.0.items) c.in-Ok.is made.ensures.performed in
    let numbers = IfOk-at_ok (λ d. numbers_of d.0.items ≡ numbers_of opened.workers.items) c.in-Ok.is made.ensures.numbers in
    never_refused c.requires.0 opened.office opened.workers.items opened.taker c.args.rows.now c.in-Ok.done.items made.result.taker
    c.requires.1 numbers made.ensures.same
    (all_ready c.requires.0 opened.office opened.workers.items opened.taker c.args.rows.now c.in-Ok.done.items made.result.taker
    c.requires.1 c.requires.2 made.ensures.ours made.ensures.same performed)

pub returns-in-Ok-clause-run : goal.returns-in-Ok-clause-run
returns-in-Ok-clause-run g c =
    let opened = c.args.opened in
    let made = c.stream_in_threads-output in
    let performed = IfOk-at_ok (λ d. All (IsPerformed opened.office c.args.rows.now) d.0.items) c.in-Ok.is made.ensures.performed in
    let numbers = IfOk-at_ok (λ d. numbers_of d.0.items ≡ numbers_of opened.workers.items) c.in-Ok.is made.ensures.numbers in
    let way = IfOk-at_ok (λ d. IsWrittenUpTo d.1 (flat_history made.result.taker.front) (g.W.Write.contents c.args.output.now) (g.W.Write.contents made.result.output.now)) c.in-Ok.is made.ensures.written in
    let run : OnOk c.close_and_write.result (HasRun c.args.rows.now (g.W.Write.contents c.args.output.now) (g.W.Write.contents c.close_and_write.new.output)) =
    on_ok_weaker c.close_and_write.result
    (λ rest. run_written c.requires.0 opened.office opened.workers.items opened.taker c.args.rows.now c.in-Ok.done.items made.result.taker c.in-Ok.next _ _ _
    c.requires.1 c.requires.2 numbers made.ensures.same
    (all_ready c.requires.0 opened.office opened.workers.items opened.taker c.args.rows.now c.in-Ok.done.items made.result.taker
    c.requires.1 c.requires.2 made.ensures.ours made.ensures.same performed) way rest)
    c.close_and_write.ensures.written in
    search rules

pub returns-in-Ok-clause-fault : goal.returns-in-Ok-clause-fault
returns-in-Ok-clause-fault g c =
    let made = c.stream_in_threads-output in
    let way = IfOk-at_ok (λ d. IsWrittenUpTo d.1 (flat_history made.result.taker.front) (g.W.Write.contents c.args.output.now) (g.W.Write.contents made.result.output.now)) c.in-Ok.is made.ensures.written in
    let old = g.W.Write.contents c.args.output.now in
    let new = g.W.Write.contents c.close_and_write.new.output in
    let fault : IfErr c.close_and_write.result (λ fault. IsFaultOfStream old new fault) =
    IfErr-weaker c.close_and_write.result _ _
    (λ fault is. rest_fault c.args.opened.office c.in-Ok.done.items made.result.taker c.in-Ok.next old (g.W.Write.contents made.result.output.now) new fault way is)
    c.close_and_write.ensures.fault in
    search rules
