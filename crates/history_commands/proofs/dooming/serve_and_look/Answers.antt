use Rattle.std.proofs.Common.{◌≡◌, ◌∙◌, not, ◌&&◌, List, length, length-append, ap}
use Rattle.lock_desk.specs.BookView.{BookView}
use Rattle.lock_rules.specs.Entries.{Entry}
use Rattle.lock_rules.specs.State.{State, is_doomed}
use Rattle.lock_rules.specs.Legal.{state_of}
use Rattle.lock_rules.specs.Step.{step}
use Rattle.lock_rules.proofs.Histories.{state_of-push}
use Rattle.history_commands.proofs.dooming.serve_and_look.Goals as goal

pub returns : goal.returns
returns c =
    let st = state_of c.args.book.now.history in
    let e = c.args.entry.now in
    let s = c.args.session in
    let more = ap (λ (b : BookView). b.history) c.in_ok-serve.ensures.entry in
    let served : state_of c.serve.new.self.history ≡ (step st e.session e.call).state = ap state_of more ∙ state_of-push c.args.book.now.history _ in
    let before = c.is_doomed-before.ensures in
    let after = c.is_doomed-after.ensures ∙ ap (λ (x : State). is_doomed x s) served in
    record {
      sessions = ap (λ (b : BookView). b.sessions) c.in_ok-serve.ensures.entry;
      state = served;
      count = ap (λ (es : List Entry). length es) more ∙ length-append c.args.book.now.history _;
      dooms = c.has_turned.ensures ∙ (λ i. not (before i) && after i);
    }
