use Rattle.std.proofs.Common.{◌≡◌, ◌∙◌, ◌≤◌, ℕ, List, length, length-take, take, take_all, refl, sym, ap, subst, arith}
use Rattle.std.proofs.lemmas.Option.{slice_get_read}
use Rattle.std.proofs.lemmas.Result.{IfOk-weaker}
use Rattle.std.specs.List.{All}
use Rattle.lock_rules.specs.Entries.{Entry}
use Rattle.lock_rules.specs.Legal.{IsLegal, state_of}
use Rattle.lock_rules.specs.Step.{step}
use Rattle.sequential.specs.Histories.{IsEntryWithin}
use Rattle.lock_trace.specs.Entries.{IsEntry}
use Rattle.lock_explain.specs.Explanations.{IsExplanation}
use Rattle.replay_commands.specs.declared.checking.Verdict.{Verdict}
use Rattle.history_commands.specs.Explaining.{IsAccount}
use Rattle.replay_commands.specs.Verdicts.{IsVerdict}
use Rattle.history_commands.proofs.ExplainedParts.{of_none, of_some}
use Rattle.replay_commands.proofs.IsVerdict.{first_wrong, right}
use Rattle.history_commands.proofs.WithinFront.{within_front}
use Rattle.history_commands.proofs.explaining.report_on_call.Goals as goal

pub first_wrong-requires-2-clause-within : goal.first_wrong-requires-2-clause-within
first_wrong-requires-2-clause-within c = subst (λ (n : ℕ). All (IsEntry n) c.args.entries.now) (sym c.requires.sessions) c.requires.within

pub returns-in_default-3-clause-verdict : goal.returns-in_default-3-clause-verdict
returns-in_default-3-clause-verdict c =
    let es = c.args.entries.now in
    let e = c.index-entries-place.result in
    let front = c.first_wrong.new.book.history in
    let behind : front ≡ take c.args.place es = of_none c.in_ok-first.field-0 _ c.in_default.is c.in_ok-first.ensures.served in
    let legal : IsLegal (take c.args.place es) = of_none c.in_ok-first.field-0 _ c.in_default.is c.in_ok-first.ensures.legal in
    let wrong = first_wrong es c.args.place e (step (state_of front) e.session e.call).reply front c.requires.place c.index-entries-place.is behind legal refl
    (of_none c.in_ok-told.field-0 _ c.in_default-3.is c.in_ok-told.ensures.wrong) in
    IfOk-weaker c.illegal_report-in_default-3.result _ _ (λ report is. subst (λ (v : Verdict). IsVerdict es v) (sym is) wrong) c.illegal_report-in_default-3.ensures.verdict

pub account-requires : goal.account-requires
account-requires c =
    let es = c.args.entries.now in
    let place = c.args.place in
    let e = c.index-entries-place.result in
    let behind : c.first_wrong.new.book.history ≡ take place es = of_none c.in_ok-first.field-0 _ c.in_default.is c.in_ok-first.ensures.served in
    record {
      within = subst (λ (n : ℕ). All (IsEntryWithin n) (take place es)) (sym c.in_ok-first.ensures.sessions) (within_front c.args.before.now.sessions place es c.requires.within);
      front = behind;
      explained = of_some c.in_ok-told.field-0 c.in-Some-3.told (IsExplanation c.first_wrong.new.book.sessions (state_of c.first_wrong.new.book.history) e.session e.call) c.in-Some-3.is c.in_ok-told.ensures.explained;
      place = omega (arith, ap length behind, length-take place es, c.requires.place);
    }

pub first_wrong-requires-3-clause-within : goal.first_wrong-requires-3-clause-within
first_wrong-requires-3-clause-within c = subst (λ (n : ℕ). All (IsEntry n) c.args.entries.now) (sym (c.in_ok-told.ensures.sessions ∙ c.in_ok-first.ensures.sessions)) c.requires.within

pub first_wrong-requires-3-clause-legal : goal.first_wrong-requires-3-clause-legal
first_wrong-requires-3-clause-legal c =
    let es = c.args.entries.now in
    let e = c.index-entries-place.result in
    let front = c.first_wrong.new.book.history in
    let behind : front ≡ take c.args.place es = of_none c.in_ok-first.field-0 _ c.in_default.is c.in_ok-first.ensures.served in
    let legal : IsLegal (take c.args.place es) = of_none c.in_ok-first.field-0 _ c.in_default.is c.in_ok-first.ensures.legal in
    right es c.args.place e (step (state_of front) e.session e.call).reply front c.requires.place c.index-entries-place.is behind legal refl
    (of_some c.in_ok-told.field-0 c.in-Some-3.told (λ _. (step (state_of front) e.session e.call).reply ≡ e.reply) c.in-Some-3.is c.in_ok-told.ensures.reply)

pub returns : goal.returns
returns c =
    let es = c.args.entries.now in
    let place = c.args.place in
    let e = c.index-entries-place.result in
    let text = c.in_ok-text.text.items in
    let form = c.args.form in
    let behind : c.first_wrong.new.book.history ≡ take place es = of_none c.in_ok-first.field-0 _ c.in_default.is c.in_ok-first.ensures.served in
    let legal : IsLegal (take (length es) es) = of_none c.in_ok-first-3.field-0 _ c.in_default-4.is c.in_ok-first-3.ensures.legal in
    let ends : length es ≤ length es = omega arith in
    record {
      verdict = (refl, subst IsLegal (take_all (length es) es ends) legal);
      text = (
        e,
        slice_get_read es (length es) place e refl c.requires.place c.index-entries-place.is,
        subst (λ (n : ℕ). IsAccount form n (take place es) e text) c.in_ok-first.ensures.sessions
            (subst (λ (front : List Entry). IsAccount form c.first_wrong.new.book.sessions front e text) behind c.in_ok-text.ensures),
      );
    }
