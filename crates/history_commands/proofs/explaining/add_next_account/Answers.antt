use Rattle.std.proofs.Common.{◌∙◌, length, length-take, refl, sym, ap, arith}
use Rattle.std.proofs.lemmas.Bool.{false≢true}
use Rattle.lock_desk.specs.BookView.{BookView}
use Rattle.lock_rules.specs.declared.calls.Reply.{Reply}
use Rattle.lock_rules.specs.Ended.{ended_waits}
use Rattle.lock_rules.specs.Legal.{state_of}
use Rattle.lock_rules.specs.Step.{step}
use Rattle.lock_explain.specs.Explanations.{is_eventful}
use Rattle.history_commands.proofs.ExplainedParts.{told_more}
use Rattle.replay_commands.proofs.IsVerdict.{first_wrong, one_more, right, within_at}
use Rattle.history_commands.proofs.WithinFront.{within_front}
use Rattle.history_commands.proofs.explaining.add_next_account.Goals as goal

pub serve_eventful-requires : goal.serve_eventful-requires
serve_eventful-requires c =
    let at = within_at c.args.before.now.sessions c.args.history.entries.now c.args.place c.index-entries-place.result c.requires.within c.requires.there c.index-entries-place.is in
    record { some = omega (arith, at.first); within = at.last; sessions = c.requires.sessions; same = c.requires.ahead ∙ sym c.requires.behind }

pub returns-then-not-is_same : goal.returns-then-not-is_same
returns-then-not-is_same c =
    let e = c.index-entries-place.result in
    record {
      wrong = λ _. first_wrong c.args.history.entries.now c.args.place e c.in_ok-told.told.reply c.args.before.now.history c.requires.there c.index-entries-place.is c.requires.behind c.requires.legal
          c.in_ok-told.ensures.reply (λ same. false≢true (sym c.if-not-is_same.true ∙ c.is_same.ensures.1 same));
      sessions = λ yes. absurd (false≢true yes);
      others = λ yes. absurd (false≢true yes);
      behind = λ yes. absurd (false≢true yes);
      ahead = λ yes. absurd (false≢true yes);
      legal = λ yes. absurd (false≢true yes);
      accounts = λ yes. absurd (false≢true yes);
    }

pub add_account_if_eventful-requires : goal.add_account_if_eventful-requires
add_account_if_eventful-requires c =
    let e = c.index-entries-place.result in
    let before = c.args.before.now in
    let st = state_of before.history in
    let told = c.in_ok-told.ensures in
    record {
      within = within_front before.sessions c.args.place c.args.history.entries.now c.requires.within;
      front = c.requires.behind;
      eventful = told.eventful
          ∙ ap (λ (r : Reply). is_eventful e.call r (ended_waits before.sessions e.session st (step st e.session e.call).state)) (c.is_same.ensures.0 c.if-not-is_same.false);
      explained = told.explained;
      place = omega (arith, ap length c.requires.behind, length-take c.args.place c.args.history.entries.now, c.requires.there);
    }

pub serve-requires : goal.serve-requires
serve-requires c =
    let at = within_at c.args.before.now.sessions c.args.history.entries.now c.args.place c.index-entries-place.result c.requires.within c.requires.there c.index-entries-place.is in
    record { some = omega (arith, at.first); within = at.last }

pub returns : goal.returns
returns c =
    let e = c.index-entries-place.result in
    let es = c.args.history.entries.now in
    let place = c.args.place in
    let is = c.index-entries-place.is in
    let there = c.requires.there in
    let behind = c.requires.behind in
    let before = c.args.before.now.history in
    let told = c.in_ok-told.ensures in
    let same = c.is_same.ensures.0 c.if-not-is_same.false in
    record {
      wrong = λ no. absurd (false≢true (sym no));
      sessions = λ _. ap (λ (b : BookView). b.sessions) c.in_ok-serve.ensures.entry;
      others = λ _. ap (λ (b : BookView). b.sessions) told.book ∙ c.requires.sessions;
      behind = λ _. one_more es place e c.in_ok-serve.field-0 before c.serve.new.self.history there is behind (ap (λ (b : BookView). b.history) c.in_ok-serve.ensures.entry)
          (c.in_ok-serve.ensures.reply ∙ (sym told.reply ∙ same));
      ahead = λ _. one_more es place e c.in_ok-told.told.reply before c.serve_eventful.new.after.history there is behind (ap (λ (b : BookView). b.history) told.book) same;
      legal = λ _. right es place e c.in_ok-told.told.reply before there is behind c.requires.legal told.reply same;
      accounts = λ _. told_more c.args.history.form c.args.before.now.sessions c.args.before.now.sessions es place e before c.args.text.now.items
          c.add_account_if_eventful.new.text.items there is refl behind c.requires.accounts c.in_ok-add_account_if_eventful.ensures;
    }
