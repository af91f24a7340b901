use Rattle.std.proofs.Common.{◌∙◌, ◌+◌, ◌≤◌, ℕ, List, [], length, take, take_all, refl, sym, subst, arith}
use Rattle.std.specs.List.{All}
use Rattle.lock_rules.specs.Entries.{Entry}
use Rattle.lock_rules.specs.Legal.{IsLegal}
use Rattle.lock_trace.specs.Entries.{IsEntry}
use Rattle.history_commands.specs.Explaining.{AreAccounts}
use Rattle.history_commands.proofs.explaining.add_all_accounts.Goals as goal

pub loop-place-init : goal.loop-place-init
loop-place-init c = record { behind = c.requires.behind; ahead = c.requires.ahead; sessions = refl; others = c.requires.sessions; legal = tt; accounts = c.requires.empty }

pub add_next_account-requires : goal.add_next_account-requires
add_next_account-requires c =
    let so_far = c.loop-place.invariant in
    record {
      within = subst (λ (n : ℕ). All (IsEntry n) c.args.history.entries.now) (sym so_far.sessions) c.requires.within;
      there = omega arith;
      sessions = so_far.others ∙ sym so_far.sessions;
      behind = so_far.behind;
      ahead = so_far.ahead;
      legal = so_far.legal;
      accounts = subst (λ (n : ℕ). AreAccounts c.args.history.form n [] (take c.loop-place.place c.args.history.entries.now) c.loop-place.text.items) (sym so_far.sessions) so_far.accounts;
    }

pub returns-then-not-alike : goal.returns-then-not-alike
returns-then-not-alike c = record { wrong = c.in_ok-alike.ensures.wrong c.if-not-alike.true; legal = tt; accounts = tt }

pub loop-place-preserved : goal.loop-place-preserved
loop-place-preserved c =
    let so_far = c.loop-place.invariant in
    let next = c.in_ok-alike.ensures in
    let alike = c.if-not-alike.false in
    record {
      behind = next.behind alike;
      ahead = next.ahead alike;
      sessions = next.sessions alike ∙ so_far.sessions;
      others = next.others alike ∙ so_far.sessions;
      legal = next.legal alike;
      accounts = subst (λ (n : ℕ). AreAccounts c.args.history.form n [] (take (c.loop-place.place + 1) c.args.history.entries.now) c.add_next_account.new.text.items) so_far.sessions (next.accounts alike);
    }

pub returns : goal.returns
returns c =
    let ends : length c.args.history.entries.now ≤ c.loop-place.place = omega arith in
    let all = take_all c.loop-place.place c.args.history.entries.now ends in
    record {
      wrong = tt;
      legal = subst IsLegal all c.loop-place.invariant.legal;
      accounts = subst (λ (es : List Entry). AreAccounts c.args.history.form c.args.before.now.sessions [] es c.loop-place.text.items) all c.loop-place.invariant.accounts;
    }
