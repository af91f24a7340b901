use Rattle.std.proofs.Common.{◌≡◌, refl}
use Rattle.lock_rules.specs.Legal.{state_of}
use Rattle.lock_rules.specs.Step.{step}
use Rattle.history_commands.proofs.ExplainedParts.{of_none, of_some}
use Rattle.replay_commands.proofs.IsVerdict.{first_wrong, right}
use Rattle.history_commands.proofs.drawing.note_next.Goals as goal

pub returns-in_default-clause-wrong : goal.returns-in_default-clause-wrong
returns-in_default-clause-wrong c = λ _.
    let e = c.index-entries-place.result in
    let front = c.args.before.now.history in
    first_wrong c.args.entries.now c.args.place e (step (state_of front) e.session e.call).reply front c.requires.there c.index-entries-place.is c.requires.behind c.requires.legal refl
    (of_none c.in_ok-told.field-0 _ c.in_default.is c.in_ok-told.ensures.wrong)

pub returns-clause-legal : goal.returns-clause-legal
returns-clause-legal c = λ _.
    let e = c.index-entries-place.result in
    let front = c.args.before.now.history in
    right c.args.entries.now c.args.place e (step (state_of front) e.session e.call).reply front c.requires.there c.index-entries-place.is c.requires.behind c.requires.legal refl
    (of_some c.in_ok-told.field-0 c.in-Some.told (λ _. (step (state_of front) e.session e.call).reply ≡ e.reply) c.in-Some.is c.in_ok-told.ensures.reply)
