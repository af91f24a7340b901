use Rattle.std.proofs.Common.{◌≡◌, ◌∙◌, ◌<◌, ◌+◌, ◌++◌, ◌∷◌, [], List, None, length, take, drop, take-append-drop, rules, arith, ap, sym, subst}
use Rattle.lock_rules.specs.Entries.{Entry}
use Rattle.lock_rules.specs.Legal.{IsLegal}
use Rattle.replay_commands.specs.Verdicts.{IsWrongReply}
use Rattle.replay_commands.proofs.IsVerdict.{grown, within_at}
use Rattle.replay_commands.proofs.WrongReplies.{wrong_before}
use Rattle.replay_commands.proofs.checking.first_wrong_reply.Goals as goal

pub judge_entry-requires : goal.judge_entry-requires
judge_entry-requires c =
    let below : c.loop-place.place < length c.args.entries.now = omega (arith, c.loop-place-test.true, c.requires.few) in
    let at = within_at c.args.book.now.sessions c.args.entries.now c.loop-place.place c.index-entries-place.result c.requires.within below c.index-entries-place.is in
    record { some = at.first; within = omega (arith, at.last, c.loop-place.invariant.sessions); legal = subst IsLegal (sym c.loop-place.invariant.served) c.loop-place.invariant.legal }

pub returns-in-Some-clause-wrong : goal.returns-in-Some-clause-wrong
returns-in-Some-clause-wrong c =
    let below : c.loop-place.place < length c.args.entries.now = omega (arith, c.loop-place-test.true, c.requires.few) in
    let e = c.index-entries-place.result in
    let front : c.loop-place.book.history ++ e ∷ [] ≡ take (c.loop-place.place + 1) c.args.entries.now =
    ap (λ (es : List Entry). es ++ e ∷ []) c.loop-place.invariant.served ∙ sym (grown c.args.entries.now c.loop-place.place e below c.index-entries-place.is) in
    let wrong = rw c.in-Some.is at c.in_ok-wrong.ensures.wrong in
    subst (λ (es : List Entry). IsWrongReply es c.in-Some.wrong) (take-append-drop (c.loop-place.place + 1) c.args.entries.now)
    (wrong_before (take (c.loop-place.place + 1) c.args.entries.now) (drop (c.loop-place.place + 1) c.args.entries.now) c.in-Some.wrong
    (subst (λ (es : List Entry). IsWrongReply es c.in-Some.wrong) front wrong))

pub loop-place-preserved : goal.loop-place-preserved
loop-place-preserved c =
    let below : c.loop-place.place < length c.args.entries.now = omega (arith, c.loop-place-test.true, c.requires.few) in
    let e = c.index-entries-place.result in
    let front : c.loop-place.book.history ++ e ∷ [] ≡ take (c.loop-place.place + 1) c.args.entries.now =
    ap (λ (es : List Entry). es ++ e ∷ []) c.loop-place.invariant.served ∙ sym (grown c.args.entries.now c.loop-place.place e below c.index-entries-place.is) in
    let none : c.in_ok-wrong.field-0 ≡ None = search rules in
    record { served = (rw none at c.in_ok-wrong.ensures.served) ∙ front; legal = subst IsLegal front (rw none at c.in_ok-wrong.ensures.legal); sessions = c.in_ok-wrong.ensures.sessions ∙ c.loop-place.invariant.sessions }
