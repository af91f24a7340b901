use Rattle.std.proofs.Common.{rules, ◌≡◌, List, [], ◌∷◌, ◌++◌, sym, subst}
use Rattle.std.specs.Prelude.{All}
use Rattle.std.proofs.lemmas.List.Elements.{All-push}
use Rattle.sequential.specs.declared.entry.Entry.{Entry}
use Rattle.sequential.specs.Histories.{IsEntryWithin}
use Rattle.sequential.specs.Replies.{AreRepliesOf}
use Rattle.sequential.specs.ReplyLaws.{push_of}
use Rattle.sequential.proofs.recording.RecordingServing.serve.Goals as goal

pub invariant_of-self-2 : goal.invariant_of-self-2
invariant_of-self-2 g c =
    let i = c.self.invariant in
    let n = c.self.inside.sessions in
    let h : List (Entry _ _) = c.self.inside.history.items in
    let e : Entry _ _ = record { session = c.args.session; call = c.args.call; reply = c.in_ok-reply.reply } in
    let whole : c.push_reserved.new.self.items ≡ h ++ e ∷ [] = search rules in
    record {
      some = i.some;
      few = i.few;
      behind = subst (λ (l : List (Entry _ _)). g.S.Stepping.is_behind c.step.new.self l) (sym whole) (c.in_ok-reply.ensures.behind h i.behind);
      legal = subst (λ (l : List (Entry _ _)). AreRepliesOf g.S.Stepping.reply_to l) (sym whole) (push_of g.S.Stepping.reply_to h e i.legal (c.in_ok-reply.ensures.reply h i.behind));
      within = subst (λ (l : List (Entry _ _)). All (IsEntryWithin n) l) (sym whole) (All-push (IsEntryWithin n) h e i.within (record { some = c.requires.some; within = search rules }));
    }
