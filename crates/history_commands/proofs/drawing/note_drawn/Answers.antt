use Rattle.std.proofs.Common.{◌∙◌, ℕ, sym, subst}
use Rattle.std.specs.List.{All}
use Rattle.lock_trace.specs.Entries.{IsEntry}
use Rattle.history_commands.proofs.drawing.note_drawn.Goals as goal

pub note_next-requires-clause-within : goal.note_next-requires-clause-within
note_next-requires-clause-within c = subst (λ (n : ℕ). All (IsEntry n) c.args.entries.now) (sym c.loop-place.invariant.sessions) c.requires.within

pub loop-place-preserved : goal.loop-place-preserved
loop-place-preserved c =
    let so_far = c.loop-place.invariant in
    let next = c.in_ok-alike.ensures in
    let alike = c.if-not-alike.false in
    record { behind = next.behind alike; ahead = next.ahead alike; sessions = next.sessions alike ∙ so_far.sessions; others = next.others alike ∙ so_far.sessions; legal = next.legal alike }
