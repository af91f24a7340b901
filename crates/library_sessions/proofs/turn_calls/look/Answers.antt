use Rattle.std.proofs.Common.{rules, ◌≡◌, ◌≢◌, ◌∙◌, true, false, None, inl, inr, ap, sym, refl}
use Rattle.lock_programs.specs.declared.program.Program.{Program}
use Rattle.lock_office.proofs.Sessions.{option-cases}
use Rattle.library_books.specs.declared.status.TheConstants.{PENDING, NOT_SERVED}
use Rattle.library_sessions.specs.Turns.{IsNotResumed, IsStillPending}
use Rattle.library_sessions.proofs.turn_calls.look.Goals as goal

pub returns-then-not-is_whole-clause-look : goal.returns-then-not-is_whole-clause-look
returns-then-not-is_whole-clause-look g c =
    let some : c.args.share.now.session.pending ≢ None = search rules in
    let few : c.is_whole.result ≡ false = search rules in
    option-cases c.args.share.now.session.pending (λ none. absurd (some none)) (λ program floor pending.
    let kept = c.pending_program-asked.ensures program floor pending in
    let refused : IsNotResumed g.A.Tells.whole c.args.share.now.session PENDING = record {
      nothing = λ e. absurd cc;
      several = λ _. (program, floor, pending, kept.1, ap (λ (p : Program). g.A.Tells.whole p) kept.0 ∙ (sym c.is_whole.ensures ∙ few));
      statuses = inr refl;
    } in
    inr (refused, (refl, refl, refl)))

pub returns-then-tries-eq-NEITHER-clause-look : goal.returns-then-tries-eq-NEITHER-clause-look
returns-then-tries-eq-NEITHER-clause-look g c =
    let some : c.args.share.now.session.pending ≢ None = search rules in
    let whole : c.is_whole.result ≡ true = search rules in
    let asked : IsStillPending c.args.share.now c.args.share.now c.args.tries c.args.answer.now c.args.answer.now c.args.told.now c.args.told.now NOT_SERVED = record {
      neither = c.if-tries-eq-NEITHER.true;
      pending = some;
      not_served = refl;
      untouched = (refl, refl, refl);
    } in
    inl ((λ program floor pending. ap (λ (p : Program). g.A.Tells.whole p) (c.pending_program-asked.ensures program floor pending).0 ∙ (sym c.is_whole.ensures ∙ whole)), inr asked)

pub returns-clause-look : goal.returns-clause-look
returns-clause-look g c =
    let whole : c.is_whole.result ≡ true = search rules in
    inl (
      (λ program floor pending. ap (λ (p : Program). g.A.Tells.whole p) (c.pending_program-asked.ensures program floor pending).0 ∙ (sym c.is_whole.ensures ∙ whole)),
      inl (c.if-tries-eq-NEITHER.false, c.resume.ensures.resumed),
    )
