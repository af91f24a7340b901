use Rattle.std.proofs.Common.{◌≡◌, ◌∙◌, None, ap, subst}
use Rattle.combining.specs.Turns.{HasAttempted}
use Rattle.combining.specs.Calls.{IsCalling}
use Rattle.combining.proofs.Turns.{by-next}
use Rattle.lock_office.specs.ProgramBoards.{TicketView}
use Rattle.lock_office.specs.ProgramTurns.{IsCalled, HasStarvedCalling}
use Rattle.lock_office.proofs.Seen.{counted-behind}
use Rattle.lock_office.proofs.Sessions.{readable-idle, readable-running, asks-same}
use Rattle.lock_office.proofs.session.Session.run_attempt.Goals as goal

pub invariant_of-self : goal.invariant_of-self
invariant_of-self g c =
    let s = c.self.inside.session in
    let t = c.attempt-next.new.session in
    let p = c.args.program.now in
    let n = c.seen_next-self-inside.result in
    let e = c.attempt-next.ensures in
    let seen = c.seen_next-self-inside.ensures in
    let none : s.pending ≡ None = ap (λ (x : TicketView). x.pending) c.self.view_is ∙ c.requires.idle.0 in
    let k = e.attempted in
    by-next c.attempt-next.result
    (λ found is.
    let d = k.called found is in record {
      readable = readable-idle n p t (k.idle found is).0;
      counted = counted-behind t.front found.place s.number p found.reply _ _ d.legal d.stands (e.noted found is c.self.invariant.counted) (seen.answered found is);
    })
    (λ is.
    let d = k.starved is in record {
      readable = readable-running n p t c.requires.some (λ q floor has. asks-same p q d.floor floor t.pending (ap (λ (x : TicketView). x.pending) d.session) has);
      counted = seen.starved is ∙ e.notes_starved is c.self.invariant.counted;
    })
    (λ is. record {
      readable = readable-idle n p t (ap (λ (x : TicketView). x.pending) (k.waits is).0 ∙ none);
      counted = seen.waits is ∙ e.notes_waits is c.self.invariant.counted;
    })

pub returns-clause-attempted : goal.returns-clause-attempted
returns-clause-attempted g c =
    let p = c.args.program.now in
    let t = c.attempt-next.new.session in
    subst (λ (s : TicketView). HasAttempted s t c.args.office.now.sessions (IsCalled s t p) (IsCalling s t p) (HasStarvedCalling s t p) c.attempt-next.result) c.self.view_is c.attempt-next.ensures.attempted
