use Rattle.std.proofs.Common.{◌∙◌, ap, subst}
use Rattle.combining.specs.Turns.{HasAwaited}
use Rattle.combining.proofs.Turns.{by-next}
use Rattle.lock_office.specs.ProgramBoards.{TicketView}
use Rattle.lock_office.specs.ProgramTurns.{IsAnswered}
use Rattle.lock_office.proofs.Seen.{counted-behind}
use Rattle.lock_office.proofs.Sessions.{kept-some, pending-stands, readable-on, readable-idle}
use Rattle.lock_office.proofs.session.Session.run_look.Goals as goal

pub invariant_of-self : goal.invariant_of-self
invariant_of-self g c =
    let s = c.self.inside.session in
    let t = c.look-next.new.session in
    let asked = c.self.inside.asked in
    let n = c.seen_next-self-inside.result in
    let e = c.look-next.ensures in
    let seen = c.seen_next-self-inside.ensures in
    by-next c.look-next.result
    (λ found is.
    let d = e.awaited.answered found is in
    let k = kept-some d.0 asked (c.self.invariant.readable d.0 d.1 d.2) in record {
      readable = readable-idle n asked t (e.awaited.idle found is).0;
      counted = counted-behind t.front found.place s.number asked found.reply _ _ d.3.legal (pending-stands s t found.place found.reply asked d k) (e.noted found is c.self.invariant.counted) (seen.answered found is);
    })
    (λ is. record {
      readable = readable-on n c.self.inside t c.self.invariant.readable (ap (λ (x : TicketView). x.pending) (e.awaited.starved is).0.session);
      counted = seen.starved is ∙ e.notes_starved is c.self.invariant.counted;
    })
    (λ is. record {
      readable = readable-on n c.self.inside t c.self.invariant.readable (ap (λ (x : TicketView). x.pending) (e.awaited.waits is).session);
      counted = seen.waits is ∙ e.notes_waits is c.self.invariant.counted;
    })

pub returns-clause-awaited : goal.returns-clause-awaited
returns-clause-awaited g c =
    let t = c.look-next.new.session in
    subst (λ (s : TicketView). HasAwaited s t (IsAnswered s t) c.look-next.result) c.self.view_is c.look-next.ensures.awaited
