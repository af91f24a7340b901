use Rattle.std.proofs.Common.{rules, ◌≡◌, ◌∙◌, None, ap, sym}
use Rattle.lock_office.specs.ProgramBoards.{TicketView}
use Rattle.lock_office.specs.Seen.{number_of_calls}
use Rattle.lock_office.proofs.Sessions.{readable-running, asks-same}
use Rattle.lock_office.proofs.session.Session.publish_program_if_idle.Goals as goal

pub invariant_of-self : goal.invariant_of-self
invariant_of-self c =
    let s = c.self.inside.session in
    let t = c.publish_if_idle.new.session in
    let p = c.args.program in
    let none : s.pending ≡ None = search rules in
    let called = c.publish_if_idle.ensures.published none in
    record {
      readable = readable-running c.self.inside.seen p t c.requires.some (λ q floor is. asks-same p q called.floor floor t.pending (ap (λ (x : TicketView). x.pending) called.session) is);
      counted = c.self.invariant.counted ∙ ap number_of_calls (sym c.publish_if_idle.ensures.known.0);
    }
