use Rattle.std.proofs.Common.{◌≡◌, ◌∙◌, ◌↔◌, List, get_or, ap, subst}
use Rattle.std.specs.Prelude.{All, Contains}
use Rattle.lock_rules.specs.Entries.{Answered}
use Rattle.lock_programs.specs.Answers.{program_form}
use Rattle.lock_office.proofs.by_calls.OneHistory.{one-history-of}
use Rattle.sequential.specs.Histories.{IsEntryOf, ArePlacesRising, calls_of}
use Rattle.lock_office.specs.ProgramBoards.{TicketView, flat_history, calls_answered}
use Rattle.lock_office.proofs.Flats.{flat-within}
use Rattle.lock_office.proofs.laws.closed_offices_have_one_history.Goals as goal

pub returns : goal.returns
returns c office sessions programs closed =
    let h = programs.history in
    let legal = closed.legal in
    let order = c.calls_are_in_order.ensures in
    let made : All (λ (session : TicketView). calls_of session.number (flat_history h) ≡ calls_answered session.collected) sessions
    = λ k d few. c.sessions_make_the_calls_of_their_programs.ensures (get_or sessions k d).number h legal ∙ ap calls_answered (closed.accounts k d few).calls in
    record {
      programs = c.closed_offices_have_one_history.ensures office sessions programs closed;
      calls = one-history-of (λ (session : TicketView). session.number) (λ (session : TicketView). calls_answered session.collected) sessions (flat_history h) legal.0
          (λ k d few a. subst (λ (l : List Answered). Contains l a ↔ IsEntryOf (get_or sessions k d).number (flat_history h) a) (made k d few)
          (order.entries (get_or sessions k d).number (flat_history h) a))
          (λ k d few. subst ArePlacesRising (made k d few) (order.rising (get_or sessions k d).number (flat_history h)))
          (λ k d few. let e = flat-within program_form office.sessions h closed.within k d few in closed.all.each (get_or (flat_history h) k d).session e.some e.within);
      made = made;
      told = λ place program is. record {
        placed = c.programs_stand_side_by_side.ensures.placed h place program legal is;
        goes_on = c.programs_stop_at_a_cause.ensures.goes_on h place program legal is;
        stops = c.programs_stop_at_a_cause.ensures.stops h place program legal is;
        cut = c.programs_stop_at_a_cause.ensures.cut h place program legal is;
      };
    }
