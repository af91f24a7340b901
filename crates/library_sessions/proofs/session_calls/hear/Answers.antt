use Rattle.std.proofs.Common.{rules, ◌≡◌, refl, subst}
use Rattle.publication.specs.Boards.{HasCallsOf}
use Rattle.lock_office.specs.ProgramBoards.{TicketView}
use Rattle.library_sessions.proofs.session_calls.hear.Goals as goal

pub returns-clause-ok : goal.returns-clause-ok
returns-clause-ok c = λ _.
    let h = c.hear.ensures in
    let mark : c.args.share.now.mark ≡ c.args.other.now.mark = search rules in (
      mark,
      (
        h.session,
        h.fronts.0,
        h.fronts.1,
        h.legal,
        h.heard,
        h.calls.0,
        subst (λ (t : TicketView). HasCallsOf c.hear.new.self.front t) h.other h.calls.1,
        record { office = refl; handed = refl; sessions = refl; mark = refl; waker = refl; bound = refl },
      ),
    )
