use Rattle.std.proofs.Common.{◌∙◌, List, length, sym, ap, arith}
use Rattle.publication.specs.Views.{TicketView}
use Rattle.combining.proofs.EndedWaits.{told-step}
use Rattle.combining.proofs.Places.{entered-none}
use Rattle.combining.proofs.own_call.make_rounds_if.Goals as goal

pub returns-else-is_some-clause-told : goal.returns-else-is_some-clause-told
returns-else-is_some-clause-told g c on =
    let t = c.args.session.now in
    let u = c.walk.new.ticket in
    let home = c.requires.work.home in
    let sessions = home.sessions in
    let front = ap (λ (x : TicketView _ _). x.front) c.walk.ensures.ticket in
    let known = ap (λ (l : List _). length l) front in
    let whole = ap (λ (l : List _). length l) home.history in
    told-step c.args.board.now.sessions (g.O.Sequential.sessions c.args.load.now.object) (g.O.Sequential.history c.args.load.now.object) u.front (length t.front) 0 _ _ _
    (home.history ∙ sym front) (omega (arith, sessions)) (omega (arith, known)) (entered-none t u (ap (λ (x : TicketView _ _). x.entered) c.walk.ensures.ticket))
    (λ v. c.add.ensures.members (length t.front) v (λ some. absurd (omega (arith, some))) (omega (arith, whole))) c.add.ensures.once
