use Rattle.std.proofs.Common.{◌≡◌, ℕ, List, length, drop, sym, ap, subst}
use Rattle.sequential.specs.declared.entry.Entry.{Entry}
use Rattle.publication.specs.Views.{TicketView}
use Rattle.combining.specs.Sessions.{IsPassed}
use Rattle.combining.specs.Woken.{HasAddedTold}
use Rattle.combining.proofs.TakenPieces.{pass-ended}
use Rattle.combining.proofs.office.Office.pass.Goals as goal

pub returns-clause-pass : goal.returns-clause-pass
returns-clause-pass g c served starved left is =
    let made = c.in-Some.made in
    let turn = c.end_pass.ensures.turn in
    let same : made.pass.served ≡ served = cc in
    subst (λ (n : ℕ). IsPassed g.O.Sequential c.args.session.now c.end_pass.new.session n) same
    (pass-ended c.args.self.now.sessions c.args.session.now c.make_pass.new.session c.end_pass.new.session made.load.value made.pass.served c.in-Some.ensures.made c.end_pass.ensures.session)

pub returns-clause-told : goal.returns-clause-told
returns-clause-told g c =
    let before = c.args.session.now in
    let made = c.make_pass.new.session in
    let after = c.end_pass.new.session in
    let both : (after.front, after.entered) ≡ (made.front, made.entered) = ap (λ (t : TicketView _ _). (t.front, t.entered)) c.end_pass.ensures.session in
    subst (λ (k : List (Entry _ _) × List ℕ). HasAddedTold g.T.Listener.ends c.args.self.now.sessions k.0 (drop (length before.entered) k.1) (g.T.Listener.list c.args.listener.now) (g.T.Listener.list c.make_pass.new.listener))
    (sym both) c.in-Some.ensures.told
