use Rattle.std.proofs.Common.{rules, ◌≡◌, Some, sym, subst}
use Rattle.publication.specs.Views.{BoardView}
use Rattle.lock_office.specs.Sessions.{IsLooking}
use Rattle.library_sessions.proofs.session_share.SessionShare.end_look.Goals as goal

pub end_look-requires-clause-looks : goal.end_look-requires-clause-looks
end_look-requires-clause-looks c =
    let had : c.args.self.now.looking ≡ Some c.in-Some.load = search rules in
    let office : c.deref.result.now ≡ c.args.self.now.office.value = search rules in
    subst (λ (o : BoardView). IsLooking o c.args.self.now.session c.in-Some.load.value) (sym office) (c.requires.looks.looks c.in-Some.load had)
