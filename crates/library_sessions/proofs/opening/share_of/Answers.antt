use Rattle.std.proofs.Common.{rules, ◌≡◌, [], List, sym, ap, ◌∙◌, subst, arith}
use Rattle.std.specs.Prelude.{All}
use Rattle.publication.specs.Views.{BoardView}
use Rattle.lock_office.specs.ProgramBoards.{TicketView}
use Rattle.lock_office.specs.Sessions.{IsSessionOf, HasNothingPending}
use Rattle.library_sessions.proofs.opening.share_of.Goals as goal

pub invariant_of-share-clause-ours : goal.invariant_of-share-clause-ours
invariant_of-share-clause-ours c =
    let same : c.in_ok-office.office.value ≡ c.args.shared.now.value = search rules in
    λ _. subst (λ (o : BoardView). IsSessionOf o c.call_session_of.result) (sym same)
    (subst (λ (t : TicketView). IsSessionOf c.args.shared.now.value t) (sym c.call_session_of.ensures) c.requires.ours.0)

pub invariant_of-share-clause-theirs : goal.invariant_of-share-clause-theirs
invariant_of-share-clause-theirs c =
    let P : TicketView → Type 0 = λ one. IsSessionOf c.in_ok-office.office.value one × HasNothingPending one in
    let none : c.new-2.result.items ≡ [] = search rules in
    let none_handed : All P [] = λ k d few. absurd (omega (arith, few)) in
    subst (λ (l : List TicketView). All P l) (sym none) none_handed

pub invariant_of-share-clause-count : goal.invariant_of-share-clause-count
invariant_of-share-clause-count c =
    let same : c.in_ok-office.office.value ≡ c.args.shared.now.value = search rules in
    c.requires.count ∙ ap (λ (o : BoardView). o.sessions) (sym same)
