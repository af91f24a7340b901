use Rattle.std.proofs.Common.{rules, ◌≡◌, ◌∷◌, [], ◌++◌, List, map, sym, ap, ◌∙◌, subst, arith}
use Rattle.std.specs.Prelude.{All}
use Rattle.std.specs.Global.{Box}
use Rattle.std.proofs.lemmas.List.Elements.{All-append, All-cons}
use Rattle.publication.proofs.Gathering.{map_push}
use Rattle.publication.specs.Views.{BoardView}
use Rattle.lock_office.specs.ProgramBoards.{TicketView}
use Rattle.library_sessions.specs.declared.session_share.SessionShare.{SessionShare}
use Rattle.library_sessions.specs.Offices.{IsOfOffice}
use Rattle.library_sessions.proofs.opening.shares_of.Goals as goal

pub loop-session-preserved : goal.loop-session-preserved
loop-session-preserved c =
    let inv = c.loop-session.invariant in
    let made = c.loop-session.made.items in
    let b : Box SessionShare = c.in_ok-share.share in
    let P : Box SessionShare → Type 0 = λ share. IsOfOffice c.args.office c.args.mark c.args.waker c.args.bound share.value in
    let pushed : c.push.new.self.items ≡ made ++ b ∷ [] = search rules in
    let session : b.value.session ≡ c.in-Some.session = c.in_ok-share.ensures.session in
    let one : P b = subst (λ (o : BoardView). IsOfOffice o c.args.mark c.args.waker c.args.bound b.value) inv.2 c.in_ok-share.ensures.office in
    let none : All P [] = λ k d few. absurd (omega (arith, few)) in (
      ap (map (λ (share : Box SessionShare). share.value.session)) pushed
          ∙ (map_push (λ (share : Box SessionShare). share.value.session) made b
          ∙ (ap (λ (l : List TicketView). l ++ b.value.session ∷ []) inv.0 ∙ ap (λ (s : TicketView). c.loop-session.yielded ++ s ∷ []) session)),
      subst (λ (l : List (Box SessionShare)). All P l) (sym pushed) (All-append P made (b ∷ []) inv.1 (All-cons P b [] one none)),
      inv.2,
    )
