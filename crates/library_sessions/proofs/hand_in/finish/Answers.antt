use Rattle.std.proofs.Common.{rules, ◌≡◌, ◌∙◌, ◌∷◌, [], ◌++◌, List, ap, sym, subst, arith}
use Rattle.std.specs.Prelude.{All}
use Rattle.std.proofs.lemmas.List.Elements.{All-append, All-cons}
use Rattle.publication.specs.Views.{BoardView}
use Rattle.lock_office.specs.ProgramBoards.{TicketView}
use Rattle.lock_office.specs.Sessions.{IsSessionOf, HasNothingPending}
use Rattle.lock_office.specs.Closed as any
use Rattle.library_sessions.proofs.hand_in.finish.Goals as goal

pub unreachable-requires-in-Err-Unsettled-default-default : goal.unreachable-requires-in-Err-Unsettled-default-default
unreachable-requires-in-Err-Unsettled-default-default c =
    let refused = c.in-Err-Unsettled-default-default in
    let handed = c.args.share.handed.items in
    let s = c.args.share.session in
    let none : All HasNothingPending [] = λ k d few. absurd (omega (arith, few)) in
    let theirs : All HasNothingPending handed = λ k d few. (c.args.share.theirs k d few).1 in
    let all : All HasNothingPending (handed ++ s ∷ []) = All-append HasNothingPending handed (s ∷ []) theirs (All-cons HasNothingPending s [] c.requires.settled none) in
    let items : c.push_reserved.new.self.items ≡ handed ++ s ∷ [] = c.push_reserved.ensures.items ∙ ap (λ (t : TicketView). handed ++ t ∷ []) c.into_session.ensures in
    (refused.ensures.unsettled refused.field-0-0-is).1 (subst (λ (l : List TicketView). All HasNothingPending l) (sym items) all)

pub close-requires : goal.close-requires
close-requires c =
    let handed = c.args.share.handed.items in
    let s = c.args.share.session in
    let P : TicketView → Type 0 = IsSessionOf c.args.share.office.value in
    let none : All P [] = λ k d few. absurd (omega (arith, few)) in
    let theirs : All P handed = λ k d few. (c.args.share.theirs k d few).0 in
    let all : All P (handed ++ s ∷ []) = All-append P handed (s ∷ []) theirs (All-cons P s [] (c.args.share.ours c.requires.free) none) in
    let same : c.in-Ok.office ≡ c.args.share.office.value = search rules in
    let office : All (IsSessionOf c.in-Ok.office) (handed ++ s ∷ []) = subst (λ (o : BoardView). All (IsSessionOf o) (handed ++ s ∷ [])) (sym same) all in
    let items : c.push_reserved.new.self.items ≡ handed ++ s ∷ [] = c.push_reserved.ensures.items ∙ ap (λ (t : TicketView). handed ++ t ∷ []) c.into_session.ensures in
    record { ours = subst (λ (l : List TicketView). All (IsSessionOf c.in-Ok.office) l) (sym items) office }

pub returns : goal.returns
returns c =
    let handed = c.args.share.handed.items in
    let s = c.args.share.session in
    let items : c.push_reserved.new.self.items ≡ handed ++ s ∷ [] = c.push_reserved.ensures.items ∙ ap (λ (t : TicketView). handed ++ t ∷ []) c.into_session.ensures in
    let same : c.in-Ok.office ≡ c.args.share.office.value = search rules in
    let programs = c.in-Ok-close.programs in record {
      programs = programs;
      closed = subst (λ (o : BoardView). any.IsClosed o (handed ++ s ∷ []) programs) same
          (subst (λ (l : List TicketView). any.IsClosed c.in-Ok.office l programs) items c.in-Ok-close.ensures.ok);
      book_is = c.into_object.ensures.object;
      history = c.into_object.ensures.history;
    }
