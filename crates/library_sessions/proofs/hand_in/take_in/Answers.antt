use Rattle.std.proofs.Common.{rules, ◌≡◌, ◌∙◌, ◌∷◌, [], ◌++◌, List, sym, subst, ap}
use Rattle.std.specs.Prelude.{All, slice_index_or}
use Rattle.std.proofs.lemmas.List.Elements.{All-append, All-push}
use Rattle.publication.specs.Views.{BoardView}
use Rattle.lock_office.specs.ProgramBoards.{TicketView}
use Rattle.lock_office.specs.Sessions.{IsSessionOf, HasNothingPending}
use Rattle.library_sessions.proofs.hand_in.take_in.Goals as goal

pub invariant_of-to-2 : goal.invariant_of-to-2
invariant_of-to-2 c =
    let to = c.args.to.now in
    let share = c.args.share.value in
    let settled : TicketView → Type 0 = λ one. IsSessionOf to.office.value one × HasNothingPending one in
    let theirs : All settled share.handed.items = λ k d few. (subst (λ (o : BoardView). IsSessionOf o (slice_index_or share.handed.items k d)) c.requires.one_office (share.theirs k d few).0, (share.theirs k d few).1) in
    let own : settled share.session = (subst (λ (o : BoardView). IsSessionOf o share.session) c.requires.one_office (share.ours c.requires.free), c.requires.settled) in
    let joined : c.append.new.self.items ≡ to.handed.items ++ share.handed.items = search rules in
    let pushed : c.push_reserved.new.self.items ≡ c.append.new.self.items ++ share.session ∷ [] = search rules in
    let items : c.push_reserved.new.self.items ≡ (to.handed.items ++ share.handed.items) ++ share.session ∷ [] = pushed ∙ ap (λ (l : List TicketView). l ++ share.session ∷ []) joined in
    record {
      ours = to.ours;
      theirs = subst (λ (l : List TicketView). All settled l) (sym items) (All-push settled (to.handed.items ++ share.handed.items) share.session (All-append settled to.handed.items share.handed.items to.theirs theirs) own);
      count = to.count;
      few = to.few;
      telling = to.telling;
    }
