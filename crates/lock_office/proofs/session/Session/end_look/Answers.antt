use Rattle.std.proofs.Common.{rules, ◌≡◌, ◌∙◌, true, [], ap, sym, subst}
use Rattle.lock_office.specs.ProgramBoards.{IsLegal, TicketView}
use Rattle.lock_office.specs.Sessions.{HasBegunToLook}
use Rattle.lock_office.proofs.Looks.{begun-as}
use Rattle.lock_office.proofs.session.Session.end_look.Goals as goal

pub invariant_of-self : goal.invariant_of-self
invariant_of-self c =
    let s = c.self.inside.session in
    let has : s.has_object ≡ true = search rules in
    let none : s.route ≡ [] = search rules in
    let home : c.deref.result.now.object.history ≡ s.front = search rules in
    let legal : IsLegal s.front = subst IsLegal home c.served-programs.ensures.legal in
    let looked = c.end_look.ensures.looked _ (begun-as s has none legal) in
    let pending : c.end_look.new.session.pending ≡ s.pending = ap (λ (t : TicketView). t.pending) looked.session in
    record {
      readable = λ program floor is. c.self.invariant.readable program floor (sym pending ∙ is);
      counted = search rules;
    }

pub returns-clause-looked : goal.returns-clause-looked
returns-clause-looked c = λ before begun. c.end_look.ensures.looked before (subst (λ (t : TicketView). HasBegunToLook before t) (sym c.self.view_is) begun)
