use Rattle.std.proofs.Common.{◌≡◌, ◌<◌, ◌⊎◌, ◌∙◌, ap, sym, subst}
use Rattle.publication.specs.Boards.{publishing, enlisted, tried}
use Rattle.lock_office.specs.ProgramBoards.{TicketView}
use Rattle.lock_office.specs.Seen.{number_of_calls}
use Rattle.lock_office.proofs.Sessions.{published, published-front, readable-asking, asks-same}
use Rattle.lock_office.proofs.session.Session.publish.Goals as goal

pub invariant_of-self : goal.invariant_of-self
invariant_of-self c =
    let s = c.self.inside.session in
    let t = c.publish.new.session in
    let p = c.one-self-inside.result in
    let here = published s t p c.publish.result c.publish.ensures.listed c.publish.ensures.unlisted in
    record {
      readable = readable-asking c.self.inside.seen p c.args.call t c.one-self-inside.ensures (λ q floor is. asks-same p q _ floor t.pending here is);
      counted = c.self.invariant.counted ∙ ap number_of_calls (sym (published-front s t p c.publish.result c.publish.ensures.listed c.publish.ensures.unlisted));
    }

pub returns-clause-published : goal.returns-clause-published
returns-clause-published c =
    let t = c.publish.new.session in
    let p = c.one-self-inside.result in (
      p,
      c.one-self-inside.ensures,
      (λ e. subst (λ (s : TicketView). (t ≡ enlisted (publishing s p)) ⊎ (t ≡ tried (enlisted (publishing s p)))) c.self.view_is (c.publish.ensures.listed e)),
      (λ e. subst (λ (s : TicketView). (t ≡ tried (publishing s p)) × (1 < c.args.office.now.sessions)) c.self.view_is (c.publish.ensures.unlisted e)),
    )
