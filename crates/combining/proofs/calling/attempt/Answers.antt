use Rattle.std.proofs.Common.{◌≡◌, ◌∙◌, ◌+◌, inl, inr, List, refl, sym, ap, subst}
use Rattle.publication.specs.Views.{TicketView}
use Rattle.combining.specs.declared.office.Answer.{Answer}
use Rattle.combining.specs.Calls.{IsCalled, IsCalling}
use Rattle.combining.specs.Woken.{IsNotedUpTo}
use Rattle.combining.proofs.EndedWaits.{told-same}
use Rattle.combining.proofs.Turns.{performed-called, called-on, calling-live, refused-on, on-same, on-trans, posted-cases, posted-waits, posted-same, published, noted-performed}
use Rattle.combining.proofs.calling.attempt.Goals as goal

pub returns-in-Answered-clause-attempted : goal.returns-in-Answered-clause-attempted
returns-in-Answered-clause-attempted g c =
    let t = c.args.session.now in
    let u = c.perform_adding.new.session in
    let a = c.in-Answered.answer in
    let called : IsCalled g.O.Sequential t u c.args.call.now a.place a.reply = performed-called _ t u c.args.call.now a.place a.reply c.in-Answered.served c.requires.idle.0 (c.in-Answered.ensures.answered a c.in-Answered.served c.in-Answered.starved refl) in
    record {
      called = λ answer is. let same : a ≡ answer = cc is in subst (λ (x : Answer _). IsCalled g.O.Sequential t u c.args.call.now x.place x.reply) same called;
      idle = λ answer is. c.perform_adding.ensures.idle;
      starved = λ is. absurd (cc is);
      refused = λ is. absurd (cc is);
      waits = λ is. absurd (cc is);
      live = c.perform_adding.ensures.idle.1;
      on = called-on t u c.args.call.now a.place a.reply called;
    }

pub returns-in-Elsewhere-clause-attempted : goal.returns-in-Elsewhere-clause-attempted
returns-in-Elsewhere-clause-attempted g c =
    let t = c.args.session.now in
    let u = c.perform_adding.new.session in
    let lost = c.perform_adding.ensures.elsewhere c.in-Elsewhere.is in
    record {
      called = λ answer is. absurd (cc is);
      idle = λ answer is. absurd (cc is);
      starved = λ is. absurd (cc is);
      refused = λ is. absurd (cc is);
      waits = λ is. lost;
      live = c.perform_adding.ensures.idle.1;
      on = on-same t u (ap (λ (x : TicketView _ _). x.front) lost.0) (ap (λ (x : TicketView _ _). x.entered) lost.0);
    }

pub returns-in-Starved-clause-attempted : goal.returns-in-Starved-clause-attempted
returns-in-Starved-clause-attempted g c =
    let t = c.args.session.now in
    let u = c.perform_adding.new.session in
    let v = c.publish-posted.new.session in
    let p = c.publish-posted.ensures in
    let refused = c.perform_adding.ensures.refused c.in-Starved.is in
    let cases = posted-cases c.publish-posted.result p.listed p.unlisted in
    let waits = posted-waits u v c.args.call.now cases in
    let same = posted-same u v c.args.call.now cases in
    let calling : IsCalling t v c.args.call.now = published t u v c.args.call.now (inl refused) waits in
    record {
      called = λ answer is. absurd (cc is);
      idle = λ answer is. absurd (cc is);
      starved = λ is. calling;
      refused = λ is. inl (u, refused, published {obj = g.O.Sequential} u u v c.args.call.now (inr refl) waits);
      waits = λ is. absurd (cc is);
      live = calling-live t v c.args.call.now calling ∙ c.requires.idle.1;
      on = on-trans t u v (refused-on t u refused) (on-same u v same.0 same.1);
    }

pub returns-in-Starved-clause-told : goal.returns-in-Starved-clause-told
returns-in-Starved-clause-told g c =
    let u = c.perform_adding.new.session in
    let v = c.publish-posted.new.session in
    let p = c.publish-posted.ensures in
    let same = posted-same u v c.args.call.now (posted-cases c.publish-posted.result p.listed p.unlisted) in
    told-same c.args.office.now.sessions c.args.session.now u v (g.T.Listener.list c.args.listener.now) (g.T.Listener.list c.perform_adding.new.listener) same.0 same.1 c.perform_adding.ensures.told

pub returns-in-Answered-clause-noted : goal.returns-in-Answered-clause-noted
returns-in-Answered-clause-noted g c answer is before =
    let a = c.in-Answered.answer in
    let same : a ≡ answer = cc is in
    subst (λ (x : Answer _). IsNotedUpTo (g.T.Listener.notes c.perform_adding.new.listener) c.perform_adding.new.session.front (x.place + 1)) same
    (noted-performed _ c.args.session.now c.perform_adding.new.session c.args.call.now a.place a.reply c.in-Answered.served (g.T.Listener.notes c.perform_adding.new.listener)
    (c.in-Answered.ensures.answered a c.in-Answered.served c.in-Answered.starved refl) (c.perform_adding.ensures.notes before))

pub returns-in-Starved-clause-notes_starved : goal.returns-in-Starved-clause-notes_starved
returns-in-Starved-clause-notes_starved g c _ before =
    let u = c.perform_adding.new.session in
    let v = c.publish-posted.new.session in
    let p = c.publish-posted.ensures in
    let same = posted-same u v c.args.call.now (posted-cases c.publish-posted.result p.listed p.unlisted) in
    subst (λ (l : List _). g.T.Listener.notes c.perform_adding.new.listener l) (sym same.0) (c.perform_adding.ensures.notes before)
