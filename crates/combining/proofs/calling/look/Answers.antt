use Rattle.std.proofs.Common.{◌≡◌, ◌+◌, ap, subst}
use Rattle.publication.specs.Views.{TicketView}
use Rattle.combining.proofs.EndedWaits.{told-knowing}
use Rattle.combining.proofs.Turns.{collects, waiting-on, on-trans, collected-on}
use Rattle.combining.specs.declared.office.Answer.{Answer}
use Rattle.combining.specs.Woken.{IsNotedUpTo}
use Rattle.combining.specs.Calls.{IsAnswered}
use Rattle.combining.proofs.calling.look.Goals as goal

pub returns-in-Some-clause-told : goal.returns-in-Some-clause-told
returns-in-Some-clause-told g c =
    let got = c.in-Some.ensures.some in
    told-knowing c.args.office.now.sessions c.args.session.now c.pass_if-starved.new.session c.collect.new.session (g.T.Listener.list c.args.listener.now) (g.T.Listener.list c.pass_if-starved.new.listener)
    got.longer (ap (λ (x : TicketView _ _). x.entered) got.session) c.pass_if-starved.ensures.told

pub returns-in-Some-clause-awaited : goal.returns-in-Some-clause-awaited
returns-in-Some-clause-awaited g c =
    let t = c.args.session.now in
    let u = c.pass_if-starved.new.session in
    let v = c.collect.new.session in
    let a = c.in-Some.answer in
    let waits = c.pass_if-starved.ensures.waits in
    let got = c.in-Some.ensures.some in
    record {
      answered = λ answer is. let same : a ≡ answer = cc is in subst (λ (x : Answer _). IsAnswered g.O.Sequential t v x.place x.reply) same (collects t u v a.place a.reply waits got);
      idle = λ answer is. c.in-Some.ensures.idle;
      starved = λ is. absurd (cc is);
      waits = λ is. absurd (cc is);
      on = on-trans t u v (waiting-on t u waits) (collected-on u v a.place a.reply got);
    }

pub returns-in-Some-clause-noted : goal.returns-in-Some-clause-noted
returns-in-Some-clause-noted g c answer is before =
    let got = c.in-Some.ensures.some in
    let same : c.in-Some.answer ≡ answer = cc is in
    let noted : IsNotedUpTo (g.T.Listener.notes c.pass_if-starved.new.listener) c.collect.new.session.front (c.in-Some.answer.place + 1) = record {
      front = c.pass_if-starved.new.session.front;
      noted = c.pass_if-starved.ensures.notes before;
      longer = got.longer;
      length_is = got.known;
    } in
    subst (λ (a : Answer _). IsNotedUpTo (g.T.Listener.notes c.pass_if-starved.new.listener) c.collect.new.session.front (a.place + 1)) same noted
