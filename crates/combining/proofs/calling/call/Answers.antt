use Rattle.std.proofs.Common.{◌≡◌, ◌∙◌, inr, None, List, sym, ap, subst}
use Rattle.publication.specs.Views.{TicketView}
use Rattle.combining.specs.declared.office.Answer.{Answer}
use Rattle.combining.specs.Calls.{IsCalled, IsCalling}
use Rattle.combining.proofs.EndedWaits.{told-on, told-same, told-all}
use Rattle.combining.proofs.Turns.{calling-pending, calling-on, calling-gone, calling-answered, waiting-trans}
use Rattle.combining.proofs.calling.call.Goals as goal

module _ {C R : Type 0} where
  -- A call that was published by a session that its try has left unchanged.
  unchanged : (t u v : TicketView C R) (call : C) → u ≡ t → t.pending ≡ None → (u.pending ≡ None → IsCalling u v call) → IsCalling t v call
  unchanged t u v call same idle published = subst (λ (x : TicketView C R). IsCalling x v call) same (published (ap (λ (x : TicketView C R). x.pending) same ∙ idle))

pub returns-in-Answered-clause-answered : goal.returns-in-Answered-clause-answered
returns-in-Answered-clause-answered g c answer is =
    let a = c.in-Answered.answer in
    let same : a ≡ answer = cc is in
    subst (λ (x : Answer _). IsCalled g.O.Sequential c.args.session.now c.attempt.new.session c.args.call x.place x.reply) same (c.attempt.ensures.attempted.called a c.in-Answered.is)

pub returns-in-Answered-clause-told : goal.returns-in-Answered-clause-told
returns-in-Answered-clause-told g c =
    told-all c.args.office.now.sessions c.attempt.new.session.front _ (g.T.Listener.list c.clear.new.self) (g.T.Listener.list c.attempt.new.listener) c.clear.ensures.none c.attempt.ensures.told

pub returns-in-Starved-clause-told : goal.returns-in-Starved-clause-told
returns-in-Starved-clause-told g c =
    told-all c.args.office.now.sessions c.attempt.new.session.front _ (g.T.Listener.list c.clear.new.self) (g.T.Listener.list c.attempt.new.listener) c.clear.ensures.none c.attempt.ensures.told

pub go_on-requires-clause-pending : goal.go_on-requires-clause-pending
go_on-requires-clause-pending g c =
    let t = c.args.session.now in
    let w = c.publish_if_idle.new.session in
    calling-pending t w c.args.call (unchanged t c.attempt.new.session w c.args.call (c.attempt.ensures.attempted.waits c.in-Wait.is).0 c.requires.idle.0 c.publish_if_idle.ensures.published)

pub returns-in-Wait-clause-answered : goal.returns-in-Wait-clause-answered
returns-in-Wait-clause-answered g c answer is =
    let t = c.args.session.now in
    let w = c.publish_if_idle.new.session in
    let calling = unchanged t c.attempt.new.session w c.args.call (c.attempt.ensures.attempted.waits c.in-Wait.is).0 c.requires.idle.0 c.publish_if_idle.ensures.published in
    calling-answered t w c.go_on.new.session c.args.call answer.place answer.reply calling (c.go_on.ensures.answered answer is)

pub returns-in-Wait-clause-waits : goal.returns-in-Wait-clause-waits
returns-in-Wait-clause-waits g c is =
    let t = c.args.session.now in
    let w = c.publish_if_idle.new.session in
    let lost = c.attempt.ensures.attempted.waits c.in-Wait.is in
    let calling = unchanged t c.attempt.new.session w c.args.call lost.0 c.requires.idle.0 c.publish_if_idle.ensures.published in
    (calling-on t w c.go_on.new.session c.args.call calling (c.go_on.ensures.waits is), lost.1)

pub returns-in-Wait-clause-starved : goal.returns-in-Wait-clause-starved
returns-in-Wait-clause-starved g c is =
    let t = c.args.session.now in
    let w = c.publish_if_idle.new.session in
    let v = c.go_on.new.session in
    let calling = unchanged t c.attempt.new.session w c.args.call (c.attempt.ensures.attempted.waits c.in-Wait.is).0 c.requires.idle.0 c.publish_if_idle.ensures.published in
    let h = c.go_on.ensures.starved is in
    calling-on t w v c.args.call calling (waiting-trans w h.0 v h.1 h.2)

pub returns-in-Wait-clause-refused : goal.returns-in-Wait-clause-refused
returns-in-Wait-clause-refused g c is =
    let t = c.args.session.now in
    let w = c.publish_if_idle.new.session in
    let calling = unchanged t c.attempt.new.session w c.args.call (c.attempt.ensures.attempted.waits c.in-Wait.is).0 c.requires.idle.0 c.publish_if_idle.ensures.published in
    let h = c.go_on.ensures.starved is in
    inr (h.0, calling-on t w h.0 c.args.call calling h.1, h.2, h.3)

pub returns-in-Wait-clause-told : goal.returns-in-Wait-clause-told
returns-in-Wait-clause-told g c =
    let n = c.args.office.now.sessions in
    let t = c.args.session.now in
    let u = c.attempt.new.session in
    let w = c.publish_if_idle.new.session in
    let v = c.go_on.new.session in
    let none = g.T.Listener.list c.clear.new.self in
    let first = g.T.Listener.list c.attempt.new.listener in
    let all = g.T.Listener.list c.go_on.new.listener in
    let known = c.publish_if_idle.ensures.known in
    let on = c.go_on.ensures.on in
    let calling = unchanged t u w c.args.call (c.attempt.ensures.attempted.waits c.in-Wait.is).0 c.requires.idle.0 c.publish_if_idle.ensures.published in
    told-all n v.front _ none all c.clear.ensures.none
    (told-on n t w v none first all (calling-gone t w c.args.call calling).entered on.longer on.entered (told-same n t u w none first known.0 known.1 c.attempt.ensures.told) c.go_on.ensures.told)

pub returns-in-Wait-clause-noted : goal.returns-in-Wait-clause-noted
returns-in-Wait-clause-noted g c answer is before =
    c.go_on.ensures.noted answer is
    (subst (λ (l : List _). g.T.Listener.notes c.attempt.new.listener l) (sym c.publish_if_idle.ensures.known.0) (c.attempt.ensures.notes_waits c.in-Wait.is (c.clear.ensures.notes c.args.session.now.front before)))

pub returns-in-Wait-clause-notes_starved : goal.returns-in-Wait-clause-notes_starved
returns-in-Wait-clause-notes_starved g c is before =
    c.go_on.ensures.notes_starved is
    (subst (λ (l : List _). g.T.Listener.notes c.attempt.new.listener l) (sym c.publish_if_idle.ensures.known.0) (c.attempt.ensures.notes_waits c.in-Wait.is (c.clear.ensures.notes c.args.session.now.front before)))

pub returns-in-Wait-clause-notes_waits : goal.returns-in-Wait-clause-notes_waits
returns-in-Wait-clause-notes_waits g c is before =
    c.go_on.ensures.notes_waits is
    (subst (λ (l : List _). g.T.Listener.notes c.attempt.new.listener l) (sym c.publish_if_idle.ensures.known.0) (c.attempt.ensures.notes_waits c.in-Wait.is (c.clear.ensures.notes c.args.session.now.front before)))
