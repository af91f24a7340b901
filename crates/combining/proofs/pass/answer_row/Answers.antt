use Rattle.std.proofs.Common.{◌≡◌, ◌≤◌, ◌∙◌, Option, None, List, [], ◌∷◌, ◌++◌, length, take, drop, refl, sym, ap, subst, arith, length-append, length-set}
use Rattle.std.proofs.Math.ListN.{drop_of_length-le}
use Rattle.std.proofs.lemmas.List.{length-take-le}
use Rattle.sequential.specs.declared.entry.Item.{Item}
use Rattle.publication.specs.Views.{TicketView, entry}
use Rattle.publication.specs.Boards.{asked_at}
use Rattle.publication.proofs.Lists.{prefix_trans}
use Rattle.combining.specs.inner.Passes.{AreOpened, HasAnswered, IsObjectInHand}
use Rattle.combining.proofs.CallsToServe.{answered, keeps-trans}
use Rattle.combining.proofs.PerformedCalls.{answerable-at, answered-at, all-entered}
use Rattle.combining.proofs.SameSession.{one-answered}
use Rattle.combining.proofs.pass.answer_row.Goals as goal

pub unreachable-requires : goal.unreachable-requires
unreachable-requires g c =
    let row = take c.args.served c.args.row.now in
    let next = answerable-at g.met.O.Sequential.fronts c.args.board.now.sessions c.args.object.now c.loop-item.session row c.loop-item.item-index c.item-item.result c.loop-item-test.true c.item-item.is c.served-served.ensures.legal c.loop-item.invariant.object in
    c.in_default.not-Some next.reply next.told

pub answer-requires-clause-legal : goal.answer-requires-clause-legal
answer-requires-clause-legal g c =
    let t = c.loop-item.session in
    let i = c.item-item.result in
    (answered-at g.met.O.Sequential.fronts c.args.board.now.sessions c.args.object.now t (answered g.O.Sequential t i.session c.in-Some.reply) c.args.row.now c.args.served c.loop-item.item-index i c.in-Some.reply
    c.requires.served c.loop-item-test.true c.item-item.is c.in-Some.is c.served-served.ensures.legal c.loop-item.invariant.object c.loop-item.invariant.row refl).legal

pub loop-item-preserved : goal.loop-item-preserved
loop-item-preserved g c =
    let before = c.args.session.now in
    let t = c.loop-item.session in
    let u = c.answer.new.ticket in
    let i = c.loop-item.invariant in
    let next = answered-at g.met.O.Sequential.fronts c.args.board.now.sessions c.args.object.now t u c.args.row.now c.args.served c.loop-item.item-index c.item-item.result c.in-Some.reply
    c.requires.served c.loop-item-test.true c.item-item.is c.in-Some.is c.served-served.ensures.legal i.object i.row c.answer.ensures.ticket in
    let whose = c.item-item.result.session in
    let front = t.front ++ entry whose (asked_at g.O.Sequential t whose) c.in-Some.reply ∷ [] in
    let step = c.answer.ensures.ticket in
    record {
      same = one-answered before t u c.loop-item.item-index front i.same (step ∙ ap (λ (o : List (Option _)). record t { front = front; opened = o; entered = t.entered ++ length t.front ∷ [] }) (sym (ap (λ (x : TicketView _ _). x.opened) step)))
          (ap (λ (x : TicketView _ _). length x.opened) step ∙ length-set t.opened whose None) (length-append t.front (entry whose (asked_at g.O.Sequential t whose) c.in-Some.reply ∷ []));
      short = i.short;
      object = next.book_is;
      row = next.row_is;
      longer = prefix_trans before.front t.front u.front i.longer next.longer;
      calls = keeps-trans before t u i.calls next.calls;
    }

pub returns-clause-whose : goal.returns-clause-whose
returns-clause-whose g c =
    let n = c.args.board.now.sessions in
    let row : List (Item _ _) = take c.args.served c.args.row.now in
    let all : length row ≤ c.loop-item.item-index = omega arith in
    let done = subst (λ (l : List (Item _ _)). IsObjectInHand g.O.Sequential n c.args.object.now c.loop-item.session l) (drop_of_length-le row all) c.loop-item.invariant.object in
    all-entered n c.args.object.now c.args.session.now c.loop-item.session row c.requires.object done

pub returns-clause-session : goal.returns-clause-session
returns-clause-session g c =
    let all : c.loop-item.item-index ≡ c.args.served = omega (arith, length-take-le c.args.served c.args.row.now c.requires.served, c.loop-item.auto.item-index-end, c.loop-item-test.false) in
    subst (λ k. HasAnswered c.args.session.now c.loop-item.session k) all c.loop-item.invariant.same

pub returns-clause-object : goal.returns-clause-object
returns-clause-object g c = subst (λ (l : List (Item _ _)). IsObjectInHand g.O.Sequential c.args.board.now.sessions c.args.object.now c.loop-item.session l) (drop_of_length-le (take c.args.served c.args.row.now) c.loop-item-test.false) c.loop-item.invariant.object

pub returns-clause-row : goal.returns-clause-row
returns-clause-row g c =
    let all : c.loop-item.item-index ≡ c.args.served = omega (arith, length-take-le c.args.served c.args.row.now c.requires.served, c.loop-item.auto.item-index-end, c.loop-item-test.false) in
    subst (λ k. AreOpened c.args.board.now.sessions c.loop-item.session.opened (drop k c.args.row.now)) all c.loop-item.invariant.row

pub returns-clause-longer : goal.returns-clause-longer
returns-clause-longer g c = c.loop-item.invariant.longer

pub returns-clause-calls : goal.returns-clause-calls
returns-clause-calls g c = c.loop-item.invariant.calls
