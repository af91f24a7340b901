use Rattle.std.proofs.Common.{◌≡◌, ◌+◌, ◌∙◌, ℕ, Option, List, sym, ap, subst, arith}
use Rattle.publication.specs.Views.{TicketView}
use Rattle.publication.specs.List.{IsOn, first_of, behind}
use Rattle.publication.specs.StepKinds.{IsRoute}
use Rattle.combining.specs.inner.Passes.{AreOpened, KeepsCalls, HasVisitedOpened, IsSameSession, IsNext, HasMet}
use Rattle.combining.specs.inner.BoundedPasses.{IsWithin}
use Rattle.publication.specs.declared.slot.Load.{Load}
use Rattle.combining.proofs.CallsToServe.{visited-later, keeps-trans}
use Rattle.combining.proofs.SameSession.{same_session-trans}
use Rattle.combining.proofs.Walks.{met-next, next-on, ahead-smaller}
use Rattle.combining.proofs.rounds.open_walked.Goals as goal

pub open_if_room-requires-clause-whose : goal.open_if_room-requires-clause-whose
open_if_room-requires-clause-whose g c =
    let i = c.loop-next.invariant in
    let on : IsOn c.in-Some.whose c.loop-next.session.route = subst (λ (n : Option ℕ). IsNext n c.loop-next.session.route) c.in-Some.is i.next in
    let w = i.route.within c.in-Some.whose on in record { some = w.0; few = omega (arith, w.1) }

pub walk-next-requires-clause-on : goal.walk-next-requires-clause-on
walk-next-requires-clause-on g c =
    let i = c.loop-next.invariant in
    let on : IsOn c.in-Some.whose c.loop-next.session.route = subst (λ (n : Option ℕ). IsNext n c.loop-next.session.route) c.in-Some.is i.next in
    let w = i.route.within c.in-Some.whose on in
    (record { some = w.0; few = omega (arith, w.1) }, subst (λ (r : List ℕ). IsOn c.in-Some.whose r) (sym c.open_if_room.ensures.session.2) on)

pub loop-next-smaller : goal.loop-next-smaller
loop-next-smaller g c =
    let i = c.loop-next.invariant in
    let w = c.walk-next.ensures.next in
    let kept = c.open_if_room.ensures.session.2 in
    ahead-smaller c.loop-next.next c.walk-next.result c.loop-next.session.route c.walk-next.new.ticket.route c.in-Some.whose i.route.apart c.in-Some.is
    (w.1 ∙ ap (λ (r : List ℕ). first_of (behind c.in-Some.whose r)) kept) (ap (λ (x : TicketView _ _). x.route) w.0 ∙ kept)

pub loop-next-preserved : goal.loop-next-preserved
loop-next-preserved g c =
    let i = c.loop-next.invariant in
    let q = c.in-Some.whose in
    let before = c.args.session.now in
    let t = c.loop-next.session in
    let u = c.open_if_room.new.session in
    let v = c.walk-next.new.ticket in
    let n = c.args.board.now.sessions in
    let e = c.open_if_room.ensures in
    let w = c.walk-next.ensures.next in
    let same : v ≡ u = w.0 in
    let kept : u.route ≡ t.route = e.session.2 in
    let next : c.walk-next.result ≡ first_of (behind q t.route) = w.1 ∙ ap (λ (r : List ℕ). first_of (behind q r)) kept in
    let met : HasMet (first_of (behind q t.route)) u =
    met-next q t u i.route.apart kept (λ j. visited-later t u j e.calls e.session.0) (e.met c.if-open_if_room.false) (subst (λ (m : Option ℕ). HasMet m t) c.in-Some.is i.met) in record {
      same = (
        subst (λ (x : TicketView _ _). IsSameSession before x) (sym same) (same_session-trans before t u i.same.0 e.session.0),
        ap (λ (x : TicketView _ _). x.front) same ∙ (e.session.1 ∙ i.same.1),
      );
      route = subst (λ (r : List ℕ). IsRoute (n + 1) r) (sym (ap (λ (x : TicketView _ _). x.route) same ∙ kept)) i.route;
      next = subst (λ (m : Option ℕ). IsNext m v.route) (sym next) (subst (λ (r : List ℕ). IsNext (first_of (behind q t.route)) r) (sym (ap (λ (x : TicketView _ _). x.route) same ∙ kept)) (next-on q t.route));
      row = subst (λ (x : TicketView _ _). AreOpened n x.opened c.open_if_room.new.load.row.items) (sym same) e.row;
      room = e.room;
      calls = subst (λ (x : TicketView _ _). KeepsCalls before x) (sym same) (keeps-trans before t u i.calls e.calls);
      visited = subst (λ (x : TicketView _ _). HasVisitedOpened x) (sym same) e.visited;
      within = subst (λ (o : _). IsWithin g.T.Listener.weight c.args.bound (g.O.Sequential.history o) c.open_if_room.new.load.row c.open_if_room.new.opening.weight) (ap (λ (x : Load _ _ _). x.object) i.load) e.within;
      load = e.load ∙ ap (λ (x : Load _ _ _). record x { row = c.open_if_room.new.load.row }) i.load;
      met = subst (λ (m : Option ℕ). HasMet m v) (sym next) (subst (λ (x : TicketView _ _). HasMet (first_of (behind q t.route)) x) (sym same) met);
      kept = ap (λ (x : TicketView _ _). x.route) same ∙ (kept ∙ i.kept);
    }
