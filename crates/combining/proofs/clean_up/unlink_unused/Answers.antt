use Rattle.std.proofs.Common.{rules, ◌≡◌, ◌∙◌, ◌⊎◌, inl, ℕ, true, List, refl, sym, ap, subst, arith}
use Rattle.publication.specs.Views.{TicketView}
use Rattle.publication.specs.List.{IsOn, first_of, behind}
use Rattle.combining.proofs.CleanUpWalk.{next-number, first-number, cleaned-more}
use Rattle.combining.proofs.clean_up.unlink_unused.Goals as goal

pub walk-next-requires-clause-on : goal.walk-next-requires-clause-on
walk-next-requires-clause-on g c = first-number c.args.board.now c.args.first c.args.session.now.route c.requires.route c.requires.first

pub loop-next-init : goal.loop-next-init
loop-next-init g c =
    let route = c.args.session.now.route in
    let w = c.walk-next.ensures.next in
    let first = first-number c.args.board.now c.args.first route c.requires.route c.requires.first in
    let same : c.walk-next.new.ticket.route ≡ route = ap (λ (t : TicketView _ _). t.route) w.0 in record {
      same = refl;
      route = c.walk-next.ensures.route;
      before = (first.0, subst (λ (r : List ℕ). IsOn c.args.first r) (sym same) first.1);
      next = w.1 ∙ ap (λ (r : List ℕ). first_of (behind c.args.first r)) (sym same);
      cleaned = record { first = refl; left = λ j on. inl on };
    }

pub is_unused-unused-requires : goal.is_unused-unused-requires
is_unused-unused-requires g c =
    let i = c.loop-next.invariant in
    let n = next-number c.args.board.now c.loop-next.before c.in-Some.whose c.loop-next.session.route i.route (sym i.next ∙ c.in-Some.is) in
    record { whose = (n.some, omega (arith, n.few, c.requires.ages)) }

pub unlink_if_unused-before-requires-clause-whose : goal.unlink_if_unused-before-requires-clause-whose
unlink_if_unused-before-requires-clause-whose g c =
    let i = c.loop-next.invariant in
    let next = sym i.next ∙ c.in-Some.is in
    (next-number c.args.board.now c.loop-next.before c.in-Some.whose c.loop-next.session.route i.route next, next)

pub loop-next-preserved : goal.loop-next-preserved
loop-next-preserved g c =
    let i = c.loop-next.invariant in
    let t = c.loop-next.session in
    let u = c.unlink_if_unused-before.new.session in
    let v = c.walk-next-in-Some.new.ticket in
    let e = c.unlink_if_unused-before.ensures in
    let w = c.walk-next-in-Some.ensures.next in
    let kept : v.route ≡ u.route = ap (λ (x : TicketView _ _). x.route) w.0 in record {
      same = search rules;
      route = c.walk-next-in-Some.ensures.route;
      before = (e.on.0, subst (λ (r : List ℕ). IsOn c.unlink_if_unused-before.result r) (sym kept) e.on.1);
      next = w.1 ∙ ap (λ (r : List ℕ). first_of (behind c.unlink_if_unused-before.result r)) (sym kept);
      cleaned = cleaned-more c.args.ages.now c.args.passes c.in-Some.whose c.is_unused-unused.result _ t.route v.route i.cleaned
          (ap (λ (r : List ℕ). first_of r) kept ∙ e.first)
          (λ j on. subst (λ (r : List ℕ). IsOn j r ⊎ ((j ≡ c.in-Some.whose) × (c.is_unused-unused.result ≡ true))) (sym kept) (e.left j on))
          (λ unused. c.is_unused-unused.ensures.0 unused);
    }
