use Rattle.std.proofs.Common.{rules, sym, ◌≡◌, ◌+◌, ◌++◌, ◌∙◌, ℕ, Option, length, ap, subst, arith}
use Rattle.std.specs.Prelude.{IfSome, IfNone}
use Rattle.std.specs.List.{range_with_len}
use Rattle.publication.specs.Views.{TicketView}
use Rattle.combining.specs.inner.OwnCalls.{IsPassWithOwn}
use Rattle.combining.specs.inner.Passes.{HasPassed}
use Rattle.combining.proofs.OwnCalls.{own-taken}
use Rattle.combining.proofs.Places.{entered-count}
use Rattle.combining.proofs.office.Office.perform_adding.Goals as goal

pub release-requires-clause-took : goal.release-requires-clause-took
release-requires-clause-took g c =
    let s = c.seize.new.ticket in
    let u = c.pass_with_own-own.new.session in
    let e = c.pass_with_own-own.ensures in
    let kept = own-taken _ s u c.args.call.now c.pass_with_own-own.result.1 c.pass_with_own-own.result.0.served e.performed e.refused in
    let none : c.pass_with_own-own.new.load.pieces.items ≡ c.in-Some.load.value.pieces.items = search rules in
    let same : u.taken ≡ c.pass_with_own-own.new.load.pieces.items = kept ∙ (ap (λ (x : TicketView _ _). x.taken) c.in-Some.ensures.ticket ∙ sym none) in
    search rules

pub returns-in-Some-own-clause-few : goal.returns-in-Some-own-clause-few
returns-in-Some-own-clause-few g c =
    let t = c.args.session.now in
    let s = c.seize.new.ticket in
    let u = c.pass_with_own-own.new.session in
    let v = c.release.new.ticket in
    let served = c.pass_with_own-own.result.0.served in
    let own = subst (λ (o : Option (ℕ × _)). IfSome o (λ (r : ℕ × _). IsPassWithOwn (g.O.Serving.goes_first c.args.call.now) s u c.args.call.now r.0 r.1 served)) c.in-Some-own.is c.pass_with_own-own.ensures.performed in
    let entered : v.entered ≡ t.entered ++ range_with_len (length s.front) (served + 1) = ap (λ (x : TicketView _ _). x.entered) c.release.ensures.ticket
    ∙ (own.entered ∙ ap (λ (x : TicketView _ _). x.entered ++ range_with_len (length s.front) (served + 1)) c.in-Some.ensures.ticket) in
    let count = entered-count t v (length s.front) (served + 1) entered in
    omega (arith, count, c.pass_with_own-own.ensures.few)

pub returns-in-None-clause-few : goal.returns-in-None-clause-few
returns-in-None-clause-few g c =
    let t = c.args.session.now in
    let s = c.seize.new.ticket in
    let u = c.pass_with_own-own.new.session in
    let v = c.release.new.ticket in
    let served = c.pass_with_own-own.result.0.served in
    let pass = subst (λ (o : Option (ℕ × _)). IfNone o (HasPassed s u served)) c.in-None.is c.pass_with_own-own.ensures.refused in
    let entered : v.entered ≡ t.entered ++ range_with_len (length s.front) served = ap (λ (x : TicketView _ _). x.entered) c.release.ensures.ticket
    ∙ (pass.entered ∙ ap (λ (x : TicketView _ _). x.entered ++ range_with_len (length s.front) served) c.in-Some.ensures.ticket) in
    let count = entered-count t v (length s.front) served entered in
    omega (arith, count, c.pass_with_own-own.ensures.few)
