use Rattle.std.proofs.Common.{◌≡◌, inl, List, sym, ap, subst, ◌∙◌, arith}
use mathlib.Core.List.{IsPrefix}
use Rattle.sequential.specs.declared.entry.Entry.{Entry}
use Rattle.publication.specs.Rule.{blank, seat}
use Rattle.publication.specs.declared.view.View.{View}
use Rattle.publication.proofs.Lists.{at_there}
use Rattle.publication.proofs.BoardHistory.{is-history}
use Rattle.publication.proofs.RealTime.{accounted}
use Rattle.publication.proofs.laws.the_state_says_the_history.Goals as goal

pub returns-clause-legal : goal.returns-clause-legal
returns-clause-legal g c s r = subst g.O.Sequential.is_legal (is-history s r.records) r.records.legal

pub returns-clause-known : goal.returns-clause-known
returns-clause-known g c s k r = subst (λ (h : List (Entry _ _)). IsPrefix (seat s k).front h) (is-history s r.records) (r.records.fronts k)

pub returns-clause-accounted : goal.returns-clause-accounted
returns-clause-accounted g c s i answers pending r has = accounted s r i answers pending has

pub returns-clause-seated : goal.returns-clause-seated
returns-clause-seated g c s id v r me live =
    let at : seat s id ≡ v = (at_there s.views id v blank me).0 in
    let is = r.records.sessions id (λ z. live (ap (λ (u : View _ _). u.number) (sym at) ∙ z)) in
    let same : id ≡ v.number = sym is.is ∙ ap (λ (u : View _ _). u.number) at in
    let here : seat s v.number ≡ v = ap (seat s) (sym same) ∙ at in
    inl (record {
      some = omega (arith, live);
      named = ap (λ (u : View _ _). u.number) here;
      answers_are = ap (λ (u : View _ _). u.own.collected) here;
      pending_is = ap (λ (u : View _ _). u.own.pending) here;
    })
