use Rattle.std.proofs.Common.{rules, ◌≡◌, ◌∷◌, ◌∙◌, ℕ, Some, List, inl, refl, sym, ap, subst}
use Rattle.publication.specs.List.{IsOn, AreApart, head_of, without, with_behind, behind}
use Rattle.publication.specs.StepKinds.{Seated, bypassing, relinking}
use Rattle.publication.specs.inner.Tickets.{IsCombiner}
use Rattle.publication.proofs.Chains.{on_right, splits, apart_front, inserts}
use Rattle.publication.proofs.list_steps.unlink_record.Goals as goal

-- A record that is unlinked and linked again leaves the route as it was.
same_route : (b w : ℕ) (route : List ℕ) → AreApart route → IsOn b route → Rattle.publication.specs.List.first_of (behind b route) ≡ Some w → with_behind b (head_of (behind b route)) (without b route) ≡ route
same_route b w route apart on next =
    let t = splits b w route on next in
    let whose : head_of (behind b route) ≡ w = ap head_of t.behind_is in
    let off = apart_front t.front (w ∷ t.rest) b (subst AreApart t.is apart) in
    ap (λ (k : ℕ). with_behind b k (without b route)) whose ∙ (ap (λ (r : List ℕ). with_behind b w r) t.without_is ∙ (inserts b w t.front t.rest off ∙ sym t.is))

pub mark_out-requires-clause-mine : goal.mark_out-requires-clause-mine
mark_out-requires-clause-mine g c =
    let v = c.args.seat.now.me.0 in
    let t = splits c.args.before c.args.whose v.listing.route c.requires.before.1 c.requires.whose.1 in
    let me = c.bypass_record.ensures.step in (
      subst (λ (x : Seated _ _ _). IsCombiner x.0) (sym me) (record { session = c.requires.mine.0.session; object = c.requires.mine.0.object; empty = c.requires.mine.0.empty }),
      ap (λ (x : Seated _ _ _). x.0.listing.off) me ∙ ap head_of t.behind_is,
    )

pub relink_record-requires-clause-off : goal.relink_record-requires-clause-off
relink_record-requires-clause-off g c =
    let v = c.args.seat.now.me.0 in
    let t = splits c.args.before c.args.whose v.listing.route c.requires.before.1 c.requires.whose.1 in
    let me = c.mark_out.ensures.in_use (search rules) ∙ c.bypass_record.ensures.step in
    (ap (λ (x : Seated _ _ _). x.0.listing.off) me ∙ ap head_of t.behind_is, ap (λ (x : Seated _ _ _). x.0.listing.before) me)

pub relink_record-requires-clause-before : goal.relink_record-requires-clause-before
relink_record-requires-clause-before g c =
    let v = c.args.seat.now.me.0 in
    let b = c.args.before in
    let t = splits b c.args.whose v.listing.route c.requires.before.1 c.requires.whose.1 in
    let me = c.mark_out.ensures.in_use (search rules) ∙ c.bypass_record.ensures.step in
    let route = ap (λ (x : Seated _ _ _). x.0.listing.route) me ∙ t.without_is in
    (c.requires.before.0, subst (λ (r : List ℕ). IsOn b r) (sym route) (on_right b t.front (b ∷ t.rest) (inl refl)))

pub returns-clause-kept : goal.returns-clause-kept
returns-clause-kept g c =
    let v = c.args.seat.now.me.0 in
    let more = c.args.seat.now.me.1 in
    let me = c.mark_out.ensures.in_use (search rules) ∙ c.bypass_record.ensures.step in λ _.
    c.relink_record.ensures.step ∙ (ap (λ (x : Seated _ _ _). (relinking x.0, x.1)) me
    ∙ ap (λ (r : List ℕ). (Rattle.publication.specs.StepKinds.as_session v v.front v.own v.heard (record { head_seen = v.listing.head_seen; route = r; off = 0; before = 0; tries = v.listing.tries }), more))
    (same_route c.args.before c.args.whose v.listing.route c.bypass_record.ensures.apart c.requires.before.1 c.requires.whose.1))
