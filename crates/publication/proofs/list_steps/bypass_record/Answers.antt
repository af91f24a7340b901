use Rattle.std.proofs.Common.{rules, ◌≡◌, ◌∷◌, ◌∙◌, ℕ, List, inl, inr, refl, sym, ap, subst}
use mathlib.Core.Option as opt
use Rattle.atomic_table.specs.Table.{Allows, step}
use Rattle.publication.specs.Words.{link_of}
use Rattle.publication.specs.List.{IsOn, IsBounded, bound_of}
use Rattle.publication.specs.StepKinds.{Seated, walks_on_from, unlinks, bypassing}
use Rattle.publication.proofs.Chains.{on_right, splits}
use Rattle.publication.proofs.ListKinds.{walk_on_kept, session_of_its_link}
use Rattle.publication.proofs.UnlinkKinds.{unlink_kept}
use Rattle.publication.proofs.list_steps.bypass_record.Goals as goal

pub load-next-requires : goal.load-next-requires
load-next-requires g c =
    let m = c.args.seat.now.me in
    let mine = c.requires.mine.0 in
    let route = m.0.listing.route in
    let t = splits c.args.before c.args.whose route c.requires.before.1 c.requires.whose.1 in
    let on : IsOn c.args.whose route = subst (λ (r : List ℕ). IsOn c.args.whose r) (sym t.is) (on_right c.args.whose t.front (c.args.before ∷ c.args.whose ∷ t.rest) (inr (inl refl))) in
    (search rules, search rules, walk_on_kept c.args.shared.now.table_id.slots c.args.seat.now.id m.0 m.1 mine.session mine.object c.args.whose on)

pub store-requires : goal.store-requires
store-requires g c =
    let m = c.args.seat.now.me in
    let n = c.args.shared.now.table_id.slots in
    let id = c.load-next.new.seat.id in
    let before = c.args.before in
    let whose = c.args.whose in
    let next = c.load-next.result in
    let mine = c.requires.mine.0 in
    let t = subst (λ (k : ℕ). walks_on_from n k m next c.load-next.new.seat.me) (session_of_its_link whose) c.load-next.ensures.2 in (
      search rules,
      search rules,
      subst (λ (x : Seated _ _ _). Allows (IsBounded g.O.Sequential (bound_of g.O.Sequential.bound c.args.shared.now.key.object.items)) n id x (link_of before) (λ _. next) (λ _. unlinks (step n (link_of before) next 0 opt.none) x next)) (sym t.0)
          (unlink_kept n id m.0 m.1 mine.session mine.object before whose next c.requires.mine.1 c.requires.before.1 c.requires.whose.1 t.1),
    )

pub returns-clause-step : goal.returns-clause-step
returns-clause-step g c =
    let m = c.args.seat.now.me in
    let t = subst (λ (k : ℕ). walks_on_from c.args.shared.now.table_id.slots k m c.load-next.result c.load-next.new.seat.me) (session_of_its_link c.args.whose) c.load-next.ensures.2 in
    subst (λ (k : ℕ). c.store.new.seat.me ≡ (bypassing c.load-next.new.seat.me.0 k, c.load-next.new.seat.me.1)) (session_of_its_link c.args.before) c.store.ensures.2
    ∙ ap (λ (x : Seated _ _ _). (bypassing x.0 c.args.before, x.1)) t.0

pub returns-clause-apart : goal.returns-clause-apart
returns-clause-apart g c =
    let m = c.args.seat.now.me in
    let t = subst (λ (k : ℕ). walks_on_from c.args.shared.now.table_id.slots k m c.load-next.result c.load-next.new.seat.me) (session_of_its_link c.args.whose) c.load-next.ensures.2 in t.2.apart
