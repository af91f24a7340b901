use Rattle.std.proofs.Common.{rules, ◌≡◌, ◌∷◌, ◌∙◌, ℕ, List, refl, sym, ap, subst}
use mathlib.Core.Option as opt
use Rattle.atomic_table.specs.Table.{Allows, step, rest}
use Rattle.publication.specs.Words.{word_of}
use Rattle.publication.specs.List.{IsBounded, bound_of}
use Rattle.publication.specs.StepKinds.{Seated, opens_record, lays, opening}
use Rattle.publication.specs.inner.Tickets.{IsCombiner}
use Rattle.publication.specs.declared.slot.SlotValue.{SlotValue}
use Rattle.publication.specs.declared.slot.SlotValue.TheVariants.{Empty, PostedCall}
use Rattle.publication.proofs.RecordKinds.{session_of_its_word, open_kept, lay_kept}
use Rattle.publication.proofs.Lists.{there_at}
use Rattle.publication.proofs.steps.open_record.Goals as goal

pub compare_exchange-found-requires : goal.compare_exchange-found-requires
compare_exchange-found-requires g c =
    let seat = c.is_posted.new.seat in
    let mine : IsCombiner seat.me.0 = rw c.is_posted.ensures.same c.requires.mine in
    (search rules, search rules, (λ state rule many seated short. let r = (open_kept c.args.shared.now.table_id.slots seat.id seat.me.0 mine.session mine.object c.args.at c.requires.at.some c.requires.at.there seat.me.1 mine.empty) state rule many seated short in (r.0, r.1, r.2, r.3, (r.4, mine.object))))

pub exchange-requires : goal.exchange-requires
exchange-requires g c =
    let m = c.is_posted.new.seat.me in
    let found = c.compare_exchange-found.result in
    let after = c.compare_exchange-found.new.seat.me in
    let t = (subst (λ (k : ℕ). opens_record k m found after) (session_of_its_word c.args.at) c.compare_exchange-found.ensures.2.0).0 (search rules) in
    let held : SlotValue _ _ _ = PostedCall t.0 in
    let out : after.1 ≡ (c.args.at, held) ∷ m.1 = ap (λ (x : Seated _ _ _). x.1) t.1 in
    (search rules, (held, out ∙ ap (λ (l : List (ℕ × SlotValue _ _ _)). (c.args.at, held) ∷ rest l) (sym out)))

pub load-requires : goal.load-requires
load-requires g c =
    let m = c.is_posted.new.seat.me in
    let at = c.args.at in
    let slots = c.args.shared.now.table_id.slots in
    let mine : IsCombiner m.0 = rw c.is_posted.ensures.same c.requires.mine in
    let t = (subst (λ (k : ℕ). opens_record k m c.compare_exchange-found.result c.compare_exchange-found.new.seat.me) (session_of_its_word at) c.compare_exchange-found.ensures.2.0).0 (search rules) in
    let v = opening m.0 at t.0 in
    let after : c.exchange.new.seat.me ≡ (v, (at, Empty) ∷ m.1) = c.exchange.ensures.3 ∙ ap (λ (x : Seated _ _ _). (x.0, (at, Empty) ∷ rest x.1)) t.1 in (
      search rules,
      search rules,
      (λ state rule many seated short. let r = (subst (λ (x : Seated _ _ _). Allows (IsBounded g.O.Sequential (bound_of g.O.Sequential.bound c.args.shared.now.key.object.items)) slots c.exchange.new.seat.id x (word_of at) (λ y. y) (lays (step slots (word_of at) 0 0 opt.none) x)) (sym after)
          (lay_kept slots c.exchange.new.seat.id v mine.session refl at c.requires.at.some c.requires.at.there t.0 (there_at v.combiner.opened at t.0 t.2.call_is) m.1 refl)) state rule many seated short in (r.0, r.1, r.2, r.3, (r.4, (ap (λ (x : Seated _ _ _). x.0.combiner.has_object) after)))),
    )
