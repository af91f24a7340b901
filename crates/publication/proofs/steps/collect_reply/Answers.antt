use Rattle.std.proofs.Common.{rules, ◌≡◌, ◌∷◌, ◌∙◌, ℕ, Bool, cond, eqb, List, sym, ap, subst}
use mathlib.Core.Option as opt
use prog.Atomic.{either}
use Rattle.atomic_table.specs.Table.{Allows, step, rest}
use Rattle.publication.specs.Words.{word_of, OUT, SERVED, EMPTY}
use Rattle.publication.specs.List.{IsBounded, bound_of}
use Rattle.publication.specs.StepKinds.{Seated, takes_reply, taking}
use Rattle.publication.specs.declared.slot.SlotValue.{SlotValue}
use Rattle.publication.specs.declared.slot.SlotValue.TheVariants.{ServedReply}
use Rattle.publication.proofs.SessionKinds.{take_kept}
use Rattle.publication.proofs.steps.collect_reply.Goals as goal

pub compare_exchange-found-requires : goal.compare_exchange-found-requires
compare_exchange-found-requires g c =
    let seat = c.is_served.new.seat in
    let mine : seat.me.0.number ≡ c.args.at = ap (λ (m : Seated _ _ _). m.0.number) c.is_served.ensures.same ∙ c.requires.mine in
    let listed : seat.me.0.own.listed ≡ c.args.is_listed = ap (λ (m : Seated _ _ _). m.0.own.listed) c.is_served.ensures.same ∙ c.requires.listed in
    let left : cond seat.me.0.own.listed EMPTY OUT ≡ c.if-is_listed.left = ap (λ (b : Bool). cond {A = ℕ} b EMPTY OUT) listed ∙ search rules in
    let slots = c.args.shared.now.table_id.slots in
    let at = c.args.at in (
      search rules,
      search rules,
      (λ state rule many seated short. let r = (subst (λ (w : ℕ). Allows (IsBounded g.O.Sequential (bound_of g.O.Sequential.bound c.args.shared.now.key.object.items)) slots seat.id seat.me (word_of at) (λ n. either (eqb n SERVED) w n) (takes_reply g.O.Sequential (step slots (word_of at) SERVED w opt.none) seat.me)) left
          (take_kept slots seat.id at seat.me.0 seat.me.1 mine c.requires.at.some g.met.O.Sequential.fronts)) state rule many seated short in (r.0, r.1, r.2, r.3, (r.4, (ap word_of (sym mine))))),
    )

pub exchange-requires : goal.exchange-requires
exchange-requires g c =
    let m = c.is_served.new.seat.me in
    let after = c.compare_exchange-found.new.seat.me in
    let mine : m.0.number ≡ c.args.at = ap (λ (x : Seated _ _ _). x.0.number) c.is_served.ensures.same ∙ c.requires.mine in
    let t = c.compare_exchange-found.ensures.2.0.0 (search rules) in
    let held : SlotValue _ _ _ = ServedReply t.0 t.1 in
    let found : after.1 ≡ (m.0.number, held) ∷ m.1 = ap (λ (x : Seated _ _ _). x.1) {y = (taking m.0 after.0.own.log t.2.2 t.2.0 t.0 t.1, (m.0.number, held) ∷ m.1)} t.2.4 in
    let out : after.1 ≡ (c.args.at, held) ∷ m.1 = found ∙ ap (λ (k : ℕ). (k, held) ∷ m.1) mine in
    (search rules, (held, out ∙ ap (λ (l : List (ℕ × SlotValue _ _ _)). (c.args.at, held) ∷ rest l) (sym out)))
