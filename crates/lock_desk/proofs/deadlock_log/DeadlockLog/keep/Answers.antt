use Rattle.std.proofs.Common.{◌≡◌, ℕ, zero, suc, ◌+◌, ◌<◌, ◌≤◌, Bool, false, cond, eqb, ltb, inl, inr, [], ◌∷◌, List, length, get_or, refl, sym, ap, ◌∙◌, subst, arith, drop, length-append, length-drop}
use Rattle.std.specs.Prelude.{vec_capacity}
use Rattle.std.specs.List.{All}
use Rattle.std.proofs.lemmas.Bool.{cases_lt, lt-ltb, le-ltb, false≢true}
use Rattle.waits_for.proofs.CyclesFound.{cycle-few}
use Rattle.lock_desk.specs.declared.deadlock_log.Deadlock.{Deadlock}
use Rattle.lock_desk.specs.declared.deadlock_log.DeadlockLog.TheInside.{Inside}
use Rattle.lock_table.specs.Noting.{IsCopyFor}
use Rattle.lock_desk.specs.inner.Noting.{LogView, log_view_of, IsLogFor, HasTold}
use Rattle.lock_desk.proofs.CyclesTold.{told-slot}
use Rattle.lock_desk.proofs.deadlock_log.DeadlockLog.keep.Goals as goal

-- a number that isn't 0
not-none : (n : ℕ) → eqb n 0 ≡ false → 0 < n
not-none zero e = absurd (false≢true (sym e))
not-none (suc n) e = omega arith

-- one more of these are no more than the most
one-more-few : (count most n : ℕ) → n ≡ cond (ltb count most) (count + 1) count → count ≤ most → n ≤ most
one-more-few count most n e le = elim (cases_lt count most) [
  | inl low ↦ let f : n ≡ count + 1 = e ∙ ap (λ (b : Bool). cond b (count + 1) count) (lt-ltb count most low) in omega (arith, f, low)
  | inr high ↦ let f : n ≡ count = e ∙ ap (λ (b : Bool). cond b (count + 1) count) (le-ltb count most high) in omega (arith, f, le)
]

-- a log that keeps some deadlocks searches for cycles of n sessions
sized : (n : ℕ) (a : Inside) (v : LogView) → log_view_of a ≡ v → IsLogFor n v → 0 < length a.slots.items → a.search.sessions ≡ n
sized n a v is h some = ap (λ (l : LogView). l.sessions) is ∙ h (omega (arith, some, ap (λ (l : LogView). l.most) is))

pub refill-requires-clause-room : goal.refill-requires-clause-room
refill-requires-clause-room c = λ k d lt.
    let a = c.self.inside in
    let some : 0 < length a.slots.items = omega (arith, lt) in
    let n = sized _ a c.args.self.now c.self.view_is c.requires.log some in
    let few = cycle-few c.edges.result.now _ c.find.new.self.cycle (c.if-not-find.ensures.cycle refl) in
    let rows = ap (λ r. r.sessions) c.edges.ensures in
    let room = c.self.invariant.room k d lt in
    omega (arith, few, rows, n, c.requires.may_serve.ready.long, room, ap length c.cycle.ensures)

pub invariant_of-self-2 : goal.invariant_of-self-2
invariant_of-self-2 c =
    let a = c.self.inside in
    let slots = c.refill.ensures.slots in
    let new = c.refill.new.slots in
    let some : 0 < length a.slots.items = omega (arith, not-none _ (sym c.is_empty.ensures ∙ c.if-is_empty.false), a.slots.ok.0) in
    let long : length new.items ≡ length a.slots.items = omega (arith, ap length slots.1, length-append (drop 1 a.slots.items) (slots.0 ∷ []), length-drop 1 a.slots.items, some) in
    record {
      few = one-more-few a.count (length new.items) _ (c.one_more-self-inside.ensures ∙ ap (λ (n : ℕ). cond (ltb a.count n) (a.count + 1) a.count) (c.len.ensures ∙ new.ok.0)) (omega (arith, long, c.self.invariant.few));
      room = subst (λ (n : ℕ). All (λ (d : Deadlock). n ≤ vec_capacity d.cycle) new.items) (sym c.find.ensures.sessions) (c.refill.ensures.room a.search.sessions c.self.invariant.room);
      copy = subst (λ (n : ℕ). IsCopyFor n a.copy) (sym c.find.ensures.sessions) c.self.invariant.copy;
    }

pub returns-clause-told : goal.returns-clause-told
returns-clause-told c = λ st i h v.
    let a = c.self.inside in
    let slots = c.refill.ensures.slots in
    let new = c.refill.new.slots in
    let some : 0 < length a.slots.items = omega (arith, not-none _ (sym c.is_empty.ensures ∙ c.if-is_empty.false), a.slots.ok.0) in
    let first = ap (λ (ps : List ℕ). get_or ps 0 0) c.cycle.ensures ∙ (c.if-not-find.ensures.cycle refl).first in
    let own = v ∙ omega (arith, first, c.position_of.ensures, c.requires.may_serve.session.some) in
    subst (λ (l : LogView). HasTold (record { place = c.args.place; session = c.args.session; state = st } ∷ []) l (log_view_of (record { slots = new; count = c.one_more-self-inside.result; search = c.find.new.self; copy = a.copy; counts = a.counts }))) c.self.view_is
    (told-slot a.slots.items new.items a.count c.one_more-self-inside.result a.search.sessions c.find.new.self.sessions a.counts _ slots.0 some c.self.invariant.few slots.1
    (c.one_more-self-inside.ensures ∙ ap (λ (n : ℕ). cond (ltb a.count n) (a.count + 1) a.count) (c.len.ensures ∙ new.ok.0)) (slots.2 st i h own))
