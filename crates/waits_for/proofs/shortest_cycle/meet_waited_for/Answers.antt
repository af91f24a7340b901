use Rattle.std.proofs.Common.{◌≡◌, ◌+◌, ◌<◌, ◌≤◌, ℕ, [], ◌∷◌, ◌++◌, List, true, eqb, length, get_or, inl, inr, sym, ap, ◌∙◌, subst, refl, arith}
use Rattle.std.specs.List.{list_any}
use Rattle.std.proofs.lemmas.Bool.{cases_lt, or_left, or_right, eq-eqb}
use Rattle.std.proofs.lemmas.List.{get_or_read}
use Rattle.waits_for.specs.Pairs.{Pairs, pairs_of}
use Rattle.waits_for.specs.Marks.{Marking, is_marked}
use Rattle.waits_for.proofs.Places.{pairs_of-within}
use Rattle.waits_for.specs.inner.CycleMeeting.{IsMeeting, HasKept}
use Rattle.waits_for.proofs.CycleMeeting.{any-at, any-push, met-room, met-more, behind-more, kept-same, kept-more}
use Rattle.waits_for.proofs.shortest_cycle.meet_waited_for.Goals as goal

pub first_unmarked-requires-clause-t_below : goal.first_unmarked-requires-clause-t_below
first_unmarked-requires-clause-t_below c =
    let met = c.args.met.now.items in
    let is = get_or_read met c.args.at c.index-position.result.now c.requires.at_below c.index-position.ensures 0 in
    let below = c.requires.meeting.within (get_or met c.args.at 0) (any-at met c.args.at c.requires.at_below) in
    omega (arith, is, below)

pub loop-u-init : goal.loop-u-init
loop-u-init c = record {
  meeting = c.requires.meeting;
  behind = c.requires.behind;
  met = kept-same c.args.met.now.items;
  parents = kept-same c.args.parents.now.items;
  all = λ u lt. absurd (omega (arith, lt));
  sessions = refl;
  met_room = refl;
  parents_room = refl;
}

pub mark-requires : goal.mark-requires
mark-requires c =
    let within = pairs_of-within c.args.rows.now c.index-position.result.now c.in-Some.u c.in-Some.ensures.some.1 in
    omega (arith, within.1, c.loop-u.invariant.sessions, c.requires.sessions)

pub push_reserved-requires : goal.push_reserved-requires
push_reserved-requires c =
    let h = c.loop-u.invariant in
    let within = pairs_of-within c.args.rows.now c.index-position.result.now c.in-Some.u c.in-Some.ensures.some.1 in
    let room = met-room c.args.rows.now c.loop-u.met.items c.loop-u.parents.items c.loop-u.marks c.in-Some.u h.meeting within.1 c.in-Some.ensures.some.2 in
    omega (arith, room, c.requires.met_room, h.met_room, c.loop-u.met.ok.0)

pub push_reserved-requires-in-Some : goal.push_reserved-requires-in-Some
push_reserved-requires-in-Some c =
    let h = c.loop-u.invariant in
    let within = pairs_of-within c.args.rows.now c.index-position.result.now c.in-Some.u c.in-Some.ensures.some.1 in
    let room = met-room c.args.rows.now c.loop-u.met.items c.loop-u.parents.items c.loop-u.marks c.in-Some.u h.meeting within.1 c.in-Some.ensures.some.2 in
    omega (arith, room, c.requires.parents_room, h.parents_room, c.loop-u.parents.ok.0, h.meeting.long)

pub overflow_add-from : goal.overflow_add-from
overflow_add-from c =
    let within = pairs_of-within c.args.rows.now c.index-position.result.now c.in-Some.u c.in-Some.ensures.some.1 in
    omega (arith, within.1, c.requires.met_room, c.args.met.now.small)

-- Those that the position waits for, up to one that is found, are met with it.
all-more : (p : Pairs) (v w from u : ℕ) (met : List ℕ) (marks : Marking) → ((a : ℕ) → is_marked marks a ≡ list_any (eqb a) met) → v ≡ w → ((a : ℕ) → a < from → pairs_of p v a ≡ true → list_any (eqb a) met ≡ true)
    → ((a : ℕ) → from ≤ a → a < u → pairs_of p w a ≡ true → is_marked marks a ≡ true) → (a : ℕ) → a < u + 1 → pairs_of p v a ≡ true → list_any (eqb a) (met ++ u ∷ []) ≡ true
all-more p v w from u met marks marked same before least a lt edge = any-push a u met ∙ elim (cases_lt a u) [
  | inr high ↦ let is : a ≡ u = omega (arith, lt, high) in or_right (list_any (eqb a) met) (eqb a u) (eq-eqb a u is)
  | inl low ↦ or_left (list_any (eqb a) met) (eqb a u) (elim (cases_lt a from) [
    | inl first ↦ before a first edge
    | inr later ↦ sym (marked a) ∙ least a later low (ap (λ (x : ℕ). pairs_of p x a) (sym same) ∙ edge)
  ])
]

pub loop-u-preserved : goal.loop-u-preserved
loop-u-preserved c =
    let h = c.loop-u.invariant in
    let p = c.args.rows.now in
    let start = c.args.met.now.items in
    let met = c.loop-u.met.items in
    let parents = c.loop-u.parents.items in
    let marks = c.loop-u.marks in
    let new = c.mark.new.self in
    let u = c.in-Some.u in
    let at = c.args.at in
    let is : get_or start at 0 ≡ c.index-position.result.now = sym (get_or_read start at c.index-position.result.now c.requires.at_below c.index-position.ensures 0) in
    let lt : at < length met = omega (arith, c.requires.at_below, h.met.long) in
    let edge = ap (λ (x : ℕ). pairs_of p x u) (h.met.same at c.requires.at_below ∙ is) ∙ c.in-Some.ensures.some.1 in
    let met_is = sym c.push_reserved.ensures.items in
    let parents_are = sym c.push_reserved-in-Some.ensures.items in
    record {
      meeting = subst (λ (ms : List ℕ). IsMeeting p ms c.push_reserved-in-Some.new.self.items new) met_is
          (subst (λ (ns : List ℕ). IsMeeting p (met ++ u ∷ []) ns new) parents_are
          (met-more p met parents marks new u at h.meeting c.in-Some.ensures.some.2 c.mark.ensures.marks lt h.behind edge));
      behind = subst (λ (ms : List ℕ). (j : ℕ) → j < length ms → get_or c.push_reserved-in-Some.new.self.items j 0 ≤ at) met_is
          (subst (λ (ns : List ℕ). (j : ℕ) → j < length (met ++ u ∷ []) → get_or ns j 0 ≤ at) parents_are
          (behind-more p met parents marks new u at h.meeting c.in-Some.ensures.some.2 c.mark.ensures.marks lt h.behind edge));
      met = subst (HasKept start) met_is (kept-more start met u h.met);
      parents = subst (HasKept c.args.parents.now.items) parents_are (kept-more c.args.parents.now.items parents at h.parents);
      all = subst (λ (ms : List ℕ). (a : ℕ) → a < u + 1 → pairs_of p (get_or start at 0) a ≡ true → list_any (eqb a) ms ≡ true) met_is
          (all-more p (get_or start at 0) c.index-position.result.now c.loop-u.from u met marks h.meeting.marked is h.all c.in-Some.ensures.least);
      sessions = c.mark.ensures.sessions ∙ h.sessions;
      met_room = c.push_reserved.ensures.capacity ∙ h.met_room;
      parents_room = c.push_reserved-in-Some.ensures.capacity ∙ h.parents_room;
    }

pub loop-u-smaller : goal.loop-u-smaller
loop-u-smaller c =
    let within = pairs_of-within c.args.rows.now c.index-position.result.now c.in-Some.u c.in-Some.ensures.some.1 in
    omega (arith, within.1, c.in-Some.ensures.some.0)

pub returns-clause-all : goal.returns-clause-all
returns-clause-all c u edge =
    let h = c.loop-u.invariant in
    let start = c.args.met.now.items in
    let is : get_or start c.args.at 0 ≡ c.index-position.result.now = sym (get_or_read start c.args.at c.index-position.result.now c.requires.at_below c.index-position.ensures 0) in
    elim (cases_lt u c.loop-u.from) [
      | inl low ↦ h.all u low edge
      | inr high ↦ sym (h.meeting.marked u) ∙ c.in_default.ensures.none u high (ap (λ (x : ℕ). pairs_of c.args.rows.now x u) (sym is) ∙ edge)
    ]
