use Rattle.std.proofs.Common.{◌≡◌, ◌<◌, ◌≤◌, List, ℕ, [], ◌∷◌, ◌++◌, length, get_or, sym, ap, ◌∙◌, subst, refl, arith}
use Rattle.std.proofs.lemmas.List.{get_or_read}
use Rattle.waits_for.specs.Pairs.{pairs_of}
use Rattle.waits_for.specs.inner.CycleMeeting.{IsMeeting}
use Rattle.waits_for.proofs.CycleMeeting.{any-at, met-begun, met-few, looked-more, looked-none}
use Rattle.waits_for.proofs.shortest_cycle.search.Goals as goal

pub loop-at-init : goal.loop-at-init
loop-at-init c =
    let p = c.args.rows.now in
    let t = c.args.t in
    let met_is = c.push_reserved.ensures.items ∙ ap (λ (xs : List ℕ). xs ++ t ∷ []) c.clear.ensures.items in
    let parents_are = c.push_reserved-2.ensures.items ∙ ap (λ (xs : List ℕ). xs ++ 0 ∷ []) c.clear-2.ensures.items in
    record {
      some = omega (arith, ap length met_is);
      first = ap (λ (xs : List ℕ). get_or xs 0 0) met_is;
      meeting = subst (λ (ms : List ℕ). IsMeeting p ms c.push_reserved-2.new.self.items c.mark.new.self) (sym met_is)
          (subst (λ (ns : List ℕ). IsMeeting p (t ∷ []) ns c.mark.new.self) (sym parents_are) (met-begun p t c.clear-3.new.self c.mark.new.self c.requires.t_below c.clear-3.ensures.none c.mark.ensures.marks));
      looked = record { few = omega arith; all = λ j u lt. absurd (omega (arith, lt)); not_closed = λ j lt. absurd (omega (arith, lt)) };
      behind = λ j lt. first_behind c.push_reserved-2.new.self.items parents_are j (omega (arith, lt, ap length met_is));
      sessions = refl;
      met_room = refl;
      parents_room = refl;
    }
  where
    first_behind : (xs : List ℕ) → xs ≡ 0 ∷ [] → (j : ℕ) → j < 1 → get_or xs j 0 ≤ 0
    first_behind xs is j lt =
        let z : j ≡ 0 = omega (arith, lt) in
        let e : get_or xs 0 0 ≡ 0 = ap (λ (ys : List ℕ). get_or ys 0 0) is in
        omega (arith, ap (λ (i : ℕ). get_or xs i 0) z, e)

pub waits-requires-clause-t_below : goal.waits-requires-clause-t_below
waits-requires-clause-t_below c =
    let met = c.loop-at.met.items in
    let lt : c.loop-at.at < length met = omega (arith, c.loop-at-test.true, c.len.ensures, c.loop-at.met.ok.0) in
    let is = get_or_read met c.loop-at.at c.index.result.now lt c.index.ensures 0 in
    let below = c.loop-at.invariant.meeting.within (get_or met c.loop-at.at 0) (any-at met c.loop-at.at lt) in
    omega (arith, is, below)

pub returns-then-waits-clause-closed : goal.returns-then-waits-clause-closed
returns-then-waits-clause-closed c =
    let met = c.loop-at.met.items in
    let lt : c.loop-at.at < length met = omega (arith, c.loop-at-test.true, c.len.ensures, c.loop-at.met.ok.0) in
    let is = get_or_read met c.loop-at.at c.index.result.now lt c.index.ensures 0 in
    ap (λ (v : ℕ). pairs_of c.args.rows.now v c.args.t) (sym is) ∙ (sym c.waits.ensures.pairs ∙ c.if-waits.true)

pub loop-at-preserved : goal.loop-at-preserved
loop-at-preserved c =
    let h = c.loop-at.invariant in
    let k = c.meet_waited_for.ensures in
    let met = c.loop-at.met.items in
    let lt : c.loop-at.at < length met = omega (arith, c.loop-at-test.true, c.len.ensures, c.loop-at.met.ok.0) in
    let is = get_or_read met c.loop-at.at c.index.result.now lt c.index.ensures 0 in
    let apart = ap (λ (v : ℕ). pairs_of c.args.rows.now v c.args.t) (sym is) ∙ (sym c.waits.ensures.pairs ∙ c.if-waits.false) in
    record {
      some = omega (arith, h.some, k.met.long);
      first = k.met.same 0 h.some ∙ h.first;
      meeting = k.meeting;
      looked = looked-more c.args.rows.now c.args.t met c.meet_waited_for.new.met.items c.loop-at.parents.items c.meet_waited_for.new.parents.items c.loop-at.at h.looked lt h.meeting.long k.met k.parents apart k.all k.behind;
      behind = λ j in_it. omega (arith, k.behind j in_it);
      sessions = k.sessions ∙ h.sessions;
      met_room = k.met_room ∙ h.met_room;
      parents_room = k.parents_room ∙ h.parents_room;
    }

pub loop-at-smaller : goal.loop-at-smaller
loop-at-smaller c =
    let few = met-few c.args.rows.now c.loop-at.met.items c.loop-at.parents.items c.loop-at.marks c.loop-at.invariant.meeting in
    omega (arith, few, c.loop-at-test.true, c.len.ensures, c.loop-at.met.ok.0)

pub returns-clause-none : goal.returns-clause-none
returns-clause-none c =
    let h = c.loop-at.invariant in
    looked-none c.args.rows.now c.args.t c.loop-at.met.items c.loop-at.parents.items c.loop-at.at h.some h.first h.looked (omega (arith, c.loop-at-test.false, c.len.ensures, c.loop-at.met.ok.0))
