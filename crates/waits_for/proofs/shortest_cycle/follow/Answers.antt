use Rattle.std.proofs.Common.{◌≡◌, List, ℕ, [], ◌∷◌, ◌++◌, reverse, length, get_or, sym, ap, ◌∙◌, subst, refl, arith}
use Rattle.std.proofs.lemmas.List.{reverse-append, length-reverse}
use Rattle.waits_for.specs.Pairs.{pairs_of}
use Rattle.waits_for.specs.Cycles.{IsCycle}
use Rattle.waits_for.proofs.CycleFollowed.{IsFollowed, followed-begun, followed-room, followed-more, followed-cycle, followed-shortest}
use Rattle.waits_for.proofs.shortest_cycle.follow.Goals as goal

pub loop-at-init : goal.loop-at-init
loop-at-init c = record {
  followed = subst (IsFollowed c.args.rows.now c.args.met.now c.args.found c.args.found) (sym (ap reverse c.clear.ensures.items)) (followed-begun c.args.rows.now c.args.met.now c.args.parents.now c.args.found c.requires.looked c.requires.found c.requires.closed);
  room = refl;
}

pub push_reserved-requires : goal.push_reserved-requires
push_reserved-requires c =
    let k = c.loop-at.invariant in
    let path = reverse c.loop-at.cycle.items in
    let room = followed-room c.args.rows.now c.args.met.now c.args.parents.now c.requires.meeting.0 c.requires.meeting.1 c.args.found c.loop-at.at path k.followed in
    omega (arith, room, length-reverse c.loop-at.cycle.items, c.loop-at.cycle.ok.0, k.room, c.clear.ensures.capacity, c.requires.room)

pub loop-at-preserved : goal.loop-at-preserved
loop-at-preserved c =
    let k = c.loop-at.invariant in
    let cycle = c.loop-at.cycle.items in
    let u = get_or c.args.met.now c.loop-at.at 0 in
    record {
      followed = subst (IsFollowed c.args.rows.now c.args.met.now c.args.found (get_or c.args.parents.now c.loop-at.at 0)) (sym (ap reverse c.push_reserved.ensures.items ∙ reverse-append cycle (u ∷ [])))
          (followed-more c.args.rows.now c.args.met.now c.args.parents.now c.requires.meeting.0 c.requires.meeting.1 c.args.found c.loop-at.at (reverse cycle) k.followed c.requires.looked c.loop-at-test.true);
      room = c.push_reserved.ensures.capacity ∙ k.room;
    }

pub loop-at-smaller : goal.loop-at-smaller
loop-at-smaller c = c.requires.meeting.1.before c.loop-at.at c.loop-at-test.true c.loop-at.invariant.followed.within

pub push_reserved-requires-2 : goal.push_reserved-requires-2
push_reserved-requires-2 c =
    let k = c.loop-at.invariant in
    let path = reverse c.loop-at.cycle.items in
    let room = followed-room c.args.rows.now c.args.met.now c.args.parents.now c.requires.meeting.0 c.requires.meeting.1 c.args.found c.loop-at.at path k.followed in
    omega (arith, room, length-reverse c.loop-at.cycle.items, c.loop-at.cycle.ok.0, k.room, c.clear.ensures.capacity, c.requires.room)

-- The cycle, once it is turned round.
turned : (pushed new cycle : List ℕ) (t : ℕ) → pushed ≡ cycle ++ t ∷ [] → new ≡ reverse pushed → new ≡ t ∷ reverse cycle
turned pushed new cycle t push turn = turn ∙ (ap reverse push ∙ reverse-append cycle (t ∷ []))

pub returns-clause-cycle : goal.returns-clause-cycle
returns-clause-cycle c =
    let p = c.args.rows.now in
    let met = c.args.met.now in
    let t = get_or met 0 0 in
    let cycle = c.loop-at.cycle.items in
    let is = turned c.push_reserved-2.new.self.items c.reverse.new.self.items cycle t c.push_reserved-2.ensures.items c.reverse.ensures.items in
    let e : c.loop-at.at ≡ 0 = omega (arith, c.loop-at-test.false) in
    let followed = subst (λ (i : ℕ). IsFollowed p met c.args.found i (reverse cycle)) e c.loop-at.invariant.followed in
    subst (IsCycle (pairs_of p) t) (sym is) (followed-cycle p met c.args.parents.now c.requires.meeting.0 c.requires.meeting.1 c.args.found (reverse cycle) followed)

pub returns-clause-shortest : goal.returns-clause-shortest
returns-clause-shortest c other round =
    let p = c.args.rows.now in
    let met = c.args.met.now in
    let t = get_or met 0 0 in
    let cycle = c.loop-at.cycle.items in
    let is = turned c.push_reserved-2.new.self.items c.reverse.new.self.items cycle t c.push_reserved-2.ensures.items c.reverse.ensures.items in
    let e : c.loop-at.at ≡ 0 = omega (arith, c.loop-at-test.false) in
    let followed = subst (λ (i : ℕ). IsFollowed p met c.args.found i (reverse cycle)) e c.loop-at.invariant.followed in
    omega (arith, ap length is, followed-shortest p met c.args.found (reverse cycle) followed other round)
