use Rattle.std.proofs.Common.{◌≡◌, ℕ, ◌+◌, ◌<◌, true, Bool, List, [], ◌∷◌, ◌++◌, length, get_or, take, drop, refl, sym, ap, subst, ◌∙◌, arith}
use Rattle.std.specs.Prelude.{bit_and, ◌↔◌, IsTrue}
use Rattle.std.proofs.lemmas.Bool.{and_from, false≢true}
use Rattle.std.proofs.lemmas.List.{take_at}
use Rattle.waits_for.specs.Pairs.{pairs_of}
use Rattle.waits_for.specs.Walks.{IsWalk, Reaches, AreOnCircle}
use Rattle.waits_for.specs.inner.Bits.{has_bit, words_for}
use Rattle.waits_for.specs.inner.CircleSearch.{Searched}
use Rattle.waits_for.specs.inner.Search.{HasAllWaiting, HasAllOnCircle, HasSearched, IsBestBelow}
use Rattle.waits_for.proofs.BitRows.{bit-and}
use Rattle.waits_for.proofs.Walks.{reaches-step, reaches-trans, reaches-within, waits-first}
use Rattle.waits_for.proofs.Youngest.{youngest-is, youngest-on_circle}
use Rattle.waits_for.proofs.circle_search.CircleSearch.youngest.Goals as goal

-- The sessions on a circle with t stay in the set that is kept for t when those that don't wait are taken out.
still-all : (pairs : ℕ → ℕ → Bool) (n searched : ℕ) (waiting items : List ℕ) (now : Searched) → record { sessions = n; searched = searched; circle = items } ≡ now → HasSearched pairs now.searched now.circle → HasAllWaiting pairs waiting
    → (given new : List ℕ) (len : ℕ) → given ≡ items → length new ≡ len → length new ≡ length given → length given ≡ length waiting → ((k : ℕ) → k < length new → get_or new k 0 ≡ bit_and (get_or given k 0) (get_or waiting k 0))
    → (t : ℕ) → searched ≡ t + 1 → HasAllOnCircle pairs t (take len (new ++ drop (length new) items))
still-all pairs n searched waiting items now view kept every given new len value long auto room each t is u h =
    let was = subst (λ (v : Searched). HasSearched pairs v.searched v.circle) (sym view) kept t is u h in
    let both = bit-and given waiting new auto room each u in
    rw (take_at new (drop (length new) items) len long) (both ∙ and_from (has_bit given u) (has_bit waiting u) (rw value was) (waits-first pairs waiting every u h.back.others t h.back.walk))

-- The set that is kept has as many words as that of the sessions that wait.
same-room : (n m : ℕ) (given items waiting : List ℕ) → given ≡ items → length items ≡ words_for n → n ≡ m → length waiting ≡ words_for m → length given ≡ length waiting
same-room n m given items waiting value room same wide = ap length value ∙ (room ∙ (ap words_for same ∙ sym wide))

-- If t waits directly for no session of the set, it is on no circle.
none-on : (pairs : ℕ → ℕ → Bool) (t : ℕ) (row set : List ℕ) → ((u : ℕ) → has_bit row u ≡ pairs t u) → HasAllOnCircle pairs t set → ((u : ℕ) → has_bit row u ≡ true → has_bit set u ≡ true → ⊥) → Reaches pairs t t → ⊥
none-on pairs t row set bits all none r = from r.others r.walk
  where
    from : (ws : List ℕ) → IsWalk pairs t ws t → ⊥
    from [] walk = none t (bits t ∙ walk) (all t (record { there = reaches-step pairs t t walk; back = reaches-step pairs t t walk }))
    from (w ∷ ws) walk = none w (bits w ∙ walk.0) (all w (record { there = reaches-step pairs t w walk.0; back = record { others = ws; walk = walk.1 } }))

pub youngest_at_hand-requires-clause-circle : goal.youngest_at_hand-requires-clause-circle
youngest_at_hand-requires-clause-circle c =
    let i = c.self.inside in
    let room = same-room i.sessions c.args.matrix.now.sessions c.deref_mut.result.now i.circle.items c.args.waiting.now c.deref_mut.ensures.value c.self.invariant.3 (ap (λ (v : Searched). v.sessions) c.self.view_is ∙ c.requires.sessions) c.requires.waiting_room in
    subst (HasAllOnCircle (pairs_of c.args.matrix.now) c.args.t) (sym c.deref-then-self-t.ensures.value)
    (still-all (pairs_of c.args.matrix.now) i.sessions i.searched c.args.waiting.now i.circle.items c.args.self.now c.self.view_is c.requires.searched c.requires.waiting
    c.deref_mut.result.now c.and_into.new.row i.circle.len c.deref_mut.ensures.value (c.and_into.auto.row ∙ c.deref_mut.ensures.len) c.and_into.auto.row room c.and_into.ensures c.args.t c.if-self-t.true)

pub returns-then-not-have_common-clause-on_circle : goal.returns-then-not-have_common-clause-on_circle
returns-then-not-have_common-clause-on_circle c =
    let i = c.self.inside in
    let room = same-room i.sessions c.args.matrix.now.sessions c.deref_mut.result.now i.circle.items c.args.waiting.now c.deref_mut.ensures.value c.self.invariant.3 (ap (λ (v : Searched). v.sessions) c.self.view_is ∙ c.requires.sessions) c.requires.waiting_room in
    let all = subst (HasAllOnCircle (pairs_of c.args.matrix.now) c.args.t) (sym c.deref.ensures.value)
    (still-all (pairs_of c.args.matrix.now) i.sessions i.searched c.args.waiting.now i.circle.items c.args.self.now c.self.view_is c.requires.searched c.requires.waiting
    c.deref_mut.result.now c.and_into.new.row i.circle.len c.deref_mut.ensures.value (c.and_into.auto.row ∙ c.deref_mut.ensures.len) c.and_into.auto.row room c.and_into.ensures c.args.t c.if-self-t.true) in (
      λ h. absurd (false≢true h),
      λ r. absurd (none-on (pairs_of c.args.matrix.now) c.args.t c.row.result.now c.deref.result.now c.row.ensures.bits all (λ u mine theirs. false≢true (sym c.if-not-have_common.true ∙ c.have_common.ensures.1 (u, mine, theirs))) r),
    )

pub returns-then-not-have_common-clause-searched : goal.returns-then-not-have_common-clause-searched
returns-then-not-have_common-clause-searched c =
    let i = c.self.inside in
    let room = same-room i.sessions c.args.matrix.now.sessions c.deref_mut.result.now i.circle.items c.args.waiting.now c.deref_mut.ensures.value c.self.invariant.3 (ap (λ (v : Searched). v.sessions) c.self.view_is ∙ c.requires.sessions) c.requires.waiting_room in
    still-all (pairs_of c.args.matrix.now) i.sessions i.searched c.args.waiting.now i.circle.items c.args.self.now c.self.view_is c.requires.searched c.requires.waiting
    c.deref_mut.result.now c.and_into.new.row i.circle.len c.deref_mut.ensures.value (c.and_into.auto.row ∙ c.deref_mut.ensures.len) c.and_into.auto.row room c.and_into.ensures

pub returns-in-Some-clause-on_circle : goal.returns-in-Some-clause-on_circle
returns-in-Some-clause-on_circle c =
    let on = c.in-Some.ensures.youngest.on_circle in
    let r = reaches-trans (pairs_of c.args.matrix.now) c.args.t c.in-Some.v c.args.t on.there on.back in
    (λ h. r, λ h. refl)

pub returns-in-Some-clause-searched : goal.returns-in-Some-clause-searched
returns-in-Some-clause-searched c =
    let i = c.self.inside in
    let room = same-room i.sessions c.args.matrix.now.sessions c.deref_mut.result.now i.circle.items c.args.waiting.now c.deref_mut.ensures.value c.self.invariant.3 (ap (λ (v : Searched). v.sessions) c.self.view_is ∙ c.requires.sessions) c.requires.waiting_room in
    still-all (pairs_of c.args.matrix.now) i.sessions i.searched c.args.waiting.now i.circle.items c.args.self.now c.self.view_is c.requires.searched c.requires.waiting
    c.deref_mut.result.now c.and_into.new.row i.circle.len c.deref_mut.ensures.value (c.and_into.auto.row ∙ c.deref_mut.ensures.len) c.and_into.auto.row room c.and_into.ensures

-- The set of the search's view is that which it keeps.
found-in : (pairs : ℕ → ℕ → Bool) (t n searched : ℕ) (items : List ℕ) (now : Searched) → record { sessions = n; searched = searched; circle = items } ≡ now → ((u : ℕ) → IsTrue (has_bit now.circle u) ↔ AreOnCircle pairs t u) → (u : ℕ) → IsTrue (has_bit items u) ↔ AreOnCircle pairs t u
found-in pairs t n searched items now view on = subst (λ (v : Searched). (u : ℕ) → IsTrue (has_bit v.circle u) ↔ AreOnCircle pairs t u) (sym view) on

pub returns-clause-on_circle : goal.returns-clause-on_circle
returns-clause-on_circle c =
    let s = c.self-2.inside in
    let on = found-in (pairs_of c.args.matrix.now) c.args.t s.sessions s.searched s.circle.items c.find.new.self c.self-2.view_is (c.find.ensures.circle c.if-not-find.false) in
    let best = subst (λ (set : List ℕ). IsBestBelow (has_bit set) c.args.ages.now (length c.args.ages.now) c.youngest_in.result) c.deref-2.ensures.value c.youngest_in.ensures in
    youngest-on_circle (pairs_of c.args.matrix.now) c.args.ages.now c.args.t s.circle.items (λ u. (on u).0) (λ u. (on u).1) (λ u h. omega (arith, reaches-within c.args.matrix.now c.args.t u h.there, c.requires.an_age_each)) c.youngest_in.result best

pub returns-clause-youngest : goal.returns-clause-youngest
returns-clause-youngest c =
    let s = c.self-2.inside in
    let on = found-in (pairs_of c.args.matrix.now) c.args.t s.sessions s.searched s.circle.items c.find.new.self c.self-2.view_is (c.find.ensures.circle c.if-not-find.false) in
    let best = subst (λ (set : List ℕ). IsBestBelow (has_bit set) c.args.ages.now (length c.args.ages.now) c.youngest_in.result) c.deref-2.ensures.value c.youngest_in.ensures in
    youngest-is (pairs_of c.args.matrix.now) c.args.ages.now c.args.t s.circle.items (λ u. (on u).0) (λ u. (on u).1) (λ u h. omega (arith, reaches-within c.args.matrix.now c.args.t u h.there, c.requires.an_age_each)) c.youngest_in.result best

pub returns-clause-searched : goal.returns-clause-searched
returns-clause-searched c t is u h =
    let s = c.self-2.inside in
    let e : c.args.t ≡ t = omega (arith, is) in
    (found-in (pairs_of c.args.matrix.now) c.args.t s.sessions s.searched s.circle.items c.find.new.self c.self-2.view_is (c.find.ensures.circle c.if-not-find.false) u).1 (rw e h)
