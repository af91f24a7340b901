-- The cycle that is told of a deadlock is one of the state.
use Rattle.std.proofs.Common.{◌≡◌, ◌≢◌, ℕ, ◌+◌, ◌-◌, ◌<◌, ◌≤◌, inl, inr, Bool, true, cond, eqb, ltb, List, [], ◌∷◌, ◌++◌, length, length-append, get_or, map, take, drop, Option, Some, None, refl, sym, ◌∙◌, ap, arith, subst}
use Rattle.std.specs.List.{IsDistinct}
use Rattle.std.proofs.lemmas.Bool.{cases_lt, lt-ltb, le-ltb, ne_eqb, eqb-false}
use Rattle.std.proofs.lemmas.List.{map-append, take_more, get_or-map, drop-append-le, drop-drop, length-drop, length-map}
use Rattle.std.proofs.lemmas.Map.Keys.{IsDistinct-from_apart, apart_from_distinct}
use Rattle.waits_for.specs.Pairs.{pairs_of}
use Rattle.waits_for.specs.Cycles.{IsCycle}
use Rattle.lock_rules.specs.State as rules
use Rattle.lock_rules.specs.Waits.{waits_for, victim_of}
use Rattle.lock_rules.specs.Listing.{listed_as, kind_of_request, listed_request, waiting_line}
use Rattle.lock_rules.specs.declared.listing.Claim.{Claim as ListedClaim}
use Rattle.lock_rules.specs.Sound.{IsSound}
use Rattle.lock_rules.proofs.Alters.{waits_for-waits}
use Rattle.lock_rules.proofs.Lists.{request_of-session}
use Rattle.lock_rules.proofs.Settle.{has-waits}
use Rattle.lock_table.specs.Deadlocks.{Moment}
use Rattle.lock_desk.specs.Deadlocks.{IsMember, AreMembers, IsCycleTold, IsDeadlockTold, first_session}
use Rattle.lock_desk.specs.declared.deadlock_log.Deadlock.{Deadlock}
use Rattle.lock_desk.specs.declared.wait_counts.WaitCounts.{WaitCounts}
use Rattle.lock_desk.specs.inner.Noting.{LogView, HasTold}
use Rattle.lock_desk.specs.declared.deadlock_log.Member.{Member}
use Rattle.lock_table.specs.declared.table.LockTable.{LockTable}
use Rattle.lock_table.specs.Changes.{IsWhole}
use Rattle.lock_table.specs.Ready.{IsReadyTable}
use Rattle.lock_table.specs.Shows.{Shows}
use Rattle.lock_table.proofs.WaitsOfTheState.{pairs-shown}
use Rattle.lock_desk.proofs.DeadlocksTold.{told-in_room, told-instead}

-- the request of a session

-- the line of a session's request is its own
pub line-session : (st : rules.State) (s : ℕ) (q : ListedClaim) → waiting_line st s ≡ Some q → q.session ≡ s
line-session st s q e = go (rules.request_of s st.table.requests) refl e
  where
    go : (o : Option rules.Claim) → rules.request_of s st.table.requests ≡ o → listed_request st o ≡ Some q → q.session ≡ s
    go None is f = absurd (cc)
    go (Some p) is f = sym (own f) ∙ request_of-session s st.table.requests p is
      where
        own : Some (listed_as st (kind_of_request st p) p) ≡ Some q → p.session ≡ q.session
        own g = cc

-- a session that waits for another has a line
pub line-some : (st : rules.State) (s u : ℕ) → waits_for st.table s u ≡ true → waiting_line st s ≡ None → ⊥
line-some st s u w none =
    let r = has-waits s st.table.requests (waits_for-waits st.table s u w) in
    go r.0 (sym (ap (listed_request st) r.1) ∙ none)
  where
    go : (q : rules.Claim) → listed_request st (Some q) ≡ None → ⊥
    go q e = absurd (cc)

-- the members of a cycle

-- the session of a member
abbrev pub session_of : Member → ℕ
session_of m = m.request.session

-- one more member, for whom the last one waited
pub members-push : (st : rules.State) (ms : List Member) (s : ℕ) (m : Member) (next : ℕ) → AreMembers st ms s → session_of m ≡ s → IsMember st next m → AreMembers st (ms ++ m ∷ []) next
members-push st [] s m next h is k = (k, tt)
members-push st (x ∷ ms) s m next h is k = (first ms h.0, members-push st ms s m next h.1 is k)
  where
    first : (ms : List Member) → IsMember st (first_session ms s) x → IsMember st (first_session (ms ++ m ∷ []) next) x
    first [] i = subst (λ (u : ℕ). IsMember st u x) (sym is) i
    first (y ∷ ms) i = i

-- the session behind the first k positions of a cycle
abbrev pub session_behind : List ℕ → ℕ → ℕ
session_behind ps k = get_or ps (cond (ltb k (length ps)) k 0) 0 + 1

-- the first k positions of a cycle are told
pub record AreFirstTold (st : rules.State) (ps : List ℕ) (k : ℕ) (ms : List Member) : Type 0 where
  pub sessions : map session_of ms ≡ map (λ p. p + 1) (take k ps)
  pub members : AreMembers st ms (session_behind ps k)

-- none yet
pub first-none : (st : rules.State) (ps : List ℕ) → AreFirstTold st ps 0 []
first-none st ps = record { sessions = refl; members = tt }

-- one more
pub first-more : (st : rules.State) (ps : List ℕ) (k : ℕ) (ms : List Member) (m : Member) → k < length ps → AreFirstTold st ps k ms → session_of m ≡ get_or ps k 0 + 1 → IsMember st (session_behind ps (k + 1)) m → AreFirstTold st ps (k + 1) (ms ++ m ∷ [])
first-more st ps k ms m lt h is i = record {
  sessions =
      map-append session_of ms (m ∷ [])
      ∙ ((λ j. h.sessions j ++ is j ∷ [])
      ∙ (sym (map-append (λ (p : ℕ). p + 1) (take k ps) (get_or ps k 0 ∷ []))
      ∙ ap (map (λ (p : ℕ). p + 1)) (sym (take_more ps k 0 lt))));
  members = members-push st ms (session_behind ps k) m (session_behind ps (k + 1)) h.members (is ∙ ap (λ (b : Bool). get_or ps (cond b k 0) 0 + 1) (sym (lt-ltb k (length ps) lt))) i;
}

-- each session on the cycle waits for the one behind it
pub waits-behind : (d : LockTable) → IsWhole d → IsReadyTable d → (ps : List ℕ) → IsCycle (pairs_of d.waits.rows) (get_or ps 0 0) ps → (st : rules.State) → IsSound st.table → Shows d st → (k : ℕ) → k < length ps → waits_for st.table (get_or ps k 0 + 1) (session_behind ps (k + 1)) ≡ true
waits-behind d w r ps c st i h k lt = elim (cases_lt (k + 1) (length ps)) [
  | inl low ↦ sym (same (get_or ps k 0) (get_or ps (cond (ltb (k + 1) (length ps)) (k + 1) 0) 0)) ∙ (ap (λ (b : Bool). pairs_of d.waits.rows (get_or ps k 0) (get_or ps (cond b (k + 1) 0) 0)) (lt-ltb (k + 1) (length ps) low) ∙ c.waits k low)
  | inr high ↦ sym (same (get_or ps k 0) (get_or ps (cond (ltb (k + 1) (length ps)) (k + 1) 0) 0)) ∙ (ap (λ (b : Bool). pairs_of d.waits.rows (get_or ps k 0) (get_or ps (cond b (k + 1) 0) 0)) (le-ltb (k + 1) (length ps) high) ∙ c.closed k (omega (arith, lt, high)))
]
  where
    same : (a b : ℕ) → pairs_of d.waits.rows a b ≡ waits_for st.table (a + 1) (b + 1)
    same a b = r.filled.pairs a b ∙ pairs-shown d st w i h (a + 1) (b + 1)

-- the index behind one on a cycle is one on it
pub behind-within : (n k : ℕ) → k < n → cond (ltb (k + 1) n) (k + 1) 0 < n
behind-within n k lt = elim (cases_lt (k + 1) n) [
  | inl low ↦ rw (lt-ltb (k + 1) n low) low
  | inr high ↦ rw (le-ltb (k + 1) n high) (omega (arith, lt))
]

-- the first session of the members is the first of the cycle
first-of : (ms : List Member) (ps : List ℕ) → map session_of ms ≡ map (λ p. p + 1) ps → 0 < length ps → (first_session ms 0 ≡ get_or ps 0 0 + 1) × (ms ≢ [])
first-of [] [] e some = absurd (omega (arith, some))
first-of (m ∷ ms) [] e some = absurd (omega (arith, some))
first-of [] (p ∷ ps) e some = absurd (let l = ap length e in omega (arith, l))
first-of (m ∷ ms) (p ∷ ps) e some = (ap (λ (xs : List ℕ). get_or xs 0 0) e, λ none. absurd (let l = ap length none in omega (arith, l)))

-- positions that differ are those of sessions that differ
once-up : (ps : List ℕ) → IsDistinct eqb ps → IsDistinct eqb (map (λ p. p + 1) ps)
once-up ps once = IsDistinct-from_apart eqb (map (λ p. p + 1) ps) (λ i j d lt in_it.
    let low : j < length ps = omega (arith, in_it, length-map ps (λ (p : ℕ). p + 1)) in
    let a = get_or-map (λ (p : ℕ). p + 1) ps i 0 d (omega (arith, lt, low)) in
    let b = get_or-map (λ (p : ℕ). p + 1) ps j 0 d low in
    let apart = eqb-false (get_or ps i 0) (get_or ps j 0) (apart_from_distinct eqb ps i j 0 once lt low) in
    rw (a, b) (ne_eqb (get_or ps i 0 + 1) (get_or ps j 0 + 1) (λ e. apart (omega (arith, e)))))

-- the whole cycle is told
pub cycle-told : (d : LockTable) (ps : List ℕ) (st : rules.State) (s k : ℕ) (ms : List Member) → IsCycle (pairs_of d.waits.rows) (get_or ps 0 0) ps → k ≡ length ps → victim_of st s ≡ get_or ps 0 0 + 1 → AreFirstTold st ps k ms → IsCycleTold st s ms
cycle-told d ps st s k ms c all victim h =
    let whole : map session_of ms ≡ map (λ p. p + 1) ps = h.sessions ∙ ap (map (λ (p : ℕ). p + 1)) (ap (λ (n : ℕ). take n ps) all ∙ taken ps) in
    let f = first-of ms ps whole c.some in
    let behind : session_behind ps k ≡ victim_of st s = ap (λ (b : Bool). get_or ps (cond b k 0) 0 + 1) (le-ltb k (length ps) (omega (arith, all))) ∙ sym victim in
    record {
      victim = f.0 ∙ sym victim;
      some = f.1;
      members = subst (AreMembers st ms) behind h.members;
      once = subst (IsDistinct eqb) (sym whole) (once-up ps c.once);
    }
  where
    taken : (xs : List ℕ) → take (length xs) xs ≡ xs
    taken [] = refl
    taken (x ∷ xs) = ap (λ (ys : List ℕ). x ∷ ys) (taken xs)

-- the slots of a log

-- the newest slots, after one more is filled
pub slots-more : {X : Type 0} (n : ℕ) (xs : List X) (x : X) → n < length xs → drop (length (drop 1 xs ++ x ∷ []) - (n + 1)) (drop 1 xs ++ x ∷ []) ≡ drop (length xs - n) xs ++ x ∷ []
slots-more {X = X} n xs x lt =
    let len = length-append (drop 1 xs) (x ∷ []) in
    let one = length-drop 1 xs in
    let from : length (drop 1 xs ++ x ∷ []) - (n + 1) ≡ length xs - n - 1 = omega (arith, len, one, lt) in
    let back : 1 + (length xs - n - 1) ≡ length xs - n = omega (arith, lt) in
    ap (λ (k : ℕ). drop k (drop 1 xs ++ x ∷ [])) from
    ∙ (drop-append-le (length xs - n - 1) (drop 1 xs) (x ∷ []) (omega (arith, one, lt))
    ∙ ap (λ (ys : List X). ys ++ x ∷ []) (drop-drop (length xs - n - 1) 1 xs ∙ ap (λ (k : ℕ). drop k xs) back))

-- and after one is filled anew
pub slots-instead : {X : Type 0} (n : ℕ) (xs : List X) (x : X) → 0 < length xs → length xs ≡ n → drop (length (drop 1 xs ++ x ∷ []) - n) (drop 1 xs ++ x ∷ []) ≡ drop 1 (drop (length xs - n) xs) ++ x ∷ []
slots-instead n xs x some full =
    let len = length-append (drop 1 xs) (x ∷ []) in
    let one = length-drop 1 xs in
    let from : length (drop 1 xs ++ x ∷ []) - n ≡ 0 = omega (arith, len, one, some, full) in
    let none : length xs - n ≡ 0 = omega (arith, full) in
    ap (λ (k : ℕ). drop k (drop 1 xs ++ x ∷ [])) from
    ∙ ap (λ (k : ℕ). drop 1 (drop k xs) ++ x ∷ []) (sym none)

-- a deadlock is told in the slot of the oldest
pub told-slot : (slots new : List Deadlock) (count now sessions then_sessions : ℕ) (counts : WaitCounts) (m : Moment) (d : Deadlock) → 0 < length slots → count ≤ length slots → new ≡ drop 1 slots ++ d ∷ [] → now ≡ cond (ltb count (length new)) (count + 1) count → IsDeadlockTold m d
    → HasTold (m ∷ []) (record { most = length slots; sessions = sessions; told = drop (length slots - count) slots; counts = counts })
    (record { most = length new; sessions = then_sessions; told = drop (length new - now) new; counts = counts })
told-slot slots new count now sessions then_sessions counts m d some few is one told =
    elim (cases_lt count (length slots)) [
      | inl low ↦
          let up : now ≡ count + 1 = one ∙ ap (λ (b : Bool). cond b (count + 1) count) (lt-ltb count (length new) (omega (arith, long, low))) in
          told-in_room before after m d told long (omega (arith, length-drop (length slots - count) slots, low))
          (ap (λ (n : ℕ). drop (length new - n) new) up ∙ (ap (λ (xs : List Deadlock). drop (length xs - (count + 1)) xs) is ∙ slots-more count slots d low))
      | inr high ↦
          let stay : now ≡ count = one ∙ ap (λ (b : Bool). cond b (count + 1) count) (le-ltb count (length new) (omega (arith, long, high))) in
          let full : length slots ≡ count = omega (arith, few, high) in
          told-instead before after m d told long some (omega (arith, length-drop (length slots - count) slots, full))
          (ap (λ (n : ℕ). drop (length new - n) new) stay ∙ (ap (λ (xs : List Deadlock). drop (length xs - count) xs) is ∙ slots-instead count slots d some full))
    ]
  where
    before : LogView
    before = record { most = length slots; sessions = sessions; told = drop (length slots - count) slots; counts = counts }

    after : LogView
    after = record { most = length new; sessions = then_sessions; told = drop (length new - now) new; counts = counts }

    long : length new ≡ length slots
    long = omega (arith, ap length is, length-append (drop 1 slots) (d ∷ []), length-drop 1 slots, some)
