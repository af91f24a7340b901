-- The row of a request can be made from that of an earlier request for the same mode.
use Rattle.std.proofs.Common.{◌≡◌, ℕ, zero, suc, ◌+◌, ◌-◌, ◌<◌, ◌≤◌, Bool, true, false, cond, not, eqb, ◌&&◌, ◌||◌, List, [], ◌∷◌, length, get_or, take, drop, Some, refl, sym, ◌∙◌, ap, arith}
use Rattle.std.proofs.lemmas.Bool.{or_parts, or_right}
use Rattle.std.proofs.Math.Bool.{or_assoc}
use Rattle.std.proofs.lemmas.Bool.Decides.{nat_tests, Decides-eqb}
use Rattle.std.proofs.lemmas.List.{get_or_default}
use Rattle.lock_modes.specs.declared.Mode.{Mode}
use Rattle.lock_modes.specs.Compatibility.{are_compatible}
use Rattle.lock_holders.specs.declared.session_mode.SessionMode.{SessionMode}
use Rattle.lock_table.specs.inner.Cells.{View}
use Rattle.lock_holders.specs.SessionModes.{has_session, mode_of, times, holder_blocks}
use Rattle.lock_table.specs.inner.Blocking.{target_blocks, view_blocks}
use Rattle.lock_table.proofs.WritingWaits.{stands-until}

-- a request at an index of the queue

-- a session that is behind the first request, and in the queue once, is not that of the first request
later : (w : SessionMode) (ws : List SessionMode) (i : ℕ) (d : SessionMode) → i < length ws → cond (eqb w.session (get_or ws i d).session) 1 0 + times (get_or ws i d).session ws ≤ 1 → (eqb w.session (get_or ws i d).session ≡ false) × (times (get_or ws i d).session ws ≤ 1)
later w ws i d lt h = go (eqb w.session (get_or ws i d).session) h (stands ws i lt)
  where
    stands : (xs : List SessionMode) (k : ℕ) → k < length xs → 1 ≤ times (get_or xs k d).session xs
    stands [] k lt = absurd (omega arith)
    stands (x ∷ xs) zero lt = let e = (Decides-eqb x.session x.session).1 refl in let f = ap {B = ℕ} (λ (b : Bool). cond b 1 0) e in omega (arith, f)
    stands (x ∷ xs) (suc k) lt = omega (arith, stands xs k (omega arith))

    go : (b : Bool) → cond b 1 0 + times (get_or ws i d).session ws ≤ 1 → 1 ≤ times (get_or ws i d).session ws → (b ≡ false) × (times (get_or ws i d).session ws ≤ 1)
    go true h k = absurd (omega (arith, h, k))
    go false h k = (refl, omega (arith, h))

-- the mode of a session that is in the queue once is that at its index
mode-at : (ws : List SessionMode) (i : ℕ) (d : SessionMode) → i < length ws → times (get_or ws i d).session ws ≤ 1 → mode_of (get_or ws i d).session ws ≡ Some (get_or ws i d).mode
mode-at [] i d lt h = absurd (omega arith)
mode-at (w ∷ ws) zero d lt h = ap (λ (b : Bool). cond b (Some w.mode) (mode_of w.session ws)) ((Decides-eqb w.session w.session).1 refl)
mode-at (w ∷ ws) (suc i) d lt h =
    let l = later w ws i d (omega arith) h in
    ap (λ (b : Bool). cond b (Some w.mode) (mode_of (get_or ws i d).session ws)) l.0 ∙ mode-at ws i d (omega arith) l.1

-- a session that is in the queue once is not among those ahead of its index
pub not-ahead : (ws : List SessionMode) (i : ℕ) (d : SessionMode) → i < length ws → times (get_or ws i d).session ws ≤ 1 → has_session (get_or ws i d).session (take i ws) ≡ false
not-ahead [] i d lt h = absurd (omega arith)
not-ahead (w ∷ ws) zero d lt h = refl
not-ahead (w ∷ ws) (suc i) d lt h =
    let l = later w ws i d (omega arith) h in
    ap (λ (b : Bool). b || has_session (get_or ws i d).session (take i ws)) l.0 ∙ not-ahead ws i d (omega arith) l.1

-- the session at an index is ahead of those behind it
ahead : (ws : List SessionMode) (j i : ℕ) (d : SessionMode) → j < i → i < length ws → has_session (get_or ws j d).session (take i ws) ≡ true
ahead [] j i d lt k = absurd (omega arith)
ahead (w ∷ ws) j zero d lt k = absurd (omega arith)
ahead (w ∷ ws) zero (suc i) d lt k = ap (λ (b : Bool). b || has_session w.session (take i ws)) ((Decides-eqb w.session w.session).1 refl)
ahead (w ∷ ws) (suc j) (suc i) d lt k = or_right (eqb w.session (get_or ws j d).session) (has_session (get_or ws j d).session (take i ws)) (ahead ws j i d (omega arith) (omega arith))

-- bits that are false change nothing
or-none : (o : Bool) → ((o || false) || false) ≡ (o || false)
or-none true = refl
or-none false = refl

-- the requests ahead of one, and those from it up to a second, are all ahead of the second
pub between : (u : ℕ) (ws : List SessionMode) (j i : ℕ) → j ≤ i → (has_session u (take j ws) || has_session u (take (i - j) (drop j ws))) ≡ has_session u (take i ws)
between u ws zero i le = let e : i - 0 ≡ i = omega arith in ap (λ (k : ℕ). has_session u (take k ws)) e
between u [] (suc j) zero le = absurd (omega arith)
between u [] (suc j) (suc i) le = nobody (suc i - suc j)
  where
    nobody : (k : ℕ) → has_session u (take {A = SessionMode} k []) ≡ false
    nobody zero = refl
    nobody (suc k) = refl
between u (w ∷ ws) (suc j) zero le = absurd (omega arith)
between u (w ∷ ws) (suc j) (suc i) le =
    let e : suc i - suc j ≡ i - j = omega arith in
    ap (λ (k : ℕ). (eqb w.session u || has_session u (take j ws)) || has_session u (take k (drop j ws))) e
    ∙ (or_assoc (eqb w.session u) (has_session u (take j ws)) (has_session u (take (i - j) (drop j ws))) ∙ ap (λ (b : Bool). eqb w.session u || b) (between u ws j i (omega arith)))

-- a session among the first requests is in the queue
pub has-take : (s : ℕ) (ws : List SessionMode) (i : ℕ) → has_session s (take i ws) ≡ true → has_session s ws ≡ true
has-take s [] zero h = h
has-take s [] (suc i) h = h
has-take s (w ∷ ws) zero h = absurd (cc)
has-take s (w ∷ ws) (suc i) h = go (eqb w.session s) h (has-take s ws i)
  where
    go : (b : Bool) → (b || has_session s (take i ws)) ≡ true → (has_session s (take i ws) ≡ true → has_session s ws ≡ true) → (b || has_session s ws) ≡ true
    go true h next = refl
    go false h next = next h

-- the sessions of the first requests and of the next one
has-next : (s : ℕ) (ws : List SessionMode) (i : ℕ) (d : SessionMode) → i < length ws → has_session s (take (suc i) ws) ≡ (has_session s (take i ws) || eqb s (get_or ws i d).session)
has-next s [] i d lt = absurd (omega arith)
has-next s (w ∷ ws) zero d lt = first (eqb w.session s) (eqb s w.session) (turn w.session s)
  where
    turn : (a b : ℕ) → eqb a b ≡ eqb b a
    turn a b = grind (arith, nat_tests)

    first : (a b : Bool) → a ≡ b → (a || false) ≡ (false || b)
    first true b e = e
    first false b e = e
has-next s (w ∷ ws) (suc i) d lt = ap (λ (b : Bool). eqb w.session s || b) (has-next s ws i d (omega arith)) ∙ sym (or_assoc (eqb w.session s) (has_session s (take i ws)) (eqb s (get_or ws i d).session))

-- with one more row, those of the first requests and of the next one are written
pub written-next : (s : ℕ) (ws : List SessionMode) (i : ℕ) (d : SessionMode) → i < length ws → (old here : Bool) → ((old || (has_session s (take i ws) && here)) || (eqb s (get_or ws i d).session && here)) ≡ (old || (has_session s (take (i + 1) ws) && here))
written-next s ws i d lt old here =
    let e : suc i ≡ i + 1 = omega arith in
    parts old (has_session s (take i ws)) (eqb s (get_or ws i d).session) here ∙ ap (λ (b : Bool). old || (b && here)) (sym (has-next s ws i d lt) ∙ ap (λ (k : ℕ). has_session s (take k ws)) e)
  where
    parts : (o t e h : Bool) → ((o || (t && h)) || (e && h)) ≡ (o || ((t || e) && h))
    parts true t e h = refl
    parts false true true true = refl
    parts false true true false = refl
    parts false true false true = refl
    parts false true false false = refl
    parts false false e h = refl

-- the holders

-- no session blocks itself as a holder
blocks-self : (s : ℕ) (m : Mode) (hs : List SessionMode) → holder_blocks s m s hs ≡ false
blocks-self s m [] = refl
blocks-self s m (h ∷ hs) = go (eqb h.session s) (blocks-self s m hs)
  where
    go : (b : Bool) → holder_blocks s m s hs ≡ false → ((b && (not b && not (are_compatible m h.mode))) || holder_blocks s m s hs) ≡ false
    go true n = n
    go false n = n

-- two requests for one mode are blocked by the same holders, not counting their own sessions
blocks-others : (s t u : ℕ) (m : Mode) (hs : List SessionMode) → eqb u s ≡ false → eqb u t ≡ false → holder_blocks s m u hs ≡ holder_blocks t m u hs
blocks-others s t u m [] a b = refl
blocks-others s t u m (h ∷ hs) a b = go (eqb h.session u) refl (blocks-others s t u m hs a b)
  where
    go : (c : Bool) → eqb h.session u ≡ c → holder_blocks s m u hs ≡ holder_blocks t m u hs
        → ((c && (not (eqb h.session s) && not (are_compatible m h.mode))) || holder_blocks s m u hs) ≡ ((c && (not (eqb h.session t) && not (are_compatible m h.mode))) || holder_blocks t m u hs)
    go true e next =
        let same = (Decides-eqb h.session u).0 e in
        let x : eqb h.session s ≡ false = ap (λ (k : ℕ). eqb k s) same ∙ a in
        let y : eqb h.session t ≡ false = ap (λ (k : ℕ). eqb k t) same ∙ b in
        ap (λ (k : Bool). (not k && not (are_compatible m h.mode)) || holder_blocks s m u hs) (x ∙ sym y) ∙ ap (λ (k : Bool). (not (eqb h.session t) && not (are_compatible m h.mode)) || k) next
    go false e next = next

-- a request is blocked by conflicting holders and by the sessions ahead of its index
blocks-at_place : (v : View) → ((s : ℕ) → times s v.waiting ≤ 1) → (k : ℕ) (c : SessionMode) → k < length v.waiting → c ≡ get_or v.waiting k c → (u : ℕ) → view_blocks c.session u v ≡ (holder_blocks c.session c.mode u v.holders || has_session u (take k v.waiting))
blocks-at_place v once k c within e u =
    let few : times (get_or v.waiting k c).session v.waiting ≤ 1 = once (get_or v.waiting k c).session in
    let none : has_session c.session (take k v.waiting) ≡ false = ap (λ (x : SessionMode). has_session x.session (take k v.waiting)) e ∙ not-ahead v.waiting k c within few in
    let mine : mode_of c.session v.waiting ≡ Some c.mode = ap (λ (x : SessionMode). mode_of x.session v.waiting) e ∙ (mode-at v.waiting k c within few ∙ ap (λ (x : SessionMode). Some x.mode) (sym e)) in
    ap (target_blocks c.session u v) mine ∙ ap (λ (b : Bool). holder_blocks c.session c.mode u v.holders || b) (stands-until c.session u v.waiting k c within (ap (λ (x : SessionMode). x.session) (sym e)) none)

-- a row of the conflicting holders and of those ahead is that of the request
module _ (v : View) (once : (s : ℕ) → times s v.waiting ≤ 1) (i : ℕ) (d e : SessionMode) (lt : i < length v.waiting) (old mid new : ℕ → ℕ → Bool) where
  -- the request whose row is written
  abbrev here : SessionMode
  here = get_or v.waiting i d

  -- so the row is that of this request
  pub seen-written : ((a b : ℕ) → mid a b ≡ (old a b || (eqb (a + 1) here.session && holder_blocks here.session here.mode (b + 1) v.holders))) → ((a b : ℕ) → new a b ≡ (mid a b || (eqb (a + 1) here.session && has_session (b + 1) (take i v.waiting))))
      → (a b : ℕ) → new a b ≡ (old a b || (eqb (a + 1) (get_or v.waiting i e).session && view_blocks (a + 1) (b + 1) v))
  seen-written held added a b =
      added a b ∙ (ap (λ (o : Bool). o || (eqb (a + 1) here.session && has_session (b + 1) (take i v.waiting))) (held a b)
      ∙ (go (eqb (a + 1) here.session) refl ∙ ap (λ (c : SessionMode). old a b || (eqb (a + 1) c.session && view_blocks (a + 1) (b + 1) v)) (get_or_default v.waiting i d e lt)))
    where
      go : (t : Bool) → eqb (a + 1) here.session ≡ t → ((old a b || (t && holder_blocks here.session here.mode (b + 1) v.holders)) || (t && has_session (b + 1) (take i v.waiting))) ≡ (old a b || (t && view_blocks (a + 1) (b + 1) v))
      go true f =
          or_assoc (old a b) (holder_blocks here.session here.mode (b + 1) v.holders) (has_session (b + 1) (take i v.waiting))
          ∙ ap (λ (o : Bool). old a b || o) (sym (blocks-at_place v once i here lt (get_or_default v.waiting i d here lt) (b + 1)) ∙ ap (λ (k : ℕ). view_blocks k (b + 1) v) (sym ((Decides-eqb (a + 1) here.session).0 f)))
      go false f = or-none (old a b)

-- two requests for one mode, the earlier one at index j, the later one at index i

module _ (v : View) (once : (s : ℕ) → times s v.waiting ≤ 1) (i j : ℕ) (q p : SessionMode) (lt : i < length v.waiting) (less : j < i) (at : q ≡ get_or v.waiting i q) (there : p ≡ get_or v.waiting j p) (mode : p.mode ≡ q.mode) where
  -- if the earlier one is not blocked by the later one's session, the later one is blocked by all that block the
  -- earlier one, by the earlier one, and by those between
  pub blocks-previous_same_mode : view_blocks p.session q.session v ≡ false → (u : ℕ) → (view_blocks p.session u v || has_session u (take (i - j) (drop j v.waiting))) ≡ view_blocks q.session u v
  blocks-previous_same_mode free u =
      ap (λ (b : Bool). b || has_session u (take (i - j) (drop j v.waiting))) (blocks-at_place v once j p (omega (arith, less, lt)) there u)
      ∙ (or_assoc (holder_blocks p.session p.mode u v.holders) (has_session u (take j v.waiting)) (has_session u (take (i - j) (drop j v.waiting)))
      ∙ (ap (λ (b : Bool). holder_blocks p.session p.mode u v.holders || b) (between u v.waiting j i (omega (arith, less)))
      ∙ (ap (λ (m : Mode). holder_blocks p.session m u v.holders || has_session u (take i v.waiting)) mode
      ∙ (same (eqb u q.session) (eqb u p.session) refl refl ∙ sym (blocks-at_place v once i q lt at u)))))
    where
      or-yes : (a b : Bool) → (a || true) ≡ (b || true)
      or-yes true true = refl
      or-yes true false = refl
      or-yes false true = refl
      or-yes false false = refl

      own : holder_blocks p.session q.mode q.session v.holders ≡ false
      own = (or_parts (holder_blocks p.session q.mode q.session v.holders) (has_session q.session (take j v.waiting)) (ap (λ (m : Mode). holder_blocks p.session m q.session v.holders || has_session q.session (take j v.waiting)) (sym mode) ∙ (sym (blocks-at_place v once j p (omega (arith, less, lt)) there q.session) ∙ free))).0

      same : (a b : Bool) → eqb u q.session ≡ a → eqb u p.session ≡ b → (holder_blocks p.session q.mode u v.holders || has_session u (take i v.waiting)) ≡ (holder_blocks q.session q.mode u v.holders || has_session u (take i v.waiting))
      same true b e f =
          let is = (Decides-eqb u q.session).0 e in
          ap (λ (k : Bool). k || has_session u (take i v.waiting)) (ap (λ (k : ℕ). holder_blocks p.session q.mode k v.holders) is ∙ (own ∙ sym (ap (λ (k : ℕ). holder_blocks q.session q.mode k v.holders) is ∙ blocks-self q.session q.mode v.holders)))
      same false true e f =
          let is = (Decides-eqb u p.session).0 f in
          let first : has_session u (take i v.waiting) ≡ true = ap (λ (k : ℕ). has_session k (take i v.waiting)) is ∙ (ap (λ (x : SessionMode). has_session x.session (take i v.waiting)) there ∙ ahead v.waiting j i p less lt) in
          ap (λ (k : Bool). holder_blocks p.session q.mode u v.holders || k) first ∙ (or-yes (holder_blocks p.session q.mode u v.holders) (holder_blocks q.session q.mode u v.holders) ∙ sym (ap (λ (k : Bool). holder_blocks q.session q.mode u v.holders || k) first))
      same false false e f = ap (λ (k : Bool). k || has_session u (take i v.waiting)) (sym (blocks-others q.session p.session u q.mode v.holders e f))

-- the row of the later request, made from that of the earlier one

module _ (v : View) (once : (s : ℕ) → times s v.waiting ≤ 1) (i j : ℕ) (d e : SessionMode) (lt : i < length v.waiting) (less : j < i) (mode : (get_or v.waiting j d).mode ≡ (get_or v.waiting i d).mode) (old mid new : ℕ → ℕ → Bool) (x y : ℕ)
    (mine : x + 1 ≡ (get_or v.waiting i d).session) (theirs : y + 1 ≡ (get_or v.waiting j d).session) (written : (a b : ℕ) → has_session (a + 1) (take i v.waiting) ≡ true → old a b ≡ view_blocks (a + 1) (b + 1) v) (free : old y x ≡ false)
    (joined : (a b : ℕ) → mid a b ≡ (old a b || (eqb a x && old y b))) (added : (a b : ℕ) → new a b ≡ (mid a b || (eqb (a + 1) (get_or v.waiting i d).session && has_session (b + 1) (take (i - j) (drop j v.waiting))))) where
  -- the later request
  abbrev q : SessionMode
  q = get_or v.waiting i d

  -- the earlier request
  abbrev p : SessionMode
  p = get_or v.waiting j d

  -- the earlier request is ahead of the later one
  there : has_session (y + 1) (take i v.waiting) ≡ true
  there = ap (λ (k : ℕ). has_session k (take i v.waiting)) theirs ∙ ahead v.waiting j i d less lt

  -- so the later one is blocked by all that block the earlier one, by that one, and by those between
  waits-as : (u : ℕ) → (view_blocks p.session u v || has_session u (take (i - j) (drop j v.waiting))) ≡ view_blocks q.session u v
  waits-as = blocks-previous_same_mode v once i j q p lt less (get_or_default v.waiting i d q lt) (get_or_default v.waiting j d p (omega (arith, less, lt))) mode
      ((λ k. view_blocks (sym theirs k) (sym mine k) v) ∙ (sym (written y x there) ∙ free))

  -- so the row is that of the later request
  pub previous_same_mode-written : (a b : ℕ) → new a b ≡ (old a b || (eqb (a + 1) (get_or v.waiting i e).session && view_blocks (a + 1) (b + 1) v))
  previous_same_mode-written a b =
      added a b ∙ (ap (λ (o : Bool). o || (eqb (a + 1) q.session && has_session (b + 1) (take (i - j) (drop j v.waiting)))) (joined a b)
      ∙ (go (eqb (a + 1) q.session) refl ∙ ap (λ (c : SessionMode). old a b || (eqb (a + 1) c.session && view_blocks (a + 1) (b + 1) v)) (get_or_default v.waiting i d e lt)))
    where
      apart : (a s : ℕ) → x + 1 ≡ s → eqb (a + 1) s ≡ false → eqb a x ≡ false
      apart a s e n = grind (arith, nat_tests)

      go : (t : Bool) → eqb (a + 1) q.session ≡ t → ((old a b || (eqb a x && old y b)) || (t && has_session (b + 1) (take (i - j) (drop j v.waiting)))) ≡ (old a b || (t && view_blocks (a + 1) (b + 1) v))
      go true f =
          let is : a + 1 ≡ q.session = (Decides-eqb (a + 1) q.session).0 f in
          let here : eqb a x ≡ true = (Decides-eqb a x).1 (omega (arith, is, mine)) in
          ap (λ (o : Bool). (old a b || (o && old y b)) || has_session (b + 1) (take (i - j) (drop j v.waiting))) here
          ∙ (or_assoc (old a b) (old y b) (has_session (b + 1) (take (i - j) (drop j v.waiting)))
          ∙ (ap (λ (o : Bool). old a b || (o || has_session (b + 1) (take (i - j) (drop j v.waiting)))) (written y b there ∙ ap (λ (k : ℕ). view_blocks k (b + 1) v) theirs)
          ∙ ap (λ (o : Bool). old a b || o) (waits-as (b + 1) ∙ ap (λ (k : ℕ). view_blocks k (b + 1) v) (sym is))))
      go false f =
          let off : eqb a x ≡ false = apart a q.session mine f in
          ap (λ (o : Bool). (old a b || (o && old y b)) || false) off ∙ or-none (old a b)
