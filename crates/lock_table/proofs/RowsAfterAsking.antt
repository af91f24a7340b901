-- The waits-for rows of the sessions that wait for one resource, after a request for it.
use Rattle.std.proofs.Common.{◌≡◌, ℕ, zero, suc, ◌+◌, ◌<◌, ◌≤◌, Bool, true, false, cond, not, eqb, ◌&&◌, ◌||◌, List, [], ◌∷◌, ◌++◌, length, length-append, get_or, take, drop, Option, Some, None, is_some, refl, sym, ◌∙◌, ap, arith, subst}
use Rattle.std.proofs.lemmas.Bool.{or_parts, false≢true}
use Rattle.std.proofs.lemmas.Bool.Decides.{nat_tests, Decides-eqb}
use Rattle.std.proofs.lemmas.List.Folds.{list_any-append}
use Rattle.std.proofs.Math.Bool.{and-true, and-false, or-false, or_comm, or_assoc, and_comm}
use Rattle.waits_for.specs.Pairs.{pairs_of}
use Rattle.lock_modes.specs.declared.Mode.{Mode}
use Rattle.lock_modes.specs.Compatibility.{are_compatible}
use Rattle.lock_holders.specs.declared.session_mode.SessionMode.{SessionMode}
use Rattle.lock_table.specs.declared.wait_graph.Waits.{Waits}
use Rattle.lock_table.specs.inner.Cells.{View, behind_conversions, can_grant, queue_with, view_after_asking, IsOnce}
use Rattle.lock_holders.specs.SessionModes.{has_session, mode_of, times, with_holder, Ascends, holder_blocks}
use Rattle.lock_table.specs.inner.Blocking.{is_ahead, target_blocks, view_blocks, fits_beside, has_fitting, has_conflicting, IsWritten, DoFollow}
use Rattle.lock_table.proofs.ResourceViews.{both}
use Rattle.lock_holders.proofs.SessionModes.{mode-has}
use Rattle.lock_table.proofs.WaitQueues.{has_session-queued, times-queued}
use Rattle.lock_table.proofs.WritingWaits.{blocks-none}
use Rattle.lock_table.proofs.QueuedSessions.{from-none, any-none, any-some, gone, blocks-as-held, blocks-with, mode-with, none-ahead}

-- a session that is in a list, and one that isn't
apart : (s c : ℕ) (ws : List SessionMode) → has_session s ws ≡ true → has_session c ws ≡ false → eqb c s ≡ false
apart s c ws h n = go (eqb c s) refl
  where
    go : (b : Bool) → eqb c s ≡ b → eqb c s ≡ false
    go false e = e
    go true e = absurd (let f : has_session s ws ≡ false = ap (λ (k : ℕ). has_session k ws) (sym ((Decides-eqb c s).0 e)) ∙ n in cc)

-- the request is granted

-- the edges to the new holder are removed from requests that fit beside it, and added from those that conflict
granted-pair : (c : SessionMode) (hs ws : List SessionMode) (s u : ℕ) (p : Bool) → Ascends (with_holder c hs) → times s ws ≤ 1 → has_session c.session ws ≡ false → (has_session s ws ≡ true → p ≡ view_blocks s u (both hs ws))
    → ((p && not (eqb u c.session && has_fitting s (Some c.mode) ws)) || (eqb u c.session && has_conflicting s c.mode ws)) ≡ ((p && not (has_session s ws)) || view_blocks s u (both (with_holder c hs) ws))
granted-pair c hs ws s u p rising once absent written = go (mode_of s ws) refl
  where
    conflict : Mode → Bool
    conflict m = not (are_compatible m c.mode)

    same : (p e : Bool) → ((p && not (e && false)) || (e && false)) ≡ ((p && true) || false)
    same true true = refl
    same true false = refl
    same false true = refl
    same false false = refl

    turned : (v k : Bool) → ((v && not k) || not k) ≡ (not k || false)
    turned true true = refl
    turned true false = refl
    turned false true = refl
    turned false false = refl

    swapped : eqb u c.session ≡ false → eqb c.session u ≡ false
    swapped e = grind (arith, nat_tests, e)

    some : (m : Mode) → mode_of s ws ≡ Some m → eqb c.session s ≡ false → (e : Bool) → eqb u c.session ≡ e
        → ((view_blocks s u (both hs ws) && not (e && are_compatible m c.mode)) || (e && conflict m)) ≡ view_blocks s u (both (with_holder c hs) ws)
    some m f n true e =
        let is : u ≡ c.session = (Decides-eqb u c.session).0 e in
        let held : holder_blocks s m u (with_holder c hs) ≡ not (are_compatible m c.mode) = ap (λ (i : ℕ). holder_blocks s m i (with_holder c hs)) is ∙ (blocks-as-held s c.session m (with_holder c hs) rising n ∙ ap (λ (o : Option Mode). not (fits_beside o m)) (mode-with c hs)) in
        let none : is_ahead u s ws ≡ false = none-ahead s u ws (ap (λ (i : ℕ). has_session i ws) is ∙ absent) in
        turned (view_blocks s u (both hs ws)) (are_compatible m c.mode) ∙ sym (ap (target_blocks s u (both (with_holder c hs) ws)) f ∙ (λ i. held i || none i))
    some m f n false e =
        or-false (view_blocks s u (both hs ws) && true) ∙ (and-true (view_blocks s u (both hs ws)) ∙ (ap (target_blocks s u (both hs ws)) f
        ∙ sym (ap (target_blocks s u (both (with_holder c hs) ws)) f ∙ ap (λ (b : Bool). b || is_ahead u s ws) (blocks-with s u m c hs (swapped e)))))

    go : (o : Option Mode) → mode_of s ws ≡ o → ((p && not (eqb u c.session && has_fitting s (Some c.mode) ws)) || (eqb u c.session && has_conflicting s c.mode ws)) ≡ ((p && not (has_session s ws)) || view_blocks s u (both (with_holder c hs) ws))
    go None f =
        let none : has_session s ws ≡ false = sym (mode-has s ws) ∙ ap is_some f in
        (λ i. (p && not (eqb u c.session && any-none s (fits_beside (Some c.mode)) ws none i)) || (eqb u c.session && any-none s conflict ws none i))
        ∙ (same p (eqb u c.session) ∙ sym (λ i. (p && not (none i)) || blocks-none s u (both (with_holder c hs) ws) none i))
    go (Some m) f =
        let here : has_session s ws ≡ true = sym (mode-has s ws) ∙ ap is_some f in
        (λ i. (written here i && not (eqb u c.session && any-some s (fits_beside (Some c.mode)) m ws f once i)) || (eqb u c.session && any-some s conflict m ws f once i))
        ∙ (some m f (apart s c.session ws here absent) (eqb u c.session) refl ∙ (from-none p (view_blocks s u (both (with_holder c hs) ws)) ∙ sym (ap (λ (b : Bool). (p && not b) || view_blocks s u (both (with_holder c hs) ws)) here)))

-- the request waits

-- a session that is not in the queue is at no index of it
absent-at : (s : ℕ) (ws : List SessionMode) (i : ℕ) (d : SessionMode) → i < length ws → has_session s ws ≡ false → (get_or ws i d).session ≡ s → ⊥
absent-at s [] i d lt n e = omega (arith, lt)
absent-at s (q ∷ ws) zero d lt n e = false≢true (sym (or_parts (eqb q.session s) (has_session s ws) n).0 ∙ (Decides-eqb q.session s).1 e)
absent-at s (q ∷ ws) (suc i) d lt n e = absent-at s ws i d (omega (arith, lt)) (or_parts (eqb q.session s) (has_session s ws) n).1 e

-- a conversion is where it was inserted
behind-at : (c : SessionMode) (hs ws : List SessionMode) (i : ℕ) (d : SessionMode) → has_session c.session ws ≡ false → i < length (behind_conversions c hs ws) → (get_or (behind_conversions c hs ws) i d).session ≡ c.session → behind_conversions c hs ws ≡ take i ws ++ c ∷ drop i ws
behind-at c hs [] zero d n lt at = refl
behind-at c hs [] (suc i) d n lt at = absurd (omega (arith, lt))
behind-at c hs (q ∷ ws) i d n lt at = go (has_session q.session hs) i lt at (λ k. behind-at c hs ws k d (or_parts (eqb q.session c.session) (has_session c.session ws) n).1)
  where
    go : (b : Bool) (k : ℕ) → k < length (cond b (q ∷ behind_conversions c hs ws) (c ∷ q ∷ ws)) → (get_or (cond b (q ∷ behind_conversions c hs ws) (c ∷ q ∷ ws)) k d).session ≡ c.session
        → ((m : ℕ) → m < length (behind_conversions c hs ws) → (get_or (behind_conversions c hs ws) m d).session ≡ c.session → behind_conversions c hs ws ≡ take m ws ++ c ∷ drop m ws)
        → cond b (q ∷ behind_conversions c hs ws) (c ∷ q ∷ ws) ≡ take k (q ∷ ws) ++ c ∷ drop k (q ∷ ws)
    go true zero lt at next = absurd (absent-at c.session (q ∷ ws) zero d (omega arith) n at)
    go true (suc k) lt at next = ap (λ (xs : List SessionMode). q ∷ xs) (next k (omega (arith, lt)) at)
    go false zero lt at next = refl
    go false (suc k) lt at next = absurd (absent-at c.session (q ∷ ws) k d (omega (arith, lt)) n at)

-- a fresh request is at the end
push-at : (c : SessionMode) (ws : List SessionMode) (i : ℕ) (d : SessionMode) → has_session c.session ws ≡ false → i < length (ws ++ c ∷ []) → (get_or (ws ++ c ∷ []) i d).session ≡ c.session → ws ++ c ∷ [] ≡ take i ws ++ c ∷ drop i ws
push-at c [] zero d n lt at = refl
push-at c [] (suc i) d n lt at = absurd (omega (arith, lt))
push-at c (q ∷ ws) zero d n lt at = absurd (absent-at c.session (q ∷ ws) zero d (omega arith) n at)
push-at c (q ∷ ws) (suc i) d n lt at = ap (λ (xs : List SessionMode). q ∷ xs) (push-at c ws i d (or_parts (eqb q.session c.session) (has_session c.session ws) n).1 (omega (arith, lt)) at)

-- so the request is between those that were before its index and those that were behind
queued-at : (c : SessionMode) (hs ws : List SessionMode) (i : ℕ) (d : SessionMode) → has_session c.session ws ≡ false → i < length (queue_with c hs ws) → (get_or (queue_with c hs ws) i d).session ≡ c.session → queue_with c hs ws ≡ take i ws ++ c ∷ drop i ws
queued-at c hs ws i d n = go (has_session c.session hs)
  where
    go : (b : Bool) → i < length (cond b (behind_conversions c hs ws) (ws ++ c ∷ [])) → (get_or (cond b (behind_conversions c hs ws) (ws ++ c ∷ [])) i d).session ≡ c.session → cond b (behind_conversions c hs ws) (ws ++ c ∷ []) ≡ take i ws ++ c ∷ drop i ws
    go true lt at = behind-at c hs ws i d n lt at
    go false lt at = push-at c ws i d n lt at

-- the requests before an index, and those behind it
split-at : (ws : List SessionMode) (i : ℕ) → take i ws ++ drop i ws ≡ ws
split-at ws zero = refl
split-at [] (suc i) = refl
split-at (q ∷ ws) (suc i) = ap (λ (xs : List SessionMode). q ∷ xs) (split-at ws i)

take-front : (ws rest : List SessionMode) (i : ℕ) → i ≤ length ws → take i (take i ws ++ rest) ≡ take i ws
take-front ws rest zero lt = refl
take-front [] rest (suc i) lt = absurd (omega (arith, lt))
take-front (q ∷ ws) rest (suc i) lt = ap (λ (xs : List SessionMode). q ∷ xs) (take-front ws rest i (omega (arith, lt)))

drop-front : (ws rest : List SessionMode) (c : SessionMode) (i : ℕ) → i ≤ length ws → drop (suc i) (take i ws ++ c ∷ rest) ≡ rest
drop-front ws rest c zero lt = refl
drop-front [] rest c (suc i) lt = absurd (omega (arith, lt))
drop-front (q ∷ ws) rest c (suc i) lt = drop-front ws rest c i (omega (arith, lt))

-- a session that is in the queue once is behind exactly if it is not in front
behind-or-front : (s : ℕ) (front rest : List SessionMode) → has_session s (front ++ rest) ≡ true → times s (front ++ rest) ≤ 1 → has_session s rest ≡ not (has_session s front)
behind-or-front s [] rest h once = h
behind-or-front s (q ∷ front) rest h once = go (eqb q.session s) h once (behind-or-front s front rest)
  where
    go : (b : Bool) → (b || has_session s (front ++ rest)) ≡ true → cond b 1 0 + times s (front ++ rest) ≤ 1 → (has_session s (front ++ rest) ≡ true → times s (front ++ rest) ≤ 1 → has_session s rest ≡ not (has_session s front))
        → has_session s rest ≡ not (b || has_session s front)
    go true h once next = (or_parts (has_session s front) (has_session s rest) (sym (list_any-append (λ (q : SessionMode). eqb q.session s) front rest) ∙ gone s (front ++ rest) once)).1
    go false h once next = next h (omega (arith, once))

-- a request that is inserted changes the mode of no other
mode-inserted : (s : ℕ) (c : SessionMode) (front rest : List SessionMode) → eqb c.session s ≡ false → mode_of s (front ++ c ∷ rest) ≡ mode_of s (front ++ rest)
mode-inserted s c [] rest n = ap (λ (b : Bool). cond b (Some c.mode) (mode_of s rest)) n
mode-inserted s c (q ∷ front) rest n = ap (λ (o : Option Mode). cond (eqb q.session s) (Some q.mode) o) (mode-inserted s c front rest n)

-- it is ahead of those behind it, and of no other
ahead-inserted : (s u : ℕ) (c : SessionMode) (front rest : List SessionMode) → eqb c.session s ≡ false → is_ahead u s (front ++ c ∷ rest) ≡ (is_ahead u s (front ++ rest) || (not (has_session s front) && eqb c.session u))
ahead-inserted s u c [] rest n = ap (λ (b : Bool). cond b false (eqb c.session u || is_ahead u s rest)) n ∙ or_comm (eqb c.session u) (is_ahead u s rest)
ahead-inserted s u c (q ∷ front) rest n = go (eqb q.session s) (ahead-inserted s u c front rest n)
  where
    go : (b : Bool) → is_ahead u s (front ++ c ∷ rest) ≡ (is_ahead u s (front ++ rest) || (not (has_session s front) && eqb c.session u))
        → cond b false (eqb q.session u || is_ahead u s (front ++ c ∷ rest)) ≡ (cond b false (eqb q.session u || is_ahead u s (front ++ rest)) || (not (b || has_session s front) && eqb c.session u))
    go true next = refl
    go false next = ap (λ (b : Bool). eqb q.session u || b) next ∙ sym (or_assoc (eqb q.session u) (is_ahead u s (front ++ rest)) (not (has_session s front) && eqb c.session u))

-- so it blocks those behind it, and all else is as before
blocks-inserted : (hs front rest : List SessionMode) (c : SessionMode) (s u : ℕ) → eqb c.session s ≡ false → has_session s (front ++ rest) ≡ true
    → view_blocks s u (both hs (front ++ c ∷ rest)) ≡ (view_blocks s u (both hs (front ++ rest)) || (not (has_session s front) && eqb c.session u))
blocks-inserted hs front rest c s u n h = ap (target_blocks s u (both hs (front ++ c ∷ rest))) (mode-inserted s c front rest n) ∙ go (mode_of s (front ++ rest)) refl
  where
    go : (o : Option Mode) → mode_of s (front ++ rest) ≡ o → target_blocks s u (both hs (front ++ c ∷ rest)) o ≡ (target_blocks s u (both hs (front ++ rest)) o || (not (has_session s front) && eqb c.session u))
    go None f = absurd (let is = sym (mode-has s (front ++ rest)) ∙ ap is_some f in cc)
    go (Some m) f = ap (λ (b : Bool). holder_blocks s m u hs || b) (ahead-inserted s u c front rest n) ∙ sym (or_assoc (holder_blocks s m u hs) (is_ahead u s (front ++ rest)) (not (has_session s front) && eqb c.session u))

-- the rows follow

module _ (c : SessionMode) (v : View) (w new : Waits) (k : IsWritten c.session v w) (idle : has_session c.session v.waiting ≡ false) (x : View) (is : x ≡ view_after_asking c v) (once : IsOnce x) where
  granted-view : can_grant c v ≡ true → x ≡ both (with_holder c v.holders) v.waiting
  granted-view g = is ∙ ap (λ (b : Bool). cond b (both (with_holder c v.holders) v.waiting) (both v.holders (queue_with c v.holders v.waiting))) g

  -- when the request is granted, and the edges to its session are removed and added
  pub follows-granted_request : can_grant c v ≡ true → new.rows.sessions ≡ w.rows.sessions → new.numbers ≡ w.numbers
      → ((a b : ℕ) → pairs_of new.rows a b ≡ ((pairs_of w.rows a b && not (eqb (b + 1) c.session && has_fitting (a + 1) (Some c.mode) x.waiting)) || (eqb (b + 1) c.session && has_conflicting (a + 1) c.mode x.waiting))) → DoFollow v x w new
  follows-granted_request g sessions numbers pairs = record {
    sessions = sessions;
    numbers = numbers;
    pairs = λ a b.
        let p = pairs_of w.rows a b in
        pairs a b
        ∙ (ap (λ (y : View). (p && not (eqb (b + 1) c.session && has_fitting (a + 1) (Some c.mode) y.waiting)) || (eqb (b + 1) c.session && has_conflicting (a + 1) c.mode y.waiting)) (granted-view g)
        ∙ (granted-pair c v.holders v.waiting (a + 1) (b + 1) p (subst (λ (y : View). Ascends y.holders) (granted-view g) once.rising) (subst (λ (y : View). times (a + 1) y.waiting ≤ 1) (granted-view g) (once.once (a + 1))) idle (k.waiting a b)
        ∙ ap (λ (y : View). (p && not (has_session (a + 1) v.waiting)) || view_blocks (a + 1) (b + 1) y) (sym (granted-view g))));
  }

  -- when the request waits, its session is in the queue
  pub asker-queued : can_grant c v ≡ false → has_session c.session x.waiting ≡ true
  asker-queued waits =
      ap (λ (y : View). has_session c.session y.waiting) (is ∙ ap (λ (b : Bool). cond b (both (with_holder c v.holders) v.waiting) (both v.holders (queue_with c v.holders v.waiting))) waits)
      ∙ (has_session-queued c.session c v.holders v.waiting ∙ ap (λ (b : Bool). b || has_session c.session v.waiting) ((Decides-eqb c.session c.session).1 refl))

  module _ (waits : can_grant c v ≡ false) (i : ℕ) (d : SessionMode) (within : i < length x.waiting) (here : (get_or x.waiting i d).session ≡ c.session) where
    abbrev front : List SessionMode
    front = take i v.waiting

    abbrev rest : List SessionMode
    rest = drop i v.waiting

    whole : front ++ rest ≡ v.waiting
    whole = split-at v.waiting i

    queued : x ≡ both v.holders (queue_with c v.holders v.waiting)
    queued = is ∙ ap (λ (b : Bool). cond b (both (with_holder c v.holders) v.waiting) (both v.holders (queue_with c v.holders v.waiting))) waits

    inserted : x ≡ both v.holders (front ++ c ∷ rest)
    inserted = queued ∙ ap (both v.holders) (queued-at c v.holders v.waiting i d idle (subst (λ (y : View). i < length y.waiting) queued within) (ap (λ (y : View). (get_or y.waiting i d).session) (sym queued) ∙ here))

    below : i ≤ length v.waiting
    below =
        let lt : i < length (front ++ c ∷ rest) = subst (λ (y : View). i < length y.waiting) inserted within in
        omega (arith, lt, length-append front (c ∷ rest), length-append front rest, ap length whole)

    few : (s : ℕ) → times s v.waiting ≤ 1
    few s = let o : times s (queue_with c v.holders v.waiting) ≤ 1 = subst (λ (y : View). times s y.waiting ≤ 1) queued (once.once s) in omega (arith, o, times-queued s c v.holders v.waiting)

    was : (s u : ℕ) → view_blocks s u (both v.holders (front ++ rest)) ≡ view_blocks s u v
    was s u = ap (λ (ws : List SessionMode). view_blocks s u (both v.holders ws)) whole

    later : (s u : ℕ) → eqb c.session s ≡ false → has_session s v.waiting ≡ true → view_blocks s u x ≡ (view_blocks s u v || (not (has_session s front) && eqb c.session u))
    later s u n h = ap (view_blocks s u) inserted ∙ (blocks-inserted v.holders front rest c s u n (ap (has_session s) whole ∙ h) ∙ ap (λ (b : Bool). b || (not (has_session s front) && eqb c.session u)) (was s u))

    parts : (s : ℕ) → has_session s v.waiting ≡ (has_session s front || has_session s rest)
    parts s = ap (has_session s) (sym whole) ∙ list_any-append (λ (q : SessionMode). eqb q.session s) front rest

    -- when the request waits, the rows of the requests ahead of it are current
    pub written-ahead : (a b : ℕ) → has_session (a + 1) (take i x.waiting) ≡ true → pairs_of w.rows a b ≡ view_blocks (a + 1) (b + 1) x
    written-ahead a b h =
        let f : has_session (a + 1) front ≡ true = ap (has_session (a + 1)) (sym (ap (λ (y : View). take i y.waiting) inserted ∙ take-front v.waiting (c ∷ rest) i below)) ∙ h in
        let there : has_session (a + 1) v.waiting ≡ true = parts (a + 1) ∙ ap (λ (b : Bool). b || has_session (a + 1) rest) f in
        k.waiting a b there
        ∙ sym (later (a + 1) (b + 1) (apart (a + 1) c.session v.waiting there idle) there ∙ (ap (λ (t : Bool). view_blocks (a + 1) (b + 1) v || (not t && eqb c.session (b + 1))) f ∙ or-false (view_blocks (a + 1) (b + 1) v)))

    -- and the rows follow when its own row is written, and the edges to it are added
    pub follows-waiting : (mid : ℕ → ℕ → Bool) → new.rows.sessions ≡ w.rows.sessions → new.numbers ≡ w.numbers → ((a b : ℕ) → mid a b ≡ (pairs_of w.rows a b || (eqb (a + 1) (get_or x.waiting i d).session && view_blocks (a + 1) (b + 1) x)))
        → ((a b : ℕ) → pairs_of new.rows a b ≡ (mid a b || (eqb (b + 1) c.session && has_session (a + 1) (drop (suc i) x.waiting)))) → DoFollow v x w new
    follows-waiting mid sessions numbers own added = record {
      sessions = sessions;
      numbers = numbers;
      pairs = λ a b.
          let p = pairs_of w.rows a b in
          let y = view_blocks (a + 1) (b + 1) x in
          added a b
          ∙ (ap (λ (t : Bool). t || (eqb (b + 1) c.session && has_session (a + 1) (drop (suc i) x.waiting))) (own a b ∙ ap (λ (s : ℕ). p || (eqb (a + 1) s && y)) here)
          ∙ (ap (λ (ws : List SessionMode). (p || (eqb (a + 1) c.session && y)) || (eqb (b + 1) c.session && has_session (a + 1) ws)) behind ∙ go a b (eqb (a + 1) c.session) (has_session (a + 1) v.waiting) refl refl));
    }
      where
        behind : drop (suc i) x.waiting ≡ rest
        behind = ap (λ (y : View). drop (suc i) y.waiting) inserted ∙ drop-front v.waiting rest c i below

        swap : (s t : ℕ) → eqb s t ≡ eqb t s
        swap s t = grind (arith, nat_tests)

        same : (p e : Bool) → ((p || false) || (e && false)) ≡ ((p && true) || false)
        same true e = refl
        same false true = refl
        same false false = refl

        go : (a b : ℕ) (t h : Bool) → eqb (a + 1) c.session ≡ t → has_session (a + 1) v.waiting ≡ h
            → ((pairs_of w.rows a b || (t && view_blocks (a + 1) (b + 1) x)) || (eqb (b + 1) c.session && has_session (a + 1) rest)) ≡ ((pairs_of w.rows a b && not h) || view_blocks (a + 1) (b + 1) x)
        go a b true h e f =
            let at : a + 1 ≡ c.session = (Decides-eqb (a + 1) c.session).0 e in
            let none : pairs_of w.rows a b ≡ false = k.idle a b at in
            let away : has_session (a + 1) rest ≡ false = (or_parts (has_session (a + 1) front) (has_session (a + 1) rest) (sym (parts (a + 1)) ∙ (ap (λ (s : ℕ). has_session s v.waiting) at ∙ idle))).1 in
            let y = view_blocks (a + 1) (b + 1) x in
            (λ j. (none j || y) || (eqb (b + 1) c.session && away j)) ∙ (ap (λ (t : Bool). y || t) (and-false (eqb (b + 1) c.session)) ∙ (or-false y ∙ sym (ap (λ (t : Bool). (t && not h) || y) none)))
        go a b false true e f =
            let p = pairs_of w.rows a b in
            let before = view_blocks (a + 1) (b + 1) v in
            let n : eqb c.session (a + 1) ≡ false = swap c.session (a + 1) ∙ e in
            let other = behind-or-front (a + 1) front rest (ap (has_session (a + 1)) whole ∙ f) (subst (λ (ws : List SessionMode). times (a + 1) ws ≤ 1) (sym whole) (few (a + 1))) in
            ap (λ (t : Bool). t || (eqb (b + 1) c.session && has_session (a + 1) rest)) (or-false p)
            ∙ ((λ j. k.waiting a b f j || (swap (b + 1) c.session j && other j))
            ∙ (ap (λ (t : Bool). before || t) (and_comm (eqb c.session (b + 1)) (not (has_session (a + 1) front))) ∙ (sym (later (a + 1) (b + 1) n f) ∙ from-none p (view_blocks (a + 1) (b + 1) x))))
        go a b false false e f =
            let p = pairs_of w.rows a b in
            let away : has_session (a + 1) rest ≡ false = (or_parts (has_session (a + 1) front) (has_session (a + 1) rest) (sym (parts (a + 1)) ∙ f)).1 in
            let none : has_session (a + 1) x.waiting ≡ false = ap (λ (y : View). has_session (a + 1) y.waiting) queued ∙ (has_session-queued (a + 1) c v.holders v.waiting ∙ (λ j. (swap c.session (a + 1) ∙ e) j || f j)) in
            ap (λ (t : Bool). (p || false) || (eqb (b + 1) c.session && t)) away ∙ (same p (eqb (b + 1) c.session) ∙ sym (ap (λ (t : Bool). (p && true) || t) (blocks-none (a + 1) (b + 1) x none)))
