-- The waits-for rows of the sessions that wait for one resource lose single edges: a session gives up its lock or its
-- request there.
use Rattle.std.proofs.Common.{◌≡◌, ℕ, ◌+◌, ◌<◌, ◌≤◌, Bool, true, false, not, eqb, ◌&&◌, ◌||◌, List, length, get_or, take, drop, Option, Some, None, is_some, refl, sym, ◌∙◌, ap, arith, subst}
use Rattle.std.proofs.lemmas.Bool.{and_parts}
use Rattle.std.proofs.lemmas.Bool.Decides.{nat_tests, Decides-eqb}
use Rattle.std.proofs.Math.Bool.{and-true, and-false, or-false}
use Rattle.waits_for.specs.Pairs.{pairs_of}
use Rattle.lock_modes.specs.declared.Mode.{Mode}
use Rattle.lock_holders.specs.declared.session_mode.SessionMode.{SessionMode}
use Rattle.lock_table.specs.declared.wait_graph.Waits.{Waits}
use Rattle.lock_table.specs.declared.cells.GivenUp.{GivenUp}
use Rattle.lock_table.specs.declared.cells.GivenUp.TheVariants as claim
use Rattle.lock_table.specs.inner.Cells.{View, view_after_giving_up, is_request, IsOnce}
use Rattle.lock_holders.specs.SessionModes.{has_session, mode_of, times, without, Ascends, holder_blocks}
use Rattle.lock_table.specs.inner.Blocking.{is_ahead, target_blocks, view_blocks, fits_beside, has_fitting, AreWritten, DoFollow}
use Rattle.lock_table.proofs.ResourceViews.{both}
use Rattle.lock_holders.proofs.SessionModes.{mode-has, has_session-without}
use Rattle.lock_table.proofs.WritingWaits.{blocks-none}
use Rattle.lock_table.proofs.RequestsAlike.{not-ahead}
use Rattle.lock_table.proofs.QueuedSessions.{from-none, any-none, any-some, blocks-as-held, blocks-without, none-ahead, ahead-without, mode-without, has-split, times-behind, mode-behind, front-ahead}

-- if a request is withdrawn, the edges to its session from the requests ahead of it are those to a holder that conflicts,
-- so that no edge has to be removed there
behind-alone : (s u : ℕ) (hs ws : List SessionMode) (i : ℕ) (d : SessionMode) (p : Bool) → Ascends hs → ((t : ℕ) → times t ws ≤ 1) → i < length ws → eqb (get_or ws i d).session s ≡ false → (has_session s ws ≡ true → p ≡ view_blocks s u (both hs ws))
    → (p && not (eqb u (get_or ws i d).session && has_fitting s (mode_of (get_or ws i d).session hs) (drop i ws))) ≡ (p && not (eqb u (get_or ws i d).session && has_fitting s (mode_of (get_or ws i d).session hs) ws))
behind-alone s u hs ws i d p rising once lt n written = go (mode_of s (drop i ws)) (mode_of s ws) refl refl
  where
    g : ℕ
    g = (get_or ws i d).session

    o : Option Mode
    o = mode_of g hs

    same : (f : Bool) → (not f && true) ≡ (not f && not f)
    same true = refl
    same false = refl

    held : (m : Mode) → mode_of s ws ≡ Some m → has_session s (drop i ws) ≡ false → u ≡ g → p ≡ not (fits_beside o m)
    held m f away is =
        let there : has_session s ws ≡ true = sym (mode-has s ws) ∙ ap is_some f in
        let before : has_session s (take i ws) ≡ true = sym (or-false (has_session s (take i ws))) ∙ (ap (λ (b : Bool). has_session s (take i ws) || b) (sym away) ∙ (has-split s ws i ∙ there)) in
        let none : is_ahead u s ws ≡ false = ap (λ (k : ℕ). is_ahead k s ws) is ∙ front-ahead s g ws i before (not-ahead ws i d lt (once g)) in
        let blocked : holder_blocks s m u hs ≡ not (fits_beside o m) = ap (λ (k : ℕ). holder_blocks s m k hs) is ∙ blocks-as-held s g m hs rising n in
        written there ∙ (ap (target_blocks s u (both hs ws)) f ∙ ((λ j. blocked j || none j) ∙ or-false (not (fits_beside o m))))

    go : (x y : Option Mode) → mode_of s (drop i ws) ≡ x → mode_of s ws ≡ y → (p && not (eqb u g && has_fitting s o (drop i ws))) ≡ (p && not (eqb u g && has_fitting s o ws))
    go (Some m) y f h =
        let whole = (mode-behind s m ws i (once s) f).0 in
        ap (λ (b : Bool). p && not (eqb u g && b)) (any-some s (fits_beside o) m (drop i ws) f (times-behind s ws i (once s)) ∙ sym (any-some s (fits_beside o) m ws whole (once s)))
    go None None f h =
        ap (λ (b : Bool). p && not (eqb u g && b)) (any-none s (fits_beside o) (drop i ws) (sym (mode-has s (drop i ws)) ∙ ap is_some f) ∙ sym (any-none s (fits_beside o) ws (sym (mode-has s ws) ∙ ap is_some h)))
    go None (Some m) f h =
        ap (λ (b : Bool). p && not (eqb u g && b)) (any-none s (fits_beside o) (drop i ws) away)
        ∙ (each (eqb u g) refl ∙ sym (ap (λ (b : Bool). p && not (eqb u g && b)) (any-some s (fits_beside o) m ws h (once s))))
      where
        away : has_session s (drop i ws) ≡ false
        away = sym (mode-has s (drop i ws)) ∙ ap is_some f

        each : (e : Bool) → eqb u g ≡ e → (p && not (e && false)) ≡ (p && not (e && fits_beside o m))
        each true e = let is = held m h away ((Decides-eqb u g).0 e) in ap (λ (b : Bool). b && true) is ∙ (same (fits_beside o m) ∙ sym (ap (λ (b : Bool). b && not (fits_beside o m)) is))
        each false e = refl

-- edges to one session are removed from the rows of a queue

-- the edge is as it should be, if it is removed exactly from requests that fit beside what the session holds
narrowed : (v : View) (g s u : ℕ) (o : Option Mode) (p new y : Bool) → times s v.waiting ≤ 1 → new ≡ (p && not (eqb u g && has_fitting s o v.waiting)) → (has_session s v.waiting ≡ true → p ≡ view_blocks s u v) → (has_session s v.waiting ≡ false → y ≡ false)
    → ((m : Mode) → mode_of s v.waiting ≡ Some m → y ≡ (view_blocks s u v && not (eqb u g && fits_beside o m))) → new ≡ ((p && not (has_session s v.waiting)) || y)
narrowed v g s u o p new y once is written idle left = is ∙ go (mode_of s v.waiting) refl
  where
    same : (p e : Bool) → (p && not (e && false)) ≡ ((p && true) || false)
    same true true = refl
    same true false = refl
    same false e = refl

    go : (t : Option Mode) → mode_of s v.waiting ≡ t → (p && not (eqb u g && has_fitting s o v.waiting)) ≡ ((p && not (has_session s v.waiting)) || y)
    go None f =
        let none : has_session s v.waiting ≡ false = sym (mode-has s v.waiting) ∙ ap is_some f in
        ap (λ (b : Bool). p && not (eqb u g && b)) (any-none s (fits_beside o) v.waiting none) ∙ (same p (eqb u g) ∙ sym (λ i. (p && not (none i)) || idle none i))
    go (Some m) f =
        let here : has_session s v.waiting ≡ true = sym (mode-has s v.waiting) ∙ ap is_some f in
        (λ i. written here i && not (eqb u g && any-some s (fits_beside o) m v.waiting f once i))
        ∙ (from-none p (view_blocks s u v && not (eqb u g && fits_beside o m)) ∙ sym (λ i. (p && not (here i)) || left m f i))

-- a session gives up its lock: who waits is blocked as before, but not by it
lock-left : (s u g : ℕ) (m : Mode) (hs ws : List SessionMode) → has_session g ws ≡ false → mode_of s ws ≡ Some m → view_blocks s u (both (without g hs) ws) ≡ (view_blocks s u (both hs ws) && not (eqb u g && true))
lock-left s u g m hs ws n f =
    ap (target_blocks s u (both (without g hs) ws)) f
    ∙ (ap (λ (b : Bool). b || is_ahead u s ws) (blocks-without s u g m hs) ∙ (go (eqb u g) refl ∙ sym (ap (λ (o : Option Mode). target_blocks s u (both hs ws) o && not (eqb u g && true)) f)))
  where
    go : (b : Bool) → eqb u g ≡ b → ((holder_blocks s m u hs && not b) || is_ahead u s ws) ≡ ((holder_blocks s m u hs || is_ahead u s ws) && not (b && true))
    go true e =
        let none : is_ahead u s ws ≡ false = none-ahead s u ws (ap (λ (i : ℕ). has_session i ws) ((Decides-eqb u g).0 e) ∙ n) in
        (λ i. and-false (holder_blocks s m u hs) i || none i) ∙ sym (and-false (holder_blocks s m u hs || is_ahead u s ws))
    go false e = ap (λ (b : Bool). b || is_ahead u s ws) (and-true (holder_blocks s m u hs)) ∙ sym (and-true (holder_blocks s m u hs || is_ahead u s ws))

-- a session gives up its request: who else waits is blocked as before, but by that session only as a holder
request-left : (s u g : ℕ) (m : Mode) (hs ws : List SessionMode) → Ascends hs → eqb g s ≡ false → mode_of s ws ≡ Some m → view_blocks s u (both hs (without g ws)) ≡ (view_blocks s u (both hs ws) && not (eqb u g && fits_beside (mode_of g hs) m))
request-left s u g m hs ws rising n f =
    ap (target_blocks s u (both hs (without g ws))) (mode-without s g ws n ∙ f)
    ∙ (ap (λ (b : Bool). holder_blocks s m u hs || b) (ahead-without s u g ws n) ∙ (go (eqb u g) refl ∙ sym (ap (λ (o : Option Mode). target_blocks s u (both hs ws) o && not (eqb u g && fits_beside (mode_of g hs) m)) f)))
  where
    as-holder : (a f : Bool) → (not f || (a && false)) ≡ ((not f || a) && not f)
    as-holder true true = refl
    as-holder false true = refl
    as-holder a false = refl

    go : (b : Bool) → eqb u g ≡ b → (holder_blocks s m u hs || (is_ahead u s ws && not b)) ≡ ((holder_blocks s m u hs || is_ahead u s ws) && not (b && fits_beside (mode_of g hs) m))
    go true e =
        let held : holder_blocks s m u hs ≡ not (fits_beside (mode_of g hs) m) = ap (λ (i : ℕ). holder_blocks s m i hs) ((Decides-eqb u g).0 e) ∙ blocks-as-held s g m hs rising n in
        ap (λ (b : Bool). b || (is_ahead u s ws && false)) held
        ∙ (as-holder (is_ahead u s ws) (fits_beside (mode_of g hs) m) ∙ sym (ap (λ (b : Bool). (b || is_ahead u s ws) && not (fits_beside (mode_of g hs) m)) held))
    go false e = ap (λ (b : Bool). holder_blocks s m u hs || b) (and-true (is_ahead u s ws)) ∙ sym (and-true (holder_blocks s m u hs || is_ahead u s ws))

module _ (p : GivenUp) (g : ℕ) (v : View) (old new : Waits) (claimed : has_session g v.waiting ≡ is_request p) (written : AreWritten v old) (once : IsOnce v) (sessions : new.rows.sessions ≡ old.rows.sessions) (numbers : new.numbers ≡ old.numbers) where
  -- the rows follow when the edges to a session that gives up its lock are removed
  pub follows-lock : p ≡ claim.Lock → ((a b : ℕ) → pairs_of new.rows a b ≡ (pairs_of old.rows a b && not (eqb (b + 1) g && has_fitting (a + 1) None v.waiting))) → DoFollow v (view_after_giving_up p g v) old new
  follows-lock is pairs = subst (λ (k : GivenUp). DoFollow v (view_after_giving_up k g v) old new) (sym is) (record {
    sessions = sessions;
    numbers = numbers;
    pairs = λ a b.
        narrowed v g (a + 1) (b + 1) None (pairs_of old.rows a b) _ _ (once.once (a + 1)) (pairs a b) (written a b) (blocks-none (a + 1) (b + 1) (view_after_giving_up claim.Lock g v))
        (λ m f. lock-left (a + 1) (b + 1) g m v.holders v.waiting (claimed ∙ ap is_request is) f);
  })

  -- the rows follow when the edges to a session that gives up its request are removed, unless it blocks as a holder, and
  -- its row is cleared
  pub follows-request : p ≡ claim.Request → (mid : ℕ → ℕ → Bool) (x : ℕ) → x + 1 ≡ g → (i : ℕ) (d : SessionMode) → i < length v.waiting → (get_or v.waiting i d).session ≡ g
      → ((a b : ℕ) → mid a b ≡ (pairs_of old.rows a b && not (eqb (b + 1) g && has_fitting (a + 1) (mode_of g v.holders) (drop i v.waiting))))
      → ((a b : ℕ) → pairs_of new.rows a b ≡ (mid a b && not (eqb a x))) → DoFollow v (view_after_giving_up p g v) old new
  follows-request claims mid x at i d lt is removed cleared = subst (λ (k : GivenUp). DoFollow v (view_after_giving_up k g v) old new) (sym claims) (record {
    sessions = sessions;
    numbers = numbers;
    pairs = λ a b. cleared a b ∙ go a b (eqb a x) refl;
  })
    where
      after : View
      after = view_after_giving_up claim.Request g v

      apart : (a : ℕ) → eqb a x ≡ false → eqb g (a + 1) ≡ false
      apart a e = grind (arith, nat_tests, e, at)

      all : (a b : ℕ) → eqb g (a + 1) ≡ false → (pairs_of old.rows a b && not (eqb (b + 1) g && has_fitting (a + 1) (mode_of g v.holders) (drop i v.waiting)))
          ≡ (pairs_of old.rows a b && not (eqb (b + 1) g && has_fitting (a + 1) (mode_of g v.holders) v.waiting))
      all a b n =
          subst (λ (k : ℕ). (pairs_of old.rows a b && not (eqb (b + 1) k && has_fitting (a + 1) (mode_of k v.holders) (drop i v.waiting))) ≡ (pairs_of old.rows a b && not (eqb (b + 1) k && has_fitting (a + 1) (mode_of k v.holders) v.waiting))) is
          (behind-alone (a + 1) (b + 1) v.holders v.waiting i d (pairs_of old.rows a b) once.rising once.once lt (ap (λ (k : ℕ). eqb k (a + 1)) is ∙ n) (written a b))

      go : (a b : ℕ) (t : Bool) → eqb a x ≡ t → (mid a b && not t) ≡ ((pairs_of old.rows a b && not (has_session (a + 1) v.waiting)) || view_blocks (a + 1) (b + 1) after)
      go a b true e =
          let same : a + 1 ≡ g = omega (arith, (Decides-eqb a x).0 e, at) in
          let left : has_session (a + 1) after.waiting ≡ false = has_session-without g (a + 1) v.waiting ∙ ap (λ (t : Bool). not t && has_session (a + 1) v.waiting) ((Decides-eqb (a + 1) g).1 same) in
          let waited : has_session (a + 1) v.waiting ≡ true = ap (λ (k : ℕ). has_session k v.waiting) same ∙ (claimed ∙ ap is_request claims) in
          and-false (mid a b) ∙ sym ((λ i. (pairs_of old.rows a b && not (waited i)) || blocks-none (a + 1) (b + 1) after left i) ∙ (or-false (pairs_of old.rows a b && false) ∙ and-false (pairs_of old.rows a b)))
      go a b false e =
          and-true (mid a b)
          ∙ narrowed v g (a + 1) (b + 1) (mode_of g v.holders) (pairs_of old.rows a b) (mid a b) _ (once.once (a + 1)) (removed a b ∙ all a b (apart a e)) (written a b)
          (λ n. blocks-none (a + 1) (b + 1) after (has_session-without g (a + 1) v.waiting ∙ (ap (λ (t : Bool). not (eqb (a + 1) g) && t) n ∙ and-false (not (eqb (a + 1) g)))))
          (λ m f. request-left (a + 1) (b + 1) g m v.holders v.waiting once.rising (apart a e) f)

-- two changes, one after the other

-- who waits after a lock or a request is given up waited before
pub still-waits : (p : GivenUp) (g s : ℕ) (v : View) → has_session s (view_after_giving_up p g v).waiting ≡ true → has_session s v.waiting ≡ true
still-waits claim.Lock g s v h = h
still-waits claim.Request g s v h = (and_parts (not (eqb s g)) (has_session s v.waiting) (sym (has_session-without g s v.waiting) ∙ h)).1

module _ (v x : View) (old mid : Waits) (f : DoFollow v x old mid) (still : (s : ℕ) → has_session s x.waiting ≡ true → has_session s v.waiting ≡ true) where
  -- after the first change the rows of who still waits are current
  pub written-mid : AreWritten x mid
  written-mid a b h =
      f.pairs a b
      ∙ (ap (λ (t : Bool). (pairs_of old.rows a b && not t) || view_blocks (a + 1) (b + 1) x) (still (a + 1) h) ∙ ap (λ (t : Bool). t || view_blocks (a + 1) (b + 1) x) (and-false (pairs_of old.rows a b)))

  -- rows that follow each change follow both
  pub follows-both : (y : View) (new : Waits) → DoFollow x y mid new → DoFollow v y old new
  follows-both y new g = record {
    sessions = g.sessions ∙ f.sessions;
    numbers = g.numbers ∙ f.numbers;
    pairs = λ a b.
        g.pairs a b ∙ (ap (λ (t : Bool). (t && not (has_session (a + 1) x.waiting)) || view_blocks (a + 1) (b + 1) y) (f.pairs a b) ∙ go a b (has_session (a + 1) x.waiting) refl);
  }
    where
      go : (a b : ℕ) (t : Bool) → has_session (a + 1) x.waiting ≡ t
          → ((((pairs_of old.rows a b && not (has_session (a + 1) v.waiting)) || view_blocks (a + 1) (b + 1) x) && not t) || view_blocks (a + 1) (b + 1) y) ≡ ((pairs_of old.rows a b && not (has_session (a + 1) v.waiting)) || view_blocks (a + 1) (b + 1) y)
      go a b true e =
          let p = pairs_of old.rows a b in
          ap (λ (t : Bool). t || view_blocks (a + 1) (b + 1) y) (and-false ((p && not (has_session (a + 1) v.waiting)) || view_blocks (a + 1) (b + 1) x)
          ∙ sym (ap (λ (t : Bool). p && not t) (still (a + 1) e) ∙ and-false p))
      go a b false e =
          let q = pairs_of old.rows a b && not (has_session (a + 1) v.waiting) in
          ap (λ (t : Bool). t || view_blocks (a + 1) (b + 1) y) (and-true (q || view_blocks (a + 1) (b + 1) x) ∙ (ap (λ (t : Bool). q || t) (blocks-none (a + 1) (b + 1) x e) ∙ or-false q))

-- the rows follow when a lock or a request is given up and the queue is promoted
pub follows-freeing : (p : GivenUp) (g : ℕ) (v x y seen now : View) (old mid new : Waits) → DoFollow v (view_after_giving_up p g v) old mid → x ≡ view_after_giving_up p g v → DoFollow x y mid new → v ≡ seen → y ≡ now → DoFollow seen now old new
follows-freeing p g v x y seen now old mid new f is h e k =
    subst (λ (t : View). DoFollow t now old new) e (subst (λ (t : View). DoFollow v t old new) k (follows-both v (view_after_giving_up p g v) old mid f (λ s. still-waits p g s v) y new (subst (λ (t : View). DoFollow t y mid new) is h)))
