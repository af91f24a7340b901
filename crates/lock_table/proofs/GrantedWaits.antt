-- The waits-for rows of the sessions that wait for one resource lose the edges to requests that are granted.
use Rattle.std.proofs.Common.{◌≡◌, ℕ, zero, suc, ◌+◌, ◌≤◌, Bool, true, false, cond, not, eqb, ◌&&◌, ◌||◌, inl, inr, List, [], ◌∷◌, take, drop, Option, Some, None, is_some, refl, sym, ◌∙◌, ap, arith}
use Rattle.std.specs.List.{list_any}
use Rattle.std.proofs.lemmas.Bool.Decides.{Decides-eqb}
use Rattle.std.proofs.Math.Bool.{and-true, and-false, or-false}
use Rattle.waits_for.specs.Pairs.{pairs_of}
use Rattle.lock_modes.specs.declared.Mode.{Mode}
use Rattle.lock_modes.specs.Compatibility.{are_compatible}
use Rattle.lock_holders.specs.declared.session_mode.SessionMode.{SessionMode}
use Rattle.lock_table.specs.declared.wait_graph.Waits.{Waits}
use Rattle.lock_table.specs.inner.Cells.{View}
use Rattle.lock_holders.specs.SessionModes.{has_session, mode_of, times, with_holder, Ascends, holder_blocks}
use Rattle.lock_table.specs.inner.Blocking.{is_ahead, target_blocks, view_blocks, fits_beside, has_fitting_beside, with_holders, HasGranted, DoFollow}
use Rattle.lock_holders.proofs.Rising.{ascends-with}
use Rattle.lock_table.proofs.ResourceViews.{both}
use Rattle.lock_holders.proofs.SessionModes.{mode-has, has_tells}
use Rattle.lock_table.proofs.WritingWaits.{blocks-none}
use Rattle.lock_table.proofs.QueuedSessions.{any-none, gone, any-some, blocks-as-held, mode-with, blocks-with, none-ahead, has-split, times-split, mode-behind}

-- requests are granted

-- one of these granted sessions is `u`, and mode `m` is compatible with its mode
abbrev lets : Mode → ℕ → List SessionMode → Bool
lets m u gs = list_any (λ g. eqb g.session u && are_compatible m g.mode) gs

-- who waits behind a request that is granted is blocked as before, but not by that session if its target is compatible
grant-left : (s u : ℕ) (m : Mode) (q : SessionMode) (hs ws : List SessionMode) → Ascends hs → eqb q.session s ≡ false → has_session q.session ws ≡ false → mode_of s ws ≡ Some m
    → view_blocks s u (both (with_holder q hs) ws) ≡ (view_blocks s u (both hs (q ∷ ws)) && not (eqb q.session u && are_compatible m q.mode))
grant-left s u m q hs ws rising n absent f =
    ap (target_blocks s u (both (with_holder q hs) ws)) f ∙ (go (eqb q.session u) refl ∙ sym (ap (λ (b : Bool). b && not (eqb q.session u && are_compatible m q.mode)) before))
  where
    before : view_blocks s u (both hs (q ∷ ws)) ≡ (holder_blocks s m u hs || (eqb q.session u || is_ahead u s ws))
    before =
        ap (λ (b : Bool). target_blocks s u (both hs (q ∷ ws)) (cond b (Some q.mode) (mode_of s ws))) n
        ∙ (ap (target_blocks s u (both hs (q ∷ ws))) f ∙ ap (λ (b : Bool). holder_blocks s m u hs || cond b false (eqb q.session u || is_ahead u s ws)) n)

    as-holder : (h c : Bool) → (not c || false) ≡ ((h || true) && not c)
    as-holder true c = or-false (not c)
    as-holder false c = or-false (not c)

    go : (b : Bool) → eqb q.session u ≡ b → (holder_blocks s m u (with_holder q hs) || is_ahead u s ws) ≡ ((holder_blocks s m u hs || (b || is_ahead u s ws)) && not (b && are_compatible m q.mode))
    go true e =
        let same : q.session ≡ u = (Decides-eqb q.session u).0 e in
        let held : holder_blocks s m u (with_holder q hs) ≡ not (are_compatible m q.mode) = ap (λ (i : ℕ). holder_blocks s m i (with_holder q hs)) (sym same)
        ∙ (blocks-as-held s q.session m (with_holder q hs) (ascends-with q hs rising) n ∙ ap (λ (o : Option Mode). not (fits_beside o m)) (mode-with q hs)) in
        let none : is_ahead u s ws ≡ false = none-ahead s u ws (ap (λ (i : ℕ). has_session i ws) (sym same) ∙ absent) in
        (λ i. held i || none i) ∙ as-holder (holder_blocks s m u hs) (are_compatible m q.mode)
    go false e = ap (λ (b : Bool). b || is_ahead u s ws) (blocks-with s u m q hs e) ∙ sym (and-true (holder_blocks s m u hs || is_ahead u s ws))

-- who waits behind requests that are granted is blocked as before, but not by those beside whom it fits
grants-left : (s u : ℕ) (m : Mode) (hs ws : List SessionMode) (n : ℕ) → Ascends hs → ((t : ℕ) → times t ws ≤ 1) → mode_of s (drop n ws) ≡ Some m
    → view_blocks s u (both (with_holders (take n ws) hs) (drop n ws)) ≡ (view_blocks s u (both hs ws) && not (lets m u (take n ws)))
grants-left s u m hs ws zero rising once f = sym (and-true (view_blocks s u (both hs ws)))
grants-left s u m hs [] (suc n) rising once f = absurd (cc)
grants-left s u m hs (q ∷ ws) (suc n) rising once f =
    grants-left s u m (with_holder q hs) ws n (ascends-with q hs rising) (λ t. omega (arith, once t)) f
    ∙ (ap (λ (b : Bool). b && not (lets m u (take n ws))) (grant-left s u m q hs ws rising apart absent behind.0)
    ∙ joined (view_blocks s u (both hs (q ∷ ws))) (eqb q.session u && are_compatible m q.mode) (lets m u (take n ws)))
  where
    behind : (mode_of s ws ≡ Some m) × (1 ≤ times s ws)
    behind = mode-behind s m ws n (omega (arith, once s)) f

    apart : eqb q.session s ≡ false
    apart = go (eqb q.session s) (once s)
      where
        go : (b : Bool) → cond b 1 0 + times s ws ≤ 1 → b ≡ false
        go true h = absurd (omega (arith, h, behind.1))
        go false h = refl

    absent : has_session q.session ws ≡ false
    absent = gone q.session ws (go (eqb q.session q.session) ((Decides-eqb q.session q.session).1 refl) (once q.session))
      where
        go : (b : Bool) → b ≡ true → cond b 1 0 + times q.session ws ≤ 1 → 1 + times q.session ws ≤ 1
        go true e h = h
        go false e h = absurd (cc)

    joined : (x a b : Bool) → ((x && not a) && not b) ≡ (x && not (a || b))
    joined true true b = refl
    joined true false b = refl
    joined false a b = refl

-- no granted session fits a session that doesn't wait behind
no-fitting : (s u : ℕ) (gs ws : List SessionMode) → has_session s ws ≡ false → has_fitting_beside s u gs ws ≡ false
no-fitting s u [] ws h = refl
no-fitting s u (g ∷ gs) ws h = (λ i. (eqb g.session u && any-none s (fits_beside (Some g.mode)) ws h i) || no-fitting s u gs ws h i) ∙ ap (λ (b : Bool). b || false) (and-false (eqb g.session u))

-- one that waits behind fits exactly if its target is compatible
some-fitting : (s u : ℕ) (m : Mode) (gs ws : List SessionMode) → mode_of s ws ≡ Some m → times s ws ≤ 1 → has_fitting_beside s u gs ws ≡ lets m u gs
some-fitting s u m [] ws f h = refl
some-fitting s u m (g ∷ gs) ws f h = λ i. (eqb g.session u && any-some s (fits_beside (Some g.mode)) m ws f h i) || some-fitting s u m gs ws f h i

-- the rows follow when the rows of those that are granted are cleared, and their edges removed from requests that fit
-- beside them
module _ (n : ℕ) (now x : View) (old new : Waits) (h : HasGranted n now old) (once : (t : ℕ) → times t now.waiting ≤ 1) (held : x.holders ≡ now.holders) (left : x.waiting ≡ drop n now.waiting)
    (pairs : (a b : ℕ) → pairs_of new.rows a b ≡ ((pairs_of old.rows a b && not (has_session (a + 1) (take n now.waiting))) && not (has_fitting_beside (a + 1) (b + 1) (take n now.waiting) (drop n now.waiting)))) where
  abbrev before : View
  before = both h.before now.waiting

  abbrev gs : List SessionMode
  gs = take n now.waiting

  abbrev ws : List SessionMode
  ws = drop n now.waiting

  all-granted : x ≡ both (with_holders gs h.before) ws
  all-granted = λ i. both ((held ∙ h.holders) i) (left i)

  here : (s : ℕ) → has_session s now.waiting ≡ (has_session s gs || has_session s ws)
  here s = sym (has-split s now.waiting n)

  granted-pair : (a b : ℕ) (t : Bool) (o : Option Mode) → has_session (a + 1) gs ≡ t → mode_of (a + 1) ws ≡ o
      → ((pairs_of old.rows a b && not t) && not (has_fitting_beside (a + 1) (b + 1) gs ws)) ≡ ((pairs_of old.rows a b && not (has_session (a + 1) now.waiting)) || view_blocks (a + 1) (b + 1) x)
  granted-pair a b true None e f =
      let p = pairs_of old.rows a b in
      let none : has_session (a + 1) ws ≡ false = sym (mode-has (a + 1) ws) ∙ ap is_some f in
      let there : has_session (a + 1) now.waiting ≡ true = here (a + 1) ∙ (λ i. e i || none i) in
      ap (λ (c : Bool). c && not (has_fitting_beside (a + 1) (b + 1) gs ws)) (and-false p)
      ∙ sym ((λ i. (p && not (there i)) || blocks-none (a + 1) (b + 1) x (ap (has_session (a + 1)) left ∙ none) i) ∙ (or-false (p && false) ∙ and-false p))
  granted-pair a b true (Some m) e f = absurd (elim (has_tells (a + 1) gs) [
    | inl k ↦ elim (has_tells (a + 1) ws) [
      | inl l ↦ omega (arith, k.1, l.1, times-split (a + 1) now.waiting n, once (a + 1))
      | inr l ↦ let is = sym (mode-has (a + 1) ws) ∙ ap is_some f in let z = l.0 in cc
    ]
    | inr k ↦ let z = k.0 in cc
  ])
  granted-pair a b false None e f =
      let p = pairs_of old.rows a b in
      let none : has_session (a + 1) ws ≡ false = sym (mode-has (a + 1) ws) ∙ ap is_some f in
      let there : has_session (a + 1) now.waiting ≡ false = here (a + 1) ∙ (λ i. e i || none i) in
      ap (λ (c : Bool). (p && true) && not c) (no-fitting (a + 1) (b + 1) gs ws none)
      ∙ (and-true (p && true) ∙ sym ((λ i. (p && not (there i)) || blocks-none (a + 1) (b + 1) x (ap (has_session (a + 1)) left ∙ none) i) ∙ or-false (p && true)))
  granted-pair a b false (Some m) e f =
      let p = pairs_of old.rows a b in
      let some : has_session (a + 1) ws ≡ true = sym (mode-has (a + 1) ws) ∙ ap is_some f in
      let there : has_session (a + 1) now.waiting ≡ true = here (a + 1) ∙ (λ i. e i || some i) in
      let few : times (a + 1) ws ≤ 1 = omega (arith, times-split (a + 1) now.waiting n, once (a + 1)) in
      (λ i. (h.written a b there i && true) && not (some-fitting (a + 1) (b + 1) m gs ws f few i))
      ∙ (ap (λ (c : Bool). c && not (lets m (b + 1) gs)) (and-true (view_blocks (a + 1) (b + 1) before))
      ∙ (sym (grants-left (a + 1) (b + 1) m h.before now.waiting n h.rising once f)
      ∙ sym ((λ i. (p && not (there i)) || view_blocks (a + 1) (b + 1) (all-granted i)) ∙ ap (λ (c : Bool). c || view_blocks (a + 1) (b + 1) (both (with_holders gs h.before) ws)) (and-false p))))

  pub follows-granted : new.rows.sessions ≡ old.rows.sessions → new.numbers ≡ old.numbers → DoFollow before x old new
  follows-granted sessions numbers = record {
    sessions = sessions;
    numbers = numbers;
    pairs = λ a b. pairs a b ∙ granted-pair a b (has_session (a + 1) gs) (mode_of (a + 1) ws) refl refl;
  }

-- the holders after one more grant
pub with-next : (hs ws : List SessionMode) (n : ℕ) (c : SessionMode) (rest : List SessionMode) → drop n ws ≡ c ∷ rest → with_holders (take (suc n) ws) hs ≡ with_holder c (with_holders (take n ws) hs)
with-next hs ws zero c rest e = ap (λ (xs : List SessionMode). with_holders (take (suc zero) xs) hs) e
with-next hs [] (suc n) c rest e = absurd (cc)
with-next hs (q ∷ ws) (suc n) c rest e = with-next (with_holder q hs) ws n c rest e
