-- One session among the holders and in the queue of a resource: its request, its mode, whom it blocks, and what stays of that
-- without another session.
use Rattle.std.proofs.Common.{◌≡◌, ℕ, zero, suc, ◌+◌, ◌-◌, ◌≤◌, Bool, true, false, cond, not, eqb, ◌&&◌, ◌||◌, inl, inr, List, [], ◌∷◌, map, length, take, drop, Some, None, is_some, refl, sym, ◌∙◌, ap, arith}
use Rattle.std.specs.List.{list_any}
use Rattle.std.proofs.lemmas.Bool.{and_parts, or_parts, or_right}
use Rattle.std.proofs.lemmas.Bool.Decides.{nat_tests, Decides-eqb}
use Rattle.std.proofs.lemmas.List.{take_all, length-drop}
use Rattle.std.proofs.Math.Bool.{and-true, and-false, or-false}
use Rattle.lock_modes.specs.declared.Mode.{Mode}
use Rattle.lock_modes.specs.Compatibility.{are_compatible}
use Rattle.lock_rules.specs.Sound.{after, ascend}
use Rattle.lock_holders.specs.declared.session_mode.SessionMode.{SessionMode}
use Rattle.lock_holders.specs.SessionModes.{has_session, mode_of, times, with_holder, without, pair_of, Ascends, holder_blocks}
use Rattle.lock_table.specs.inner.Blocking.{is_ahead, fits_beside}
use Rattle.lock_holders.proofs.Rising.{IsAfter}
use Rattle.lock_holders.proofs.SessionModes.{mode-has, has_tells}

-- the one request of a session

-- no request of a session that is not in the queue passes a test
pub any-none : (s : ℕ) (p : Mode → Bool) (ws : List SessionMode) → has_session s ws ≡ false → list_any (λ w. eqb w.session s && p w.mode) ws ≡ false
any-none s p [] h = refl
any-none s p (w ∷ ws) h = go (eqb w.session s) h (any-none s p ws)
  where
    go : (b : Bool) → (b || has_session s ws) ≡ false → (has_session s ws ≡ false → list_any (λ w. eqb w.session s && p w.mode) ws ≡ false) → ((b && p w.mode) || list_any (λ w. eqb w.session s && p w.mode) ws) ≡ false
    go true h next = absurd (cc)
    go false h next = next h

-- a session that is first in the queue, and in it once, is not behind
pub gone : (s : ℕ) (ws : List SessionMode) → 1 + times s ws ≤ 1 → has_session s ws ≡ false
gone s ws h = elim (has_tells s ws) [
  | inl k ↦ absurd (omega (arith, k.1, h))
  | inr k ↦ k.0
]

-- the request of a session that is in the queue once passes a test exactly if its target does
pub any-some : (s : ℕ) (p : Mode → Bool) (m : Mode) (ws : List SessionMode) → mode_of s ws ≡ Some m → times s ws ≤ 1 → list_any (λ w. eqb w.session s && p w.mode) ws ≡ p m
any-some s p m [] f h = absurd (cc)
any-some s p m (w ∷ ws) f h = go (eqb w.session s) f h (any-some s p m ws)
  where
    go : (b : Bool) → cond b (Some w.mode) (mode_of s ws) ≡ Some m → cond b 1 0 + times s ws ≤ 1 → (mode_of s ws ≡ Some m → times s ws ≤ 1 → list_any (λ w. eqb w.session s && p w.mode) ws ≡ p m)
        → ((b && p w.mode) || list_any (λ w. eqb w.session s && p w.mode) ws) ≡ p m
    go true f h next =
        let same : w.mode ≡ m = cc in
        ap (λ (o : Bool). p w.mode || o) (any-none s p ws (gone s ws h)) ∙ (or-false (p w.mode) ∙ ap p same)
    go false f h next = next f (omega (arith, h))

-- the holders

-- a session that is no holder blocks nobody as a holder
pub none-blocks : (s u : ℕ) (m : Mode) (hs : List SessionMode) → has_session u hs ≡ false → holder_blocks s m u hs ≡ false
none-blocks s u m [] h = refl
none-blocks s u m (k ∷ hs) h = go (eqb k.session u) h (none-blocks s u m hs)
  where
    go : (b : Bool) → (b || has_session u hs) ≡ false → (has_session u hs ≡ false → holder_blocks s m u hs ≡ false) → ((b && (not (eqb k.session s) && not (are_compatible m k.mode))) || holder_blocks s m u hs) ≡ false
    go true e next = absurd (cc)
    go false e next = next e

-- a session below all holders is no holder
after-none : (s : ℕ) (hs : List SessionMode) → IsAfter s hs → has_session s hs ≡ false
after-none s [] h = refl
after-none s (k ∷ hs) h = grind (arith, nat_tests, after-none s hs)

-- the first holder holds once
first-once : (k : SessionMode) (hs : List SessionMode) → Ascends (k ∷ hs) → has_session k.session hs ≡ false
first-once k hs h = after-none k.session hs (and_parts (after k.session (map pair_of hs)) (ascend (map pair_of hs)) h).0

-- a session blocks another request as a holder exactly if the request doesn't fit beside what it holds
pub blocks-as-held : (s u : ℕ) (m : Mode) (hs : List SessionMode) → Ascends hs → eqb u s ≡ false → holder_blocks s m u hs ≡ not (fits_beside (mode_of u hs) m)
blocks-as-held s u m [] h n = refl
blocks-as-held s u m (k ∷ hs) h n = go (eqb k.session u) refl (blocks-as-held s u m hs (and_parts (after k.session (map pair_of hs)) (ascend (map pair_of hs)) h).1 n)
  where
    go : (b : Bool) → eqb k.session u ≡ b → holder_blocks s m u hs ≡ not (fits_beside (mode_of u hs) m)
        → ((b && (not (eqb k.session s) && not (are_compatible m k.mode))) || holder_blocks s m u hs) ≡ not (fits_beside (cond b (Some k.mode) (mode_of u hs)) m)
    go true e next =
        let same : k.session ≡ u = (Decides-eqb k.session u).0 e in
        let other : eqb k.session s ≡ false = ap (λ (i : ℕ). eqb i s) same ∙ n in
        let rest : holder_blocks s m u hs ≡ false = none-blocks s u m hs (ap (λ (i : ℕ). has_session i hs) (sym same) ∙ first-once k hs h) in
        (λ i. (not (other i) && not (are_compatible m k.mode)) || rest i) ∙ or-false (not (are_compatible m k.mode))
    go false e next = next

-- the mode of a new holder
pub mode-with : (c : SessionMode) (hs : List SessionMode) → mode_of c.session (with_holder c hs) ≡ Some c.mode
mode-with c [] = ap (λ (b : Bool). cond b (Some c.mode) None) ((Decides-eqb c.session c.session).1 refl)
mode-with c (h ∷ hs) = grind (arith, nat_tests, mode-with c hs)

-- a new holder doesn't change how others block
pub blocks-with : (s u : ℕ) (m : Mode) (c : SessionMode) (hs : List SessionMode) → eqb c.session u ≡ false → holder_blocks s m u (with_holder c hs) ≡ holder_blocks s m u hs
blocks-with s u m c [] n = ap (λ (b : Bool). (b && (not (eqb c.session s) && not (are_compatible m c.mode))) || false) n
blocks-with s u m c (h ∷ hs) n = grind (arith, nat_tests, n, blocks-with s u m c hs n)

-- the holders without one session: it blocks nobody, and the others block as before
pub blocks-without : (s u g : ℕ) (m : Mode) (hs : List SessionMode) → holder_blocks s m u (without g hs) ≡ (holder_blocks s m u hs && not (eqb u g))
blocks-without s u g m [] = refl
blocks-without s u g m (h ∷ hs) = go (eqb h.session g) refl (blocks-without s u g m hs)
  where
    conflicts : Bool
    conflicts = not (eqb h.session s) && not (are_compatible m h.mode)

    own : (x k t e : Bool) → (e ≡ false → x ≡ false) → (t && not e) ≡ (((x && k) || t) && not e)
    own x k t true n = and-false t ∙ sym (and-false ((x && k) || t))
    own x k t false n = ap (λ (b : Bool). ((b && k) || t) && true) (sym (n refl))

    other : (x k t e : Bool) → (e ≡ true → x ≡ false) → ((x && k) || (t && not e)) ≡ (((x && k) || t) && not e)
    other x k t true n = ap (λ (b : Bool). (b && k) || (t && false)) (n refl) ∙ sym (ap (λ (b : Bool). ((b && k) || t) && false) (n refl))
    other x k t false n = ap (λ (b : Bool). (x && k) || b) (and-true t) ∙ sym (and-true ((x && k) || t))

    apart : h.session ≡ g → eqb u g ≡ false → eqb h.session u ≡ false
    apart e n = grind (arith, nat_tests, e, n)

    differs : eqb h.session g ≡ false → eqb u g ≡ true → eqb h.session u ≡ false
    differs e n = ap (eqb h.session) ((Decides-eqb u g).0 n) ∙ e

    go : (b : Bool) → eqb h.session g ≡ b → holder_blocks s m u (without g hs) ≡ (holder_blocks s m u hs && not (eqb u g))
        → holder_blocks s m u (cond (not b) (h ∷ without g hs) (without g hs)) ≡ (((eqb h.session u && conflicts) || holder_blocks s m u hs) && not (eqb u g))
    go true e next = next ∙ own (eqb h.session u) conflicts (holder_blocks s m u hs) (eqb u g) (apart ((Decides-eqb h.session g).0 e))
    go false e next = ap (λ (b : Bool). (eqb h.session u && conflicts) || b) next ∙ other (eqb h.session u) conflicts (holder_blocks s m u hs) (eqb u g) (differs e)

-- the queue

-- a session that is not in the queue is ahead of nobody
pub none-ahead : (s u : ℕ) (ws : List SessionMode) → has_session u ws ≡ false → is_ahead u s ws ≡ false
none-ahead s u [] h = refl
none-ahead s u (q ∷ ws) h = grind (arith, nat_tests, none-ahead s u ws)

-- the queue without one session: it is ahead of nobody, and the others are as before
pub ahead-without : (s u g : ℕ) (ws : List SessionMode) → eqb g s ≡ false → is_ahead u s (without g ws) ≡ (is_ahead u s ws && not (eqb u g))
ahead-without s u g [] n = refl
ahead-without s u g (q ∷ ws) n = grind (arith, nat_tests, n, ahead-without s u g ws n)

-- a session leaves the queue: the targets of others are unchanged
pub mode-without : (s g : ℕ) (ws : List SessionMode) → eqb g s ≡ false → mode_of s (without g ws) ≡ mode_of s ws
mode-without s g [] n = refl
mode-without s g (q ∷ ws) n = grind (arith, nat_tests, n, mode-without s g ws n)

-- the first requests and those behind

-- a session is among the first requests or behind
pub has-split : (s : ℕ) (ws : List SessionMode) (n : ℕ) → (has_session s (take n ws) || has_session s (drop n ws)) ≡ has_session s ws
has-split s ws zero = refl
has-split s [] (suc n) = refl
has-split s (q ∷ ws) (suc n) = grind (arith, nat_tests, has-split s ws n)

-- how often it is there
pub times-split : (s : ℕ) (ws : List SessionMode) (n : ℕ) → times s (take n ws) + times s (drop n ws) ≡ times s ws
times-split s ws zero = omega arith
times-split s [] (suc n) = omega arith
times-split s (q ∷ ws) (suc n) = let k = times-split s ws n in grind (arith, nat_tests, k)

-- as many requests as are behind are all of them
pub all-behind : (ws : List SessionMode) (n : ℕ) → take (length ws - n) (drop n ws) ≡ drop n ws
all-behind ws n = take_all (length ws - n) (drop n ws) (let e = length-drop n ws in omega (arith, e))

-- a session behind is in the queue once, if it is in the queue once
pub times-behind : (s : ℕ) (ws : List SessionMode) (n : ℕ) → times s ws ≤ 1 → times s (drop n ws) ≤ 1
times-behind s ws n h = omega (arith, times-split s ws n, h)

-- if the rows of the queue were cleared, those of the requests behind are empty
pub emptied-behind : (s : ℕ) (ws : List SessionMode) (n : ℕ) (old : Bool) {mid : Bool} → mid ≡ (old && not (has_session s ws)) → has_session s (drop n ws) ≡ true → mid ≡ false
emptied-behind s ws n old is h = is ∙ (ap (λ (b : Bool). old && not b) (sym (has-split s ws n) ∙ or_right (has_session s (take n ws)) (has_session s (drop n ws)) h) ∙ and-false old)

-- the mode of a session behind, if it is in the queue once
pub mode-behind : (s : ℕ) (m : Mode) (ws : List SessionMode) (n : ℕ) → times s ws ≤ 1 → mode_of s (drop n ws) ≡ Some m → (mode_of s ws ≡ Some m) × (1 ≤ times s ws)
mode-behind s m ws zero h f = (f, elim (has_tells s ws) [ inl k ↦ k.1 | inr k ↦ absurd (let e = sym (mode-has s ws) ∙ ap is_some f in let z = k.0 in cc) ])
mode-behind s m [] (suc n) h f = absurd (cc)
mode-behind s m (q ∷ ws) (suc n) h f = go (eqb q.session s) h (mode-behind s m ws n)
  where
    go : (b : Bool) → cond b 1 0 + times s ws ≤ 1 → (times s ws ≤ 1 → mode_of s (drop n ws) ≡ Some m → (mode_of s ws ≡ Some m) × (1 ≤ times s ws)) → (cond b (Some q.mode) (mode_of s ws) ≡ Some m) × (1 ≤ cond b 1 0 + times s ws)
    go true h next = absurd (omega (arith, h, (next (omega (arith, h)) f).1))
    go false h next = let k = next (omega (arith, h)) f in (k.0, omega (arith, k.1))

-- a session in front of another has it not ahead
pub front-ahead : (s g : ℕ) (ws : List SessionMode) (i : ℕ) → has_session s (take i ws) ≡ true → has_session g (take i ws) ≡ false → is_ahead g s ws ≡ false
front-ahead s g [] i h n = refl
front-ahead s g (q ∷ ws) zero h n = absurd (cc)
front-ahead s g (q ∷ ws) (suc i) h n = go (eqb q.session s) h (front-ahead s g ws i)
  where
    rest : (eqb q.session g ≡ false) × (has_session g (take i ws) ≡ false)
    rest = or_parts (eqb q.session g) (has_session g (take i ws)) n

    go : (b : Bool) → (b || has_session s (take i ws)) ≡ true → (has_session s (take i ws) ≡ true → has_session g (take i ws) ≡ false → is_ahead g s ws ≡ false) → cond b false (eqb q.session g || is_ahead g s ws) ≡ false
    go true h next = refl
    go false h next = (λ j. rest.0 j || next h rest.1 j)

-- a change to nothing changes nothing
pub from-none : (p x : Bool) → x ≡ ((p && false) || x)
from-none true x = refl
from-none false x = refl
