-- The view of a resource after a session has given up its request and then its lock, or both at once.
use Rattle.lock_rules.specs.Sound.{after, ascend}
use Rattle.std.proofs.Common.{◌≡◌, ℕ, Bool, true, false, cond, not, eqb, ◌&&◌, ◌||◌, List, [], ◌∷◌, map, refl, sym, ◌∙◌, ap, arith}
use Rattle.std.proofs.lemmas.Bool.Decides.{nat_tests}
use Rattle.std.proofs.lemmas.Bool.{and_parts, cases_Bool}
use Rattle.lock_modes.specs.Compatibility.{are_compatible}
use Rattle.lock_rules.proofs.Lists.{after-trans}
use Rattle.lock_holders.specs.declared.session_mode.SessionMode.{SessionMode}
use Rattle.lock_table.specs.declared.cells.GivenUp.TheVariants as claim
use Rattle.lock_table.specs.inner.Cells.{View, view_after_grants, view_after_promotion, view_after_freeing}
use Rattle.lock_holders.specs.SessionModes.{has_session, pair_of, with_holder, without, fits_among, Ascends}
use Rattle.lock_table.specs.Changes.{view_after_unlock, view_after_end}
use Rattle.lock_holders.proofs.SessionModes.{has_session-with_holder, has_session-without, without-none}
use Rattle.lock_holders.proofs.Rising.{IsAfter, ascends-with, after-without}

-- a holder below all others is inserted first
with-first : (c : SessionMode) (hs : List SessionMode) → IsAfter c.session hs → with_holder c hs ≡ c ∷ hs
with-first c [] h = refl
with-first c (k ∷ hs) h = grind (arith, nat_tests)

-- removing a session and granting to another one can be exchanged
without-with : (s : ℕ) (c : SessionMode) (hs : List SessionMode) → eqb c.session s ≡ false → Ascends hs → without s (with_holder c hs) ≡ with_holder c (without s hs)
without-with s c [] n h = grind (arith, nat_tests)
without-with s c (k ∷ hs) n h =
    let p = and_parts (after k.session (map pair_of hs)) (ascend (map pair_of hs)) h in
    let a = after-trans c.session k.session (map pair_of hs) in
    let b = after-without c.session s hs in
    let f = with-first c (without s hs) in
    grind (arith, nat_tests, p.0, a, b, f, without-with s c hs n p.1)

-- a mode that fits still fits after a session is removed
fits-without : (c : SessionMode) (s : ℕ) (hs : List SessionMode) → fits_among c hs ≡ true → fits_among c (without s hs) ≡ true
fits-without c s [] h = h
fits-without c s (k ∷ hs) h = grind (arith, cases_Bool (eqb k.session s), cases_Bool (eqb k.session c.session), cases_Bool (are_compatible c.mode k.mode), fits-without c s hs)

-- a session that is not in a queue has neither the first request nor a later one
apart-first : (s : ℕ) (q : SessionMode) (qs : List SessionMode) → has_session s (q ∷ qs) ≡ false → (eqb q.session s ≡ false) × (has_session s qs ≡ false)
apart-first s q qs h = go (eqb q.session s) h
  where
    go : (b : Bool) → (b || has_session s qs) ≡ false → (b ≡ false) × (has_session s qs ≡ false)
    go true h = absurd (cc)
    go false h = (refl, h)

-- a promotion before a session is removed grants nothing that the promotion after it does not
leave-last : (s : ℕ) (hs qs : List SessionMode) → Ascends hs → has_session s qs ≡ false → view_after_freeing claim.Lock s (view_after_grants hs qs) ≡ view_after_grants (without s hs) qs
leave-last s hs [] a n = refl
leave-last s hs (q ∷ qs) a n = go (fits_among q hs) refl (leave-last s (with_holder q hs) qs (ascends-with q hs a) (apart-first s q qs n).1)
  where
    go : (b : Bool) → fits_among q hs ≡ b → view_after_freeing claim.Lock s (view_after_grants (with_holder q hs) qs) ≡ view_after_grants (without s (with_holder q hs)) qs
        → view_after_freeing claim.Lock s (cond b (view_after_grants (with_holder q hs) qs) (record { holders = hs; waiting = q ∷ qs })) ≡ view_after_grants (without s hs) (q ∷ qs)
    go false e next = refl
    go true e next =
        next ∙ (ap (λ (xs : List SessionMode). view_after_grants xs qs) (without-with s q hs (apart-first s q qs n).0 a)
        ∙ sym (ap (λ (b : Bool). cond b (view_after_grants (with_holder q (without s hs)) qs) (record { holders = without s hs; waiting = q ∷ qs })) (fits-without q s hs e)))

-- a promotion grants nothing to a session that does not wait
holds-still : (s : ℕ) (hs qs : List SessionMode) → has_session s qs ≡ false → has_session s (view_after_grants hs qs).holders ≡ has_session s hs
holds-still s hs [] n = refl
holds-still s hs (q ∷ qs) n = go (fits_among q hs) (holds-still s (with_holder q hs) qs (apart-first s q qs n).1)
  where
    go : (b : Bool) → has_session s (view_after_grants (with_holder q hs) qs).holders ≡ has_session s (with_holder q hs)
        → has_session s (cond b (view_after_grants (with_holder q hs) qs) (record { holders = hs; waiting = q ∷ qs })).holders ≡ has_session s hs
    go false next = refl
    go true next = next ∙ (has_session-with_holder s q hs ∙ ap (λ (b : Bool). b || has_session s hs) (apart-first s q qs n).0)

-- the view without the lock and the request of a session
abbrev pub view_without : ℕ → View → View
view_without s v = record { holders = without s v.holders; waiting = without s v.waiting }

module _ (s : ℕ) (v : View) (a : Ascends v.holders) where
  -- the session does not wait after its request is removed
  none-waits : has_session s (without s v.waiting) ≡ false
  none-waits = has_session-without s s v.waiting ∙ ap (λ (b : Bool). not b && has_session s v.waiting) (let e : eqb s s ≡ true = grind (arith, nat_tests) in e)

  -- removing both at once and promoting gives the view after removing one after the other
  pub gone-ended : cond (has_session s v.waiting || has_session s v.holders) (view_after_promotion (view_without s v)) (view_without s v) ≡ view_after_end s v
  gone-ended = go (has_session s v.waiting) refl
    where
      held : (h : Bool) → has_session s v.holders ≡ h → without s v.waiting ≡ v.waiting → cond h (view_after_promotion (view_without s v)) (view_without s v) ≡ cond h (view_after_freeing claim.Lock s v) v
      held true e w = ap (view_after_grants (without s v.holders)) w
      held false e w = let hs = without-none s v.holders e in λ i. record { holders = hs i; waiting = w i }

      waiting : (h : Bool) → has_session s v.holders ≡ h → view_after_promotion (view_without s v) ≡ cond h (view_after_freeing claim.Lock s (view_after_freeing claim.Request s v)) (view_after_freeing claim.Request s v)
      waiting true e = sym (leave-last s v.holders (without s v.waiting) a none-waits)
      waiting false e = ap (λ (hs : List SessionMode). view_after_grants hs (without s v.waiting)) (without-none s v.holders e)

      go : (w : Bool) → has_session s v.waiting ≡ w → cond (w || has_session s v.holders) (view_after_promotion (view_without s v)) (view_without s v) ≡ view_after_unlock s (cond w (view_after_freeing claim.Request s v) v)
      go false e = held (has_session s v.holders) refl (without-none s v.waiting e)
      go true e =
          waiting (has_session s v.holders) refl
          ∙ sym (ap (λ (b : Bool). cond b (view_after_freeing claim.Lock s (view_after_freeing claim.Request s v)) (view_after_freeing claim.Request s v)) (holds-still s v.holders (without s v.waiting) none-waits))
