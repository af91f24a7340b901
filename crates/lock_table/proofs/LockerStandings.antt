-- What a grant does to the lockers.
use Rattle.std.proofs.Common.{◌≡◌, ℕ, zero, suc, ◌+◌, ◌<◌, Bool, true, false, cond, eqb, ◌||◌, inl, inr, List, [], ◌∷◌, ◌++◌, length, map, get_or, set, refl, sym, ◌∙◌, ap, arith}
use Rattle.std.proofs.lemmas.Bool.{or_right, cases_Bool}
use Rattle.std.proofs.lemmas.Bool.Decides.{nat_tests, Decides-eqb}
use Rattle.std.proofs.lemmas.List.{get_or-set_same, get_or-set_other}
use Rattle.lock_tree.specs.Paths.{same_path}
use Rattle.lock_rules.proofs.Lists.{same_path-refl}
use Rattle.lock_rules.proofs.Alters.{true≢false}
use Rattle.lock_holders.specs.declared.session_mode.SessionMode.{SessionMode}
use Rattle.lock_table.specs.declared.lockers.Locker.{Locker}
use Rattle.lock_table.specs.inner.Cells.{View, IsOnce}
use Rattle.lock_holders.specs.SessionModes.{has_session, times}
use Rattle.session_locks.specs.Resources.{has_path}
use Rattle.lock_table.specs.inner.Lockers.{Standing, no_standing, standing_of, standings_of, standing_at, is_wanted, with_path, standing_after_grant, IsSameOrGranted, AreSameOrGranted, DoAgree}
use Rattle.lock_holders.proofs.SessionModes.{has_tells, has_session-with_holder}
use Rattle.session_locks.proofs.ResourceLists.{has_path-push}
use Rattle.lock_table.proofs.ResourceViews.{IsNext}

-- lists of resources

-- lockers

-- session `s` has a locker, at index `i`
pub record IsPositionOf (s i : ℕ) (ws : List Locker) : Type 0 where
  pub session : suc i ≡ s
  pub within : i < length ws

-- a locker that is written changes the standing of its session alone
pub standings-set : (ws : List Locker) (s : ℕ) {i : ℕ} (w : Locker) → suc i ≡ s → standings_of (set ws i w) ≡ set (standings_of ws) s (standing_of w)
standings-set ws s {i} w e = rw (← e) (ap (λ (ss : List Standing). no_standing ∷ ss) (go ws i))
  where
    go : (xs : List Locker) (j : ℕ) → map standing_of (set xs j w) ≡ set (map standing_of xs) j (standing_of w)
    go [] j = refl
    go (x ∷ xs) zero = refl
    go (x ∷ xs) (suc j) = ap (λ (ss : List Standing). standing_of x ∷ ss) (go xs j)

-- the standing of a session is what the locker at its index says
pub standing-here : (ws : List Locker) (s : ℕ) {i : ℕ} (w : Locker) → IsPositionOf s i ws → w ≡ get_or ws i w → standing_at s (standings_of ws) ≡ standing_of w
standing-here ws s {i} w p at = rw (← p.session) (go ws i p.within at)
  where
    go : (xs : List Locker) (j : ℕ) → j < length xs → w ≡ get_or xs j w → standing_at j (map standing_of xs) ≡ standing_of w
    go [] j lt h = absurd (omega arith)
    go (x ∷ xs) zero lt h = ap standing_of (sym h)
    go (x ∷ xs) (suc j) lt h = go xs j (omega arith) h

-- there is one standing more than there are lockers
pub length-standings : (ws : List Locker) → length (standings_of ws) ≡ length ws + 1
length-standings [] = refl
length-standings (w ∷ ws) = omega (arith, length-standings ws)

-- a resource is added to those held

-- then it is among them
pub has_path-with : (r : List ℕ) (rs : List (List ℕ)) → has_path r (with_path r rs) ≡ true
has_path-with r rs = go (has_path r rs) refl
  where
    go : (b : Bool) → has_path r rs ≡ b → has_path r (cond b rs (rs ++ r ∷ [])) ≡ true
    go true e = e
    go false e = has_path-push r r rs ∙ or_right (has_path r rs) (same_path r r) (same_path-refl r)

-- the others are as before
pub has_path-with_other : (x r : List ℕ) (rs : List (List ℕ)) → same_path r x ≡ false → has_path x (with_path r rs) ≡ has_path x rs
has_path-with_other x r rs n = go (has_path r rs)
  where
    or-same : (b c : Bool) → c ≡ false → (b || c) ≡ b
    or-same true c e = refl
    or-same false c e = e

    go : (b : Bool) → has_path x (cond b rs (rs ++ r ∷ [])) ≡ has_path x rs
    go true = refl
    go false = has_path-push x r rs ∙ or-same (has_path x rs) (same_path r x) n

-- a session that waits has a locker
pub waits-within : (ss : List Standing) (r : List ℕ) (s : ℕ) → is_wanted r (standing_at s ss).wanted ≡ true → s < length ss
waits-within [] r s h = absurd (cc)
waits-within (x ∷ ss) r zero h = omega arith
waits-within (x ∷ ss) r (suc s) h = omega (arith, waits-within ss r s h)

-- lockers and cell agree after a grant
pub agree-next : (r : List ℕ) (v : View) (c : SessionMode) (w : View) (ss : List Standing) → IsNext v c w → IsOnce v → DoAgree r v ss → c.session < length ss
    → DoAgree r w (set ss c.session (standing_after_grant r (standing_at c.session ss)))
agree-next r v c w ss n o a lt = record {
  held = λ s. elim (cases_Bool (eqb c.session s)) [
    | inl e ↦ let f = (Decides-eqb c.session s).0 e in
        rw (← f) (ap (λ (x : Standing). has_path r x.held) (get_or-set_same ss c.session (standing_after_grant r (standing_at c.session ss)) no_standing lt)
        ∙ has_path-with r (standing_at c.session ss).held
        ∙ sym (ap (has_session c.session) n.holders ∙ (has_session-with_holder c.session c v.holders ∙ ap (λ (b : Bool). b || has_session c.session v.holders) ((Decides-eqb c.session c.session).1 refl))))
    | inr e ↦ ap (λ (x : Standing). has_path r x.held) (other s e)
        ∙ (a.held s ∙ sym (ap (has_session s) n.holders ∙ (has_session-with_holder s c v.holders ∙ ap (λ (b : Bool). b || has_session s v.holders) e)))
  ];
  wanted = λ s. elim (cases_Bool (eqb c.session s)) [
    | inl e ↦ let f = (Decides-eqb c.session s).0 e in
        rw (← f) (ap (λ (x : Standing). is_wanted r x.wanted) (get_or-set_same ss c.session (standing_after_grant r (standing_at c.session ss)) no_standing lt) ∙ sym gone)
    | inr e ↦ ap (λ (x : Standing). is_wanted r x.wanted) (other s e)
        ∙ (a.wanted s ∙ (ap (has_session s) n.first ∙ ap (λ (b : Bool). b || has_session s w.waiting) e))
  ];
}
  where
    other : (s : ℕ) → eqb c.session s ≡ false → standing_at s (set ss c.session (standing_after_grant r (standing_at c.session ss))) ≡ standing_at s ss
    other s e = grind (arith, nat_tests, get_or-set_other {A = Standing})

    gone : has_session c.session w.waiting ≡ false
    gone = let k = o.once c.session in let f = ap (times c.session) n.first in elim (has_tells c.session w.waiting) [
      | inl h ↦ absurd (grind (arith, nat_tests))
      | inr h ↦ h.0
    ]

-- no resource is there twice after a grant
pub same-next : (r : List ℕ) (old ss : List Standing) (s : ℕ) → s < length ss → is_wanted r (standing_at s ss).wanted ≡ true → AreSameOrGranted r old ss → AreSameOrGranted r old (set ss s (standing_after_grant r (standing_at s ss)))
same-next r old ss s lt w h u = elim (cases_Bool (eqb s u)) [
  | inl e ↦ let f = (Decides-eqb s u).0 e in rw (← f) (own (h s))
  | inr e ↦ let k : standing_at u (set ss s (standing_after_grant r (standing_at s ss))) ≡ standing_at u ss = grind (arith, nat_tests, get_or-set_other {A = Standing}) in rw k (h u)
]
  where
    new : standing_at s (set ss s (standing_after_grant r (standing_at s ss))) ≡ standing_after_grant r (standing_at s ss)
    new = get_or-set_same ss s (standing_after_grant r (standing_at s ss)) no_standing lt

    own : IsSameOrGranted r (standing_at s old) (standing_at s ss) → IsSameOrGranted r (standing_at s old) (standing_at s (set ss s (standing_after_grant r (standing_at s ss))))
    own (inl e) = inr (ap (λ (x : Standing). is_wanted r x.wanted) (sym e) ∙ w, new ∙ ap (standing_after_grant r) e)
    own (inr e) = absurd (true≢false w (ap (λ (x : Standing). is_wanted r x.wanted) e.1))

-- one more locker without a transaction
pub none-push : (ws : List Locker) (w : Locker) → ((s : ℕ) → standing_at s (standings_of ws) ≡ no_standing) → standing_of w ≡ no_standing → (s : ℕ) → standing_at s (standings_of (ws ++ w ∷ [])) ≡ no_standing
none-push ws w h e zero = refl
none-push ws w h e (suc s) = go ws (λ i. h (suc i)) s
  where
    go : (xs : List Locker) → ((i : ℕ) → standing_at i (map standing_of xs) ≡ no_standing) → (i : ℕ) → standing_at i (map standing_of (xs ++ w ∷ [])) ≡ no_standing
    go [] k zero = e
    go [] k (suc i) = refl
    go (x ∷ xs) k zero = k zero
    go (x ∷ xs) k (suc i) = go xs (λ j. k (suc j)) i
