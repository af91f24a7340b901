-- The lockers say what the cells say, after each change.
use Rattle.std.proofs.Common.{◌≡◌, ℕ, zero, suc, ◌<◌, Bool, true, false, cond, not, eqb, ◌&&◌, ◌||◌, inl, inr, List, [], ◌∷◌, length, get_or, set, Option, Some, None, refl, sym, ◌∙◌, ap, arith, subst}
use Rattle.std.proofs.lemmas.Bool.{cases_Bool}
use Rattle.lock_rules.proofs.Sound.{eqb-swap}
use Rattle.std.proofs.lemmas.Bool.Decides.{nat_tests, Decides-eqb}
use Rattle.std.proofs.lemmas.List.{get_or_default, get_or-set_same, get_or-set_other}
use Rattle.std.proofs.Math.Seq.{map-set_same}
use Rattle.lock_tree.specs.Paths.{same_path}
use Rattle.lock_rules.proofs.Lists.{same_path-refl, same_path-true, same_path_tells}
use Rattle.lock_holders.specs.declared.session_mode.SessionMode.{SessionMode}
use Rattle.lock_table.specs.declared.lockers.Locker.{Locker}
use Rattle.lock_table.specs.declared.table.LockTable.{LockTable}
use Rattle.lock_table.specs.declared.cells.GivenUp.{GivenUp}
use Rattle.lock_table.specs.declared.cells.GivenUp.TheVariants as claim
use Rattle.lock_table.specs.inner.Cells.{View, view_after_giving_up, queue_with, can_grant, view_after_asking}
use Rattle.lock_holders.specs.SessionModes.{with_holder, has_session}
use Rattle.session_locks.specs.Resources.{has_path, AreApart}
use Rattle.lock_table.specs.inner.Lockers.{Standing, no_standing, standing_of, standings_of, standing_at, is_wanted, standing_after_asking, IsSameOrGranted, AreSameOrGranted, DoAgree}
use Rattle.lock_table.specs.Changes.{view_at, standings, DoesKeep, IsSameSeen}
use Rattle.lock_holders.proofs.SessionModes.{has_session-with_holder, has_session-without}
use Rattle.lock_table.proofs.WaitQueues.{has_session-queued}
use Rattle.lock_table.proofs.LockerStandings.{IsPositionOf, has_path-with, has_path-with_other}

-- two operations, one after the other, keep what each keeps
pub keeps-on : {d e f : LockTable} → DoesKeep d e → DoesKeep e f → DoesKeep d f
keeps-on h k = record { whole = k.whole; lockers = k.lockers ∙ h.lockers; ready = k.ready }

-- two changes that leave count, standings and views unchanged are one such change
pub same-on : {d e f : LockTable} → IsSameSeen d e → IsSameSeen e f → IsSameSeen d f
same-on h k = record { count = k.count ∙ h.count; standings_same = k.standings_same ∙ h.standings_same; views = λ q. k.views q ∙ h.views q; ended = k.ended ∙ h.ended }

-- the standing of one session is written

-- the other sessions' standings are unchanged
pub other-standing : (ss : List Standing) (s u : ℕ) (x : Standing) → eqb s u ≡ false → standing_at u (set ss s x) ≡ standing_at u ss
other-standing ss s u x e = grind (arith, nat_tests, get_or-set_other {A = Standing})

-- the session's standing is the written one
pub own-standing : (ss : List Standing) (s : ℕ) (x : Standing) → s < length ss → standing_at s (set ss s x) ≡ x
own-standing ss s x lt = get_or-set_same ss s x no_standing lt

-- writing a locker that says the same changes no standing
pub standings-same : (ws : List Locker) (s : ℕ) {i : ℕ} (w new : Locker) → IsPositionOf s i ws → w ≡ get_or ws i w → standing_of new ≡ standing_of w → standings_of (set ws i new) ≡ standings_of ws
standings-same ws s {i} w new p at e = ap (λ (ss : List Standing). no_standing ∷ ss) (map-set_same standing_of ws i new new (e ∙ ap standing_of (at ∙ get_or_default ws i w new p.within)))

-- no session holds a resource twice
pub apart-at : (ws : List Locker) (s : ℕ) → AreApart (standing_at s (standings_of ws)).held
apart-at ws zero = tt
apart-at [] (suc s) = tt
apart-at (w ∷ ws) (suc zero) = w.apart
apart-at (w ∷ ws) (suc (suc s)) = apart-at ws (suc s)

-- lockers and cells agree about the changed resource, and about the others as before
pub all-agree : (r : List ℕ) (v : View) (d e : LockTable) → ((q : List ℕ) → view_at q e ≡ cond (same_path r q) v (view_at q d)) → DoAgree r v (standings e)
    → ((x : List ℕ) → same_path r x ≡ false → DoAgree x (view_at x d) (standings e)) → (x : List ℕ) → DoAgree x (view_at x e) (standings e)
all-agree r v d e views here there x = elim (same_path_tells r x) [
  | inl h ↦ subst (λ (w : View). DoAgree x w (standings e)) (sym (views x ∙ ap (λ (b : Bool). cond b v (view_at x d)) h.0)) (subst (λ (p : List ℕ). DoAgree p v (standings e)) h.1 here)
  | inr h ↦ subst (λ (w : View). DoAgree x w (standings e)) (sym (views x ∙ ap (λ (b : Bool). cond b v (view_at x d)) h)) (there x h)
]

-- a lock or a request is given up

-- whether a session that gives up this claim still holds the resource, and still waits for it
abbrev pub still_held : GivenUp → Bool → Bool
still_held claim.Lock b = false
still_held claim.Request b = b

abbrev pub still_wanted : GivenUp → Bool → Bool
still_wanted claim.Lock b = b
still_wanted claim.Request b = false

-- the session has given up its lock on the resource, or its request, and nothing else
pub record GivesUp (p : GivenUp) (r : List ℕ) (x y : Standing) : Type 0 where
  pub transaction : y.transaction ≡ x.transaction
  pub held : has_path r y.held ≡ still_held p (has_path r x.held)
  pub wanted : is_wanted r y.wanted ≡ still_wanted p (is_wanted r x.wanted)
  pub held_elsewhere : (q : List ℕ) → same_path r q ≡ false → has_path q y.held ≡ has_path q x.held
  pub wanted_elsewhere : (q : List ℕ) → same_path r q ≡ false → is_wanted q y.wanted ≡ is_wanted q x.wanted

own-holders : (p : GivenUp) (s : ℕ) (v : View) → has_session s (view_after_giving_up p s v).holders ≡ still_held p (has_session s v.holders)
own-holders claim.Lock s v = has_session-without s s v.holders ∙ ap (λ (b : Bool). not b && has_session s v.holders) ((Decides-eqb s s).1 refl)
own-holders claim.Request s v = refl

own-waiting : (p : GivenUp) (s : ℕ) (v : View) → has_session s (view_after_giving_up p s v).waiting ≡ still_wanted p (has_session s v.waiting)
own-waiting claim.Lock s v = refl
own-waiting claim.Request s v = has_session-without s s v.waiting ∙ ap (λ (b : Bool). not b && has_session s v.waiting) ((Decides-eqb s s).1 refl)

other-holders : (p : GivenUp) (s u : ℕ) (v : View) → eqb s u ≡ false → has_session u (view_after_giving_up p s v).holders ≡ has_session u v.holders
other-holders claim.Lock s u v n = has_session-without s u v.holders ∙ ap (λ (b : Bool). not b && has_session u v.holders) (eqb-swap s u n)
other-holders claim.Request s u v n = refl

other-waiting : (p : GivenUp) (s u : ℕ) (v : View) → eqb s u ≡ false → has_session u (view_after_giving_up p s v).waiting ≡ has_session u v.waiting
other-waiting claim.Lock s u v n = refl
other-waiting claim.Request s u v n = has_session-without s u v.waiting ∙ ap (λ (b : Bool). not b && has_session u v.waiting) (eqb-swap s u n)

module _ (ss : List Standing) (p : GivenUp) (s : ℕ) (r : List ℕ) (y : Standing) (lt : s < length ss) (gives : GivesUp p r (standing_at s ss) y) where
  -- lockers and cell agree about the resource that was given up
  pub given-agree : (v : View) → DoAgree r v ss → DoAgree r (view_after_giving_up p s v) (set ss s y)
  given-agree v a = record {
    held = λ u. elim (cases_Bool (eqb s u)) [
      | inl h ↦ let f = (Decides-eqb s u).0 h in
          rw (← f) (ap (λ (x : Standing). has_path r x.held) (own-standing ss s y lt) ∙ (gives.held ∙ (ap (still_held p) (a.held s) ∙ sym (own-holders p s v))))
      | inr h ↦ ap (λ (x : Standing). has_path r x.held) (other-standing ss s u y h) ∙ (a.held u ∙ sym (other-holders p s u v h))
    ];
    wanted = λ u. elim (cases_Bool (eqb s u)) [
      | inl h ↦ let f = (Decides-eqb s u).0 h in
          rw (← f) (ap (λ (x : Standing). is_wanted r x.wanted) (own-standing ss s y lt) ∙ (gives.wanted ∙ (ap (still_wanted p) (a.wanted s) ∙ sym (own-waiting p s v))))
      | inr h ↦ ap (λ (x : Standing). is_wanted r x.wanted) (other-standing ss s u y h) ∙ (a.wanted u ∙ sym (other-waiting p s u v h))
    ];
  }

  -- and about the others as before
  pub given-other : (x : List ℕ) → same_path r x ≡ false → (v : View) → DoAgree x v ss → DoAgree x v (set ss s y)
  given-other x n v a = record {
    held = λ u. elim (cases_Bool (eqb s u)) [
      | inl h ↦ let f = (Decides-eqb s u).0 h in
          rw (← f) (ap (λ (z : Standing). has_path x z.held) (own-standing ss s y lt) ∙ (gives.held_elsewhere x n ∙ a.held s))
      | inr h ↦ ap (λ (z : Standing). has_path x z.held) (other-standing ss s u y h) ∙ a.held u
    ];
    wanted = λ u. elim (cases_Bool (eqb s u)) [
      | inl h ↦ let f = (Decides-eqb s u).0 h in
          rw (← f) (ap (λ (z : Standing). is_wanted x z.wanted) (own-standing ss s y lt) ∙ (gives.wanted_elsewhere x n ∙ a.wanted s))
      | inr h ↦ ap (λ (z : Standing). is_wanted x z.wanted) (other-standing ss s u y h) ∙ a.wanted u
    ];
  }

-- a grant of one resource leaves a session's other resources as they are

-- a session that waits for one resource doesn't wait for another
pub wanted-other : (r x : List ℕ) (o : Option (List ℕ)) → is_wanted r o ≡ true → same_path r x ≡ false → is_wanted x o ≡ false
wanted-other r x None h n = refl
wanted-other r x (Some p) h n = ap (λ (q : List ℕ). same_path q x) (same_path-true p r h) ∙ n

held-granted : (r x : List ℕ) (a b : Standing) → same_path r x ≡ false → IsSameOrGranted r a b → has_path x b.held ≡ has_path x a.held
held-granted r x a b n (inl e) = ap (λ (y : Standing). has_path x y.held) e
held-granted r x a b n (inr e) = ap (λ (y : Standing). has_path x y.held) e.1 ∙ has_path-with_other x r a.held n

wanted-granted : (r x : List ℕ) (a b : Standing) → same_path r x ≡ false → IsSameOrGranted r a b → is_wanted x b.wanted ≡ is_wanted x a.wanted
wanted-granted r x a b n (inl e) = ap (λ (y : Standing). is_wanted x y.wanted) e
wanted-granted r x a b n (inr e) = ap (λ (y : Standing). is_wanted x y.wanted) e.1 ∙ sym (wanted-other r x a.wanted e.0 n)

-- a grant elsewhere makes no difference
pub granted-other : (r x : List ℕ) (v : View) (old new : List Standing) → same_path r x ≡ false → AreSameOrGranted r old new → DoAgree x v old → DoAgree x v new
granted-other r x v old new n h a = record {
  held = λ u. held-granted r x (standing_at u old) (standing_at u new) n (h u) ∙ a.held u;
  wanted = λ u. wanted-granted r x (standing_at u old) (standing_at u new) n (h u) ∙ a.wanted u;
}

-- a session that doesn't wait isn't granted
pub not-granted : (r : List ℕ) (a b : Standing) → a.wanted ≡ None → IsSameOrGranted r a b → b ≡ a
not-granted r a b h (inl e) = e
not-granted r a b h (inr e) = absurd (let f = ap (is_wanted r) h in let g = e.0 in cc)

-- a session asks

module _ (ss : List Standing) (s : ℕ) (r : List ℕ) (c : SessionMode) (lt : s < length ss) (same : c.session ≡ s) where
  own-holder : (hs : List SessionMode) → has_session s (with_holder c hs) ≡ true
  own-holder hs = has_session-with_holder s c hs ∙ ap (λ (b : Bool). b || has_session s hs) ((Decides-eqb c.session s).1 same)

  other-holder : (u : ℕ) (hs : List SessionMode) → eqb s u ≡ false → has_session u (with_holder c hs) ≡ has_session u hs
  other-holder u hs n = has_session-with_holder u c hs ∙ ap (λ (b : Bool). b || has_session u hs) (ap (λ (i : ℕ). eqb i u) same ∙ n)

  own-queued : (hs ws : List SessionMode) → has_session s (queue_with c hs ws) ≡ true
  own-queued hs ws = has_session-queued s c hs ws ∙ ap (λ (b : Bool). b || has_session s ws) ((Decides-eqb c.session s).1 same)

  other-queued : (u : ℕ) (hs ws : List SessionMode) → eqb s u ≡ false → has_session u (queue_with c hs ws) ≡ has_session u ws
  other-queued u hs ws n = has_session-queued u c hs ws ∙ ap (λ (b : Bool). b || has_session u ws) (ap (λ (i : ℕ). eqb i u) same ∙ n)

  abbrev standings_after_asking : Bool → List Standing
  standings_after_asking b = set ss s (standing_after_asking b r (standing_at s ss))

  asked-either : (standing_at s ss).wanted ≡ None → (v : View) (b : Bool) → DoAgree r v ss → DoAgree r (cond b (record { holders = with_holder c v.holders; waiting = v.waiting }) (record { holders = v.holders; waiting = queue_with c v.holders v.waiting })) (standings_after_asking b)
  asked-either idle v true a = record {
    held = λ u. elim (cases_Bool (eqb s u)) [
      | inl h ↦ let f = (Decides-eqb s u).0 h in rw (← f) (ap (λ (x : Standing). has_path r x.held) (own-standing ss s (standing_after_asking true r (standing_at s ss)) lt) ∙ (has_path-with r (standing_at s ss).held ∙ sym (own-holder v.holders)))
      | inr h ↦ ap (λ (x : Standing). has_path r x.held) (other-standing ss s u (standing_after_asking true r (standing_at s ss)) h) ∙ (a.held u ∙ sym (other-holder u v.holders h))
    ];
    wanted = λ u. elim (cases_Bool (eqb s u)) [
      | inl h ↦ let f = (Decides-eqb s u).0 h in rw (← f) (ap (λ (x : Standing). is_wanted r x.wanted) (own-standing ss s (standing_after_asking true r (standing_at s ss)) lt) ∙ (sym (ap (is_wanted r) idle) ∙ a.wanted s))
      | inr h ↦ ap (λ (x : Standing). is_wanted r x.wanted) (other-standing ss s u (standing_after_asking true r (standing_at s ss)) h) ∙ a.wanted u
    ];
  }
  asked-either idle v false a = record {
    held = λ u. elim (cases_Bool (eqb s u)) [
      | inl h ↦ let f = (Decides-eqb s u).0 h in rw (← f) (ap (λ (x : Standing). has_path r x.held) (own-standing ss s (standing_after_asking false r (standing_at s ss)) lt) ∙ a.held s)
      | inr h ↦ ap (λ (x : Standing). has_path r x.held) (other-standing ss s u (standing_after_asking false r (standing_at s ss)) h) ∙ a.held u
    ];
    wanted = λ u. elim (cases_Bool (eqb s u)) [
      | inl h ↦ let f = (Decides-eqb s u).0 h in rw (← f) (ap (λ (x : Standing). is_wanted r x.wanted) (own-standing ss s (standing_after_asking false r (standing_at s ss)) lt) ∙ (same_path-refl r ∙ sym (own-queued v.holders v.waiting)))
      | inr h ↦ ap (λ (x : Standing). is_wanted r x.wanted) (other-standing ss s u (standing_after_asking false r (standing_at s ss)) h) ∙ (a.wanted u ∙ sym (other-queued u v.holders v.waiting h))
    ];
  }

  -- lockers and cell agree about the resource that was asked for
  pub asked-agree : (standing_at s ss).wanted ≡ None → (v : View) (b : Bool) → b ≡ can_grant c v → DoAgree r v ss → DoAgree r (view_after_asking c v) (standings_after_asking b)
  asked-agree idle v b e a = subst (λ (x : Bool). DoAgree r (cond x (record { holders = with_holder c v.holders; waiting = v.waiting }) (record { holders = v.holders; waiting = queue_with c v.holders v.waiting })) (standings_after_asking b)) e (asked-either idle v b a)

  held-asked : (x : List ℕ) (b : Bool) → same_path r x ≡ false → has_path x (standing_after_asking b r (standing_at s ss)).held ≡ has_path x (standing_at s ss).held
  held-asked x true n = has_path-with_other x r (standing_at s ss).held n
  held-asked x false n = refl

  wanted-asked : (x : List ℕ) (b : Bool) → same_path r x ≡ false → (standing_at s ss).wanted ≡ None → is_wanted x (standing_after_asking b r (standing_at s ss)).wanted ≡ is_wanted x (standing_at s ss).wanted
  wanted-asked x true n idle = sym (ap (is_wanted x) idle)
  wanted-asked x false n idle = n ∙ sym (ap (is_wanted x) idle)

  -- and about the others as before
  pub asked-other : (x : List ℕ) (v : View) (b : Bool) → same_path r x ≡ false → (standing_at s ss).wanted ≡ None → DoAgree x v ss → DoAgree x v (standings_after_asking b)
  asked-other x v b n idle a = record {
    held = λ u. elim (cases_Bool (eqb s u)) [
      | inl h ↦ let f = (Decides-eqb s u).0 h in rw (← f) (ap (λ (y : Standing). has_path x y.held) (own-standing ss s (standing_after_asking b r (standing_at s ss)) lt) ∙ (held-asked x b n ∙ a.held s))
      | inr h ↦ ap (λ (y : Standing). has_path x y.held) (other-standing ss s u (standing_after_asking b r (standing_at s ss)) h) ∙ a.held u
    ];
    wanted = λ u. elim (cases_Bool (eqb s u)) [
      | inl h ↦ let f = (Decides-eqb s u).0 h in rw (← f) (ap (λ (y : Standing). is_wanted x y.wanted) (own-standing ss s (standing_after_asking b r (standing_at s ss)) lt) ∙ (wanted-asked x b n idle ∙ a.wanted s))
      | inr h ↦ ap (λ (y : Standing). is_wanted x y.wanted) (other-standing ss s u (standing_after_asking b r (standing_at s ss)) h) ∙ a.wanted u
    ];
  }
