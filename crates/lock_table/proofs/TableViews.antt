-- The view of each resource after each change of a table of the rules.
use Rattle.std.proofs.Common.{◌≡◌, ℕ, Bool, true, false, cond, not, eqb, ◌||◌, inl, inr, List, [], ◌∷◌, map, Some, is_some, refl, sym, ◌∙◌, ap, arith, subst}
use Rattle.std.specs.List.{list_all}
use Rattle.std.proofs.lemmas.Bool.Decides.{nat_tests, Decides-eqb}
use Rattle.std.proofs.lemmas.Bool.{cases_Bool}
use Rattle.lock_modes.specs.declared.Mode.{Mode}
use Rattle.lock_modes.specs.Compatibility.{are_compatible}
use Rattle.lock_tree.specs.Paths.{same_path}
use Rattle.lock_rules.specs.State as rules
use Rattle.lock_rules.specs.Queue.{queue, fits, with_lock, after_grant, granted_while_fitting, after_promotion, after_promotions}
use Rattle.lock_rules.specs.Sound.{IsOnce, IsSound}
use Rattle.lock_rules.proofs.Lists.{same_path-refl, same_path-true, same_path_tells, In, In-request}
use Rattle.lock_rules.proofs.Alters.{queue-alters, true≢false}
use Rattle.lock_rules.proofs.Sound.{In-queue, head-request, queue-rest, granted-alters, granted-sound}
use Rattle.lock_rules.proofs.Promote.{promoted-promoted}
use Rattle.lock_holders.specs.declared.session_mode.SessionMode.{SessionMode}
use Rattle.lock_table.specs.inner.Cells.{View, view_after_grants, view_after_promotion}
use Rattle.lock_holders.specs.SessionModes.{has_session, mode_of, pair_of, with_holder, without, fits_among}
use Rattle.session_locks.specs.Resources.{has_path}
use Rattle.lock_table.specs.Shows.{short, claims_on, view}
use Rattle.lock_table.proofs.ResourceViews.{promoted-again}

-- a session with a mode
abbrev pub in_mode : ℕ → Mode → SessionMode
in_mode s m = record { session = s; mode = m }

-- holders

-- a mode fits in the table of the rules exactly if it fits beside the holders of the view
pub fits-seen : (s : ℕ) (m : Mode) (r : List ℕ) (cs : List rules.Claim) → list_all (λ h. eqb h.0 s || are_compatible m h.1) (rules.holders r cs) ≡ fits_among (in_mode s m) (claims_on r cs)
fits-seen s m r [] = refl
fits-seen s m r (c ∷ cs) = grind (arith, cases_Bool (same_path c.resource r), fits-seen s m r cs)

-- the holders of a resource after a lock on it is added or changed
pub claims_on-with_lock : (s : ℕ) (r : List ℕ) (m : Mode) (cs : List rules.Claim) → claims_on r (with_lock s r m cs) ≡ with_holder (in_mode s m) (claims_on r cs)
claims_on-with_lock s r m [] = grind (arith, nat_tests, same_path-refl)
claims_on-with_lock s r m (c ∷ cs) = grind (arith, nat_tests, same_path-refl, same_path_tells, claims_on-with_lock s r m cs)

-- the holders of a resource after a lock on another one is added or changed
pub claims_on-with_lock_path : (s : ℕ) (q r : List ℕ) (m : Mode) (cs : List rules.Claim) → same_path q r ≡ false → claims_on r (with_lock s q m cs) ≡ claims_on r cs
claims_on-with_lock_path s q r m [] h = grind (arith, nat_tests)
claims_on-with_lock_path s q r m (c ∷ cs) h = grind (arith, nat_tests, same_path_tells, claims_on-with_lock_path s q r m cs h)

-- the holders of a resource without one session
pub claims_on-claims_but : (s : ℕ) (r : List ℕ) (cs : List rules.Claim) → claims_on r (rules.claims_but s cs) ≡ without s (claims_on r cs)
claims_on-claims_but s r [] = refl
claims_on-claims_but s r (c ∷ cs) = grind (arith, nat_tests, cases_Bool (same_path c.resource r), claims_on-claims_but s r cs)

-- a session holds a resource exactly if it is among the holders of the view
pub held-seen : (s : ℕ) (r : List ℕ) (cs : List rules.Claim) → is_some (rules.mode_in s r cs) ≡ has_session s (claims_on r cs)
held-seen s r [] = refl
held-seen s r (c ∷ cs) = grind (arith, nat_tests, cases_Bool (same_path c.resource r), held-seen s r cs)

-- the mode that it holds is that in the view
pub mode-seen : (s : ℕ) (r : List ℕ) (cs : List rules.Claim) → rules.mode_in s r cs ≡ mode_of s (claims_on r cs)
mode-seen s r [] = refl
mode-seen s r (c ∷ cs) = grind (arith, nat_tests, cases_Bool (same_path c.resource r), mode-seen s r cs)

-- the holders of the table, as pairs, are those of the view
pub pairs-seen : (r : List ℕ) (cs : List rules.Claim) → map pair_of (claims_on r cs) ≡ rules.holders r cs
pairs-seen r [] = refl
pairs-seen r (c ∷ cs) = grind (arith, cases_Bool (same_path c.resource r), pairs-seen r cs)

-- queues

-- the queue of a resource without one session
pub queue-without : (s : ℕ) (qs : List rules.Claim) → map short (rules.claims_but s qs) ≡ without s (map short qs)
queue-without s [] = refl
queue-without s (q ∷ qs) = grind (arith, nat_tests, queue-without s qs)

-- removing the requests of a session that has none changes nothing
claims_but-others : (s : ℕ) (qs : List rules.Claim) → ((h : rules.Claim) → In h qs → eqb h.session s ≡ false) → rules.claims_but s qs ≡ qs
claims_but-others s [] h = refl
claims_but-others s (q ∷ qs) h =
    ap (λ (b : Bool). cond (not b) (q ∷ rules.claims_but s qs) (rules.claims_but s qs)) (h q (inl refl))
    ∙ ap (λ (xs : List rules.Claim). q ∷ xs) (claims_but-others s qs (λ p i. h p (inr i)))

-- a session without a request for a resource is not in its queue
pub queue-apart : (t : rules.Table) (s : ℕ) (x : List ℕ) → IsOnce t.requests → ((q : rules.Claim) → rules.request_of s t.requests ≡ Some q → same_path q.resource x ≡ false) → rules.claims_but s (queue t x) ≡ queue t x
queue-apart t s x o h = claims_but-others s (queue t x) (λ p i. elim (cases_Bool (eqb p.session s)) [
  | inr n ↦ n
  | inl e ↦
      let k = In-queue t x p i in
      let f = (Decides-eqb p.session s).0 e in
      absurd (true≢false k.1 (h p (ap (λ (j : ℕ). rules.request_of j t.requests) (sym f) ∙ In-request p t.requests (o p.session) k.0)))
])

-- a grant

-- the view of another resource is unchanged
granted-there : (s : ℕ) (r x : List ℕ) (m : Mode) (t : rules.Table) → same_path r x ≡ false → IsOnce t.requests → ((q : rules.Claim) → rules.request_of s t.requests ≡ Some q → same_path q.resource x ≡ false) → view x (after_grant s r m t) ≡ view x t
granted-there s r x m t n o h =
    let hs : claims_on x (after_grant s r m t).held ≡ claims_on x t.held = claims_on-with_lock_path s r x m t.held n in
    let ws : queue (after_grant s r m t) x ≡ queue t x = queue-alters s t (after_grant s r m t) (granted-alters s r m t) x ∙ queue-apart t s x o h in
    λ i. record { holders = hs i; waiting = map short (ws i) }

-- promotions

-- granting the requests of a queue up to the first that does not fit does the same in its view, and changes no other
front-seen : (r : List ℕ) (qs : List rules.Claim) (t : rules.Table) → IsSound t → queue t r ≡ qs → (x : List ℕ)
    → view x (granted_while_fitting qs t) ≡ cond (same_path r x) (view_after_grants (claims_on r t.held) (map short qs)) (view x t)
front-seen r [] t i e x = elim (same_path_tells r x) [
  | inl h ↦ subst (λ (p : List ℕ). view p t ≡ cond (same_path r p) (record { holders = claims_on r t.held; waiting = [] }) (view p t)) h.1
      ((λ j. record { holders = claims_on r t.held; waiting = map short (e j) }) ∙ sym (ap (λ (b : Bool). cond b (record { holders = claims_on r t.held; waiting = [] }) (view r t)) (same_path-refl r)))
  | inr h ↦ sym (ap (λ (b : Bool). cond b (record { holders = claims_on r t.held; waiting = [] }) (view x t)) h)
]
front-seen r (q ∷ qs) t i e x = go (fits t q.session q.resource q.mode) refl (λ j f. front-seen r qs (after_grant q.session q.resource q.mode t) j f x)
  where
    request : (rules.request_of q.session t.requests ≡ Some q) × (same_path q.resource r ≡ true)
    request = head-request t r q qs i.once e

    path : q.resource ≡ r
    path = same_path-true q.resource r request.1

    same-fit : fits t q.session q.resource q.mode ≡ fits_among (short q) (claims_on r t.held)
    same-fit = ap (λ (p : List ℕ). fits t q.session p q.mode) path ∙ fits-seen q.session q.mode r t.held

    holders-next : claims_on r (after_grant q.session q.resource q.mode t).held ≡ with_holder (short q) (claims_on r t.held)
    holders-next = ap (λ (p : List ℕ). claims_on r (with_lock q.session p q.mode t.held)) path ∙ claims_on-with_lock q.session r q.mode t.held

    there : same_path r x ≡ false → view x (after_grant q.session q.resource q.mode t) ≡ view x t
    there n = granted-there q.session q.resource x q.mode t (ap (λ (p : List ℕ). same_path p x) path ∙ n) i.once
        (λ p f. let same : q ≡ p = let k = sym request.0 ∙ f in cc in ap (λ (c : rules.Claim). same_path c.resource x) (sym same) ∙ (ap (λ (y : List ℕ). same_path y x) path ∙ n))

    go : (b : Bool) → fits t q.session q.resource q.mode ≡ b
        → (IsSound (after_grant q.session q.resource q.mode t) → queue (after_grant q.session q.resource q.mode t) r ≡ qs → view x (granted_while_fitting qs (after_grant q.session q.resource q.mode t)) ≡ cond (same_path r x) (view_after_grants (claims_on r (after_grant q.session q.resource q.mode t).held) (map short qs)) (view x (after_grant q.session q.resource q.mode t)))
        → view x (cond b (granted_while_fitting qs (after_grant q.session q.resource q.mode t)) t) ≡ cond (same_path r x) (cond (fits_among (short q) (claims_on r t.held)) (view_after_grants (with_holder (short q) (claims_on r t.held)) (map short qs)) (record { holders = claims_on r t.held; waiting = short q ∷ map short qs })) (view x t)
    go true f more =
        more (granted-sound q.session q.resource q.mode t i (i.raising q.session q request.0) (i.asked_under q.session q request.0) f) (queue-rest t (after_grant q.session q.resource q.mode t) r q qs i.once e (granted-alters q.session q.resource q.mode t))
        ∙ (ap (λ (hs : List SessionMode). cond (same_path r x) (view_after_grants hs (map short qs)) (view x (after_grant q.session q.resource q.mode t))) holders-next
        ∙ (elim (cases_Bool (same_path r x)) [
          | inl h ↦ rw h refl
          | inr h ↦ ap (λ (b : Bool). cond b (view_after_grants (with_holder (short q) (claims_on r t.held)) (map short qs)) (view x (after_grant q.session q.resource q.mode t))) h ∙ (there h ∙ sym (ap (λ (b : Bool). cond b (view_after_grants (with_holder (short q) (claims_on r t.held)) (map short qs)) (view x t)) h))
        ]
        ∙ ap (λ (b : Bool). cond (same_path r x) (cond b (view_after_grants (with_holder (short q) (claims_on r t.held)) (map short qs)) (record { holders = claims_on r t.held; waiting = short q ∷ map short qs })) (view x t)) (sym f ∙ same-fit)))
    go false f more =
        elim (same_path_tells r x) [
          | inl h ↦ subst (λ (p : List ℕ). view p t ≡ cond (same_path r p) (record { holders = claims_on r t.held; waiting = short q ∷ map short qs }) (view p t)) h.1
              ((λ j. record { holders = claims_on r t.held; waiting = map short (e j) }) ∙ sym (ap (λ (b : Bool). cond b (record { holders = claims_on r t.held; waiting = short q ∷ map short qs }) (view r t)) (same_path-refl r)))
          | inr h ↦ sym (ap (λ (b : Bool). cond b (record { holders = claims_on r t.held; waiting = short q ∷ map short qs }) (view x t)) h)
        ]
        ∙ ap (λ (b : Bool). cond (same_path r x) (cond b (view_after_grants (with_holder (short q) (claims_on r t.held)) (map short qs)) (record { holders = claims_on r t.held; waiting = short q ∷ map short qs })) (view x t)) (sym f ∙ same-fit)

-- promoting the queue of one resource promotes its view, and changes no other
pub promoted-seen : (r : List ℕ) (t : rules.Table) → IsSound t → (x : List ℕ) → view x (after_promotion r t) ≡ cond (same_path r x) (view_after_promotion (view x t)) (view x t)
promoted-seen r t i x = front-seen r (queue t r) t i refl x ∙ elim (same_path_tells r x) [
  | inl h ↦ subst (λ (p : List ℕ). cond (same_path r p) (view_after_promotion (view r t)) (view p t) ≡ cond (same_path r p) (view_after_promotion (view p t)) (view p t)) h.1 refl
  | inr h ↦ rw h refl
]

-- promoting the queues of several resources promotes their views, and changes no others
pub all-seen : (rs : List (List ℕ)) (t : rules.Table) → IsSound t → (x : List ℕ) → view x (after_promotions rs t) ≡ cond (has_path x rs) (view_after_promotion (view x t)) (view x t)
all-seen [] t i x = refl
all-seen (r ∷ rs) t i x =
    all-seen rs (after_promotion r t) (promoted-promoted r t i).follows.sound x
    ∙ (ap (λ (v : View). cond (has_path x rs) (view_after_promotion v) v) (promoted-seen r t i x)
    ∙ go (same_path r x) (has_path x rs))
  where
    go : (b c : Bool) → cond c (view_after_promotion (cond b (view_after_promotion (view x t)) (view x t))) (cond b (view_after_promotion (view x t)) (view x t)) ≡ cond (b || c) (view_after_promotion (view x t)) (view x t)
    go true true = promoted-again (view x t)
    go true false = refl
    go false c = refl
