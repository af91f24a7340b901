-- What a call grants is compatible with what others hold before and after it.
use Rattle.std.proofs.Common.{◌≡◌, ℕ, ◌+◌, zero, suc, Bool, true, false, cond, eqb, ◌⊎◌, inl, inr, List, [], ◌∷◌, ◌++◌, length, map, Option, Some, None, refl, sym, ◌∙◌, ap}
use Rattle.std.proofs.lemmas.Bool.{and_parts, not-false, cases_Bool}
use Rattle.std.proofs.lemmas.Bool.Decides.{Decides-eqb}
use Rattle.lock_modes.specs.declared.Mode.{Mode}
use Rattle.lock_modes.specs.Order.{at_or_below}
use Rattle.lock_modes.specs.Compatibility.{are_compatible}
use Rattle.lock_modes.proofs.Order.{at_or_below-antisym}
use Rattle.lock_rules.specs.declared.calls.Call.{Call}
use Rattle.lock_rules.specs.declared.calls.Call.TheVariants.{Begin, Lock, Convert, Poll, Release, Commit, Abort, Try, Withdraw, Restart}
use Rattle.lock_rules.specs.declared.calls.Why.{Why}
use Rattle.lock_rules.specs.State.{Claim, Table, State, mode_in, held_mode, mode_or_nothing, request_of, claims_of, is_waiting, with_table}
use Rattle.lock_rules.specs.Queue.{queue, fits, locks_but, after_grant, with_request, is_granted_at_once, granted_while_fitting, after_promotion, after_promotions}
use Rattle.lock_rules.specs.Waits.{conflicts, resource_of_request, reaches, victim_of, without_request, after_cancel, after_victim, after_victims}
use Rattle.lock_rules.specs.Step.{is_nothing, lacks_parent, holds_child, target_of, tests, first_failing, is_held, after_wait, after_asking, after_release, after_end, without_claims, act, outcome_of, step}
use Rattle.lock_rules.specs.Sound.{IsSound, Stands}
use Rattle.lock_rules.proofs.Lists.{same_path_tells, mode_in-with_lock, mode_in-with_lock_path, mode_in-with_lock_other, mode_in-locks_but_path, mode_in-locks_but_other, mode_in-claims_but_other}
use Rattle.lock_rules.proofs.Sound.{Rises, eqb-swap, altered-sound, fits-tells, head-request, queue-rest, granted-alters, no_more-alters}
use Rattle.lock_rules.proofs.Promote.{Follows, follows-refl, follows-trans, granted-follows}
use Rattle.lock_rules.proofs.Cuts.{one_less, less-held, less-sound, left-none, left-sound, cancelled-follows}
use Rattle.lock_rules.proofs.Begins.{begins-sound}
use Rattle.lock_rules.proofs.Marks.{below-sup, sup-some}
use Rattle.lock_rules.proofs.Grants.{held-on}
use Rattle.lock_rules.proofs.Steps.{all-pass, is-none, try-locks}
use Rattle.lock_rules.proofs.Taken.{released-takes, claims-taken}

-- if s holds r in one mode before and after, a mode that another session has afterwards is either one that it had before, or
-- compatible with the mode of s
abbrev pub DoGrantsFit : Table → Table → Type 0
DoGrantsFit t t' = (s u : ℕ) (r : List ℕ) (k l : Mode) → eqb s u ≡ false → held_mode t s r ≡ Some k → held_mode t' s r ≡ Some k → held_mode t' u r ≡ Some l → (held_mode t u r ≡ Some l) ⊎ (are_compatible l k ≡ true)

-- no lock falls, and grants fit
record IsOrderly (t t' : Table) : Type 0 where
  follows : Follows t t'
  fit : DoGrantsFit t t'

-- nothing changes
orderly-refl : (t : Table) → IsSound t → IsOrderly t t
orderly-refl t i = record { follows = follows-refl t i; fit = λ s u r k l n e f g. inl g }

-- a mode that is held before and after two changes that lower no lock is held between them
held-between : (t m w : Table) → IsSound t → Rises t m → Rises m w → (s : ℕ) (r : List ℕ) (k : Mode) → held_mode t s r ≡ Some k → held_mode w s r ≡ Some k → held_mode m s r ≡ Some k
held-between t m w i a b s r k e f =
    let up : at_or_below k (mode_or_nothing (held_mode m s r)) ≡ true = ap (λ (o : Option Mode). at_or_below (mode_or_nothing o) (mode_or_nothing (held_mode m s r))) (sym e) ∙ a s r in
    let h = held-on k (held_mode m s r) (i.held_under s r k e).1 up in
    let down : at_or_below h.0 k ≡ true
    = sym (ap (λ (o : Option Mode). at_or_below (mode_or_nothing o) (mode_or_nothing (held_mode w s r))) h.1 ∙ ap (λ (o : Option Mode). at_or_below h.0 (mode_or_nothing o)) f) ∙ b s r in
    h.1 ∙ ap (λ (x : Mode). Some x) (at_or_below-antisym h.0 k down h.2)

-- two orderly changes are one
orderly-trans : (t m w : Table) → IsSound t → IsOrderly t m → IsOrderly m w → IsOrderly t w
orderly-trans t m w i a b = record {
  follows = follows-trans t m w a.follows b.follows;
  fit = λ s u r k l n e f g.
      let mid = held-between t m w i a.follows.rises b.follows.rises s r k e f in
      elim (b.fit s u r k l n mid f g) [ inl h ↦ a.fit s u r k l n e mid h | inr h ↦ inr h ];
}

-- a grant of a mode that fits is compatible with what others hold
granted-fits : (v : ℕ) (x : List ℕ) (m : Mode) (t : Table) → fits t v x m ≡ true → DoGrantsFit t (after_grant v x m t)
granted-fits v x m t fit s u r k l n e f g = elim (cases_Bool (eqb u v)) [
  | inr o ↦ inl (sym (mode_in-with_lock_other u v r x m t.held o) ∙ g)
  | inl o ↦ elim (same_path_tells x r) [
    | inr p ↦ inl (sym (mode_in-with_lock_path u v r x m t.held p) ∙ g)
    | inl p ↦
        let w = (Decides-eqb u v).0 o in
        let same : m ≡ l = mode (sym (mode_in-with_lock v x m t.held) ∙ (ap (λ (i : ℕ). mode_in i x (after_grant v x m t).held) (sym w) ∙ (ap (λ (y : List ℕ). mode_in u y (after_grant v x m t).held) p.1 ∙ g))) in
        let free = fits-tells t v x m fit s (ap (λ (i : ℕ). eqb s i) (sym w) ∙ n) in
        inr (ap (λ (a : Mode). are_compatible a k) (sym same) ∙ not-false (are_compatible m k) (sym (ap (conflicts m) (ap (λ (y : List ℕ). mode_in s y t.held) p.1 ∙ e)) ∙ free))
  ]
]
  where
    mode : Some m ≡ Some l → m ≡ l
    mode h = cc

-- granting a queue up to the first request that doesn't fit is orderly
front-orderly : (r : List ℕ) (qs : List Claim) (t : Table) → IsSound t → queue t r ≡ qs → IsOrderly t (granted_while_fitting qs t)
front-orderly r [] t i e = orderly-refl t i
front-orderly r (q ∷ qs) t i e = go (fits t q.session q.resource q.mode) refl (λ j f. front-orderly r qs (after_grant q.session q.resource q.mode t) j f)
  where
    go : (b : Bool) → fits t q.session q.resource q.mode ≡ b
        → (IsSound (after_grant q.session q.resource q.mode t) → queue (after_grant q.session q.resource q.mode t) r ≡ qs → IsOrderly (after_grant q.session q.resource q.mode t) (granted_while_fitting qs (after_grant q.session q.resource q.mode t)))
        → IsOrderly t (cond b (granted_while_fitting qs (after_grant q.session q.resource q.mode t)) t)
    go false f next = orderly-refl t i
    go true f next =
        let request = (head-request t r q qs i.once e).0 in
        let first = granted-follows q.session q.resource q.mode t i (i.raising q.session q request) (i.asked_under q.session q request) f in
        orderly-trans t (after_grant q.session q.resource q.mode t) (granted_while_fitting qs (after_grant q.session q.resource q.mode t)) i
        (record { follows = first; fit = granted-fits q.session q.resource q.mode t f })
        (next first.sound (queue-rest t (after_grant q.session q.resource q.mode t) r q qs i.once e (granted-alters q.session q.resource q.mode t)))

-- promotions are orderly
promotions-orderly : (rs : List (List ℕ)) (t : Table) → IsSound t → IsOrderly t (after_promotions rs t)
promotions-orderly [] t i = orderly-refl t i
promotions-orderly (r ∷ rs) t i =
    let first = front-orderly r (queue t r) t i refl in
    orderly-trans t (after_promotion r t) (after_promotions rs (after_promotion r t)) i first (promotions-orderly rs (after_promotion r t) first.follows.sound)

-- so is cancelling a request
cancelled-orderly : (v : ℕ) (t : Table) → IsSound t → IsOrderly t (after_cancel v t)
cancelled-orderly v t i = record {
  follows = cancelled-follows v t i;
  fit = (promotions-orderly (resource_of_request (request_of v t.requests)) (without_request v t)
      (altered-sound v t (without_request v t) (no_more-alters v t) i (λ x k e. i.held_under v x k e) (λ u x k l m e f. i.agree v u x k l (eqb-swap u v m) e f))).fit;
}

-- so is the choice of victims
victims-orderly : (n s : ℕ) (st : State) → IsSound st.table → IsOrderly st.table (after_victims n s st).table
victims-orderly zero s st i = orderly-refl st.table i
victims-orderly (suc n) s st i = go (reaches st.table s s) (λ j. victims-orderly n s (after_victim (victim_of st s) st) j)
  where
    go : (b : Bool) → (IsSound (after_cancel (victim_of st s) st.table) → IsOrderly (after_cancel (victim_of st s) st.table) (after_victims n s (after_victim (victim_of st s) st)).table)
        → IsOrderly st.table (cond b (after_victims n s (after_victim (victim_of st s) st)) st).table
    go false next = orderly-refl st.table i
    go true next =
        let first = cancelled-orderly (victim_of st s) st.table i in
        orderly-trans st.table (after_cancel (victim_of st s) st.table) (after_victims n s (after_victim (victim_of st s) st)).table i first (next first.follows.sound)

-- a request grants what fits
asked-fits : (st : State) (s : ℕ) (r : List ℕ) (m : Mode) → IsSound st.table → request_of s st.table.requests ≡ None → at_or_below (mode_or_nothing (held_mode st.table s r)) m ≡ true → Stands st.table s r m → DoGrantsFit st.table (after_asking st s r m).table
asked-fits st s r m i n up under = go (is_held (held_mode st.table s r) m) (is_granted_at_once st.table s r m) refl
  where
    go : (b c : Bool) → is_granted_at_once st.table s r m ≡ c → DoGrantsFit st.table (cond b st (cond c (with_table (after_grant s r m st.table) st) (after_wait st s r m))).table
    go true c e = (orderly-refl st.table i).fit
    go false true e = granted-fits s r m st.table (and_parts (fits st.table s r m) _ e).0
    go false false e = (victims-orderly (length st.table.requests + 2) s (with_table (with_request s r m st.table) st) (begins-sound s r m st.table i n up under)).fit

-- so does one that passes its tests
may-ask : (st : State) (s : ℕ) (r : List ℕ) (m : Mode) → IsSound st.table → is_waiting st s ≡ false → is_nothing m ≡ false → lacks_parent st.table s r (target_of (held_mode st.table s r) m) ≡ false → DoGrantsFit st.table (after_asking st s r (target_of (held_mode st.table s r) m)).table
may-ask st s r m i w n p =
    asked-fits st s r (target_of (held_mode st.table s r) m) i (is-none (request_of s st.table.requests) w) (below-sup (mode_or_nothing (held_mode st.table s r)) m)
    (p, sup-some (mode_or_nothing (held_mode st.table s r)) m n)

-- so does a Lock
lock-fits : (st : State) (s : ℕ) (r : List ℕ) (m : Mode) → IsSound st.table → first_failing (tests st s (Lock r m)) ≡ None → DoGrantsFit st.table (after_asking st s r (target_of (held_mode st.table s r) m)).table
lock-fits st s r m i h = let p = all-pass (tests st s (Lock r m)) h in may-ask st s r m i p.1.0 p.1.1.1.0 p.1.1.1.1.0

-- a release grants what fits
released-fits : (v : ℕ) (x : List ℕ) (st : State) → IsSound st.table → request_of v st.table.requests ≡ None → holds_child st.table v x ≡ false → DoGrantsFit st.table (after_release v x st.table)
released-fits v x st i n c s u r k l d e f g = elim (cases_Bool (eqb s v)) [
  | inr o ↦ rest (mode_in-locks_but_other s v r x st.table.held o ∙ e)
  | inl o ↦ elim (same_path_tells x r) [
    | inr p ↦ rest (mode_in-locks_but_path s v r x st.table.held p ∙ e)
    | inl p ↦
        let given = (released-takes v x st i n c).given_back in
        absurd (gone (sym given ∙ (ap (λ (j : ℕ). mode_in j x (after_release v x st.table).held) (sym ((Decides-eqb s v).0 o)) ∙ (ap (λ (y : List ℕ). mode_in s y (after_release v x st.table).held) p.1 ∙ f))))
  ]
]
  where
    gone : None ≡ Some k → ⊥
    gone h = cc

    before : held_mode (one_less v x st.table) u r ≡ Some l → held_mode st.table u r ≡ Some l
    before h = elim (cases_Bool (eqb u v)) [
      | inr o ↦ sym (mode_in-locks_but_other u v r x st.table.held o) ∙ h
      | inl o ↦
          let w = (Decides-eqb u v).0 o in
          ap (λ (j : ℕ). mode_in j r st.table.held) w ∙ (less-held v x r st.table l (ap (λ (j : ℕ). mode_in j r (locks_but v x st.table.held)) (sym w) ∙ h)).1
    ]

    rest : held_mode (one_less v x st.table) s r ≡ Some k → (held_mode st.table u r ≡ Some l) ⊎ (are_compatible l k ≡ true)
    rest mid = elim ((front-orderly x (queue (one_less v x st.table) x) (one_less v x st.table) (less-sound v x st.table i n c) refl).fit s u r k l d mid f g) [ inl h ↦ inl (before h) | inr h ↦ inr h ]

-- the end or restart of a transaction grants what fits
ended-fits : (v : ℕ) (st : State) → IsSound st.table → DoGrantsFit st.table (after_end v st.table)
ended-fits v st i s u r k l d e f g = elim (cases_Bool (eqb s v)) [
  | inr o ↦ rest (mode_in-claims_but_other s v r st.table.held o ∙ e)
  | inl o ↦ absurd (gone (sym ((claims-taken v None st i).holds_nothing r) ∙ (ap (λ (j : ℕ). mode_in j r (after_end v st.table).held) (sym ((Decides-eqb s v).0 o)) ∙ f)))
]
  where
    gone : None ≡ Some k → ⊥
    gone h = cc

    before : held_mode (without_claims v st.table) u r ≡ Some l → held_mode st.table u r ≡ Some l
    before h = elim (cases_Bool (eqb u v)) [
      | inr o ↦ sym (mode_in-claims_but_other u v r st.table.held o) ∙ h
      | inl o ↦ absurd (left-none v st.table r l (ap (λ (j : ℕ). mode_in j r (without_claims v st.table).held) (sym ((Decides-eqb u v).0 o)) ∙ h))
    ]

    rest : held_mode (without_claims v st.table) s r ≡ Some k → (held_mode st.table u r ≡ Some l) ⊎ (are_compatible l k ≡ true)
    rest mid = elim ((promotions-orderly (resource_of_request (request_of v st.table.requests) ++ map (λ (c : Claim). c.resource) (claims_of v st.table.held)) (without_claims v st.table) (left-sound v st.table i)).fit s u r k l d mid f g) [ inl h ↦ inl (before h) | inr h ↦ inr h ]

-- every call that passes its tests grants what fits
act-fits : (st : State) (v : ℕ) (c : Call) → IsSound st.table → first_failing (tests st v c) ≡ None → DoGrantsFit st.table (act st v c).state.table
act-fits st v Begin i h = (orderly-refl st.table i).fit
act-fits st v (Lock x m) i h = lock-fits st v x m i h
act-fits st v (Convert x m) i h = let p = all-pass (tests st v (Convert x m)) h in may-ask st v x m i p.1.0 p.1.1.1.0 p.1.1.1.1.1.0
act-fits st v Poll i h = (orderly-refl st.table i).fit
act-fits st v (Release x) i h = let p = all-pass (tests st v (Release x)) h in released-fits v x st i (is-none (request_of v st.table.requests) p.1.0) p.1.1.1.1.0
act-fits st v Commit i h = ended-fits v st i
act-fits st v Abort i h = ended-fits v st i
act-fits st v (Try x m) i h = lock-fits st v x m i (try-locks st v x m h)
act-fits st v Withdraw i h = (cancelled-orderly v st.table i).fit
act-fits st v Restart i h = ended-fits v st i

-- so does every call, refused or not
pub step-fits : (st : State) (v : ℕ) (c : Call) → IsSound st.table → DoGrantsFit st.table (step st v c).state.table
step-fits st v c i = go (first_failing (tests st v c)) refl
  where
    go : (o : Option Why) → first_failing (tests st v c) ≡ o → DoGrantsFit st.table (outcome_of o st v c).state.table
    go None e = act-fits st v c i e
    go (Some w) e = (orderly-refl st.table i).fit
