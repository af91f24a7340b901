-- What a release, the end of a transaction and a restart take away, and what others get.
use Rattle.std.proofs.Common.{◌≡◌, ◌≢◌, ℕ, Bool, true, false, cond, eqb, ◌||◌, ◌⊎◌, inl, inr, List, [], ◌∷◌, ◌++◌, length, Option, Some, None, map, refl, sym, ◌∙◌, ap, arith, subst, is_some}
use Rattle.std.proofs.lemmas.Bool.Decides.{nat_tests, Decides-eqb}
use Rattle.std.proofs.lemmas.Bool.{or_left, or_right, cases_Bool}
use Rattle.lock_modes.specs.declared.Mode.{Mode}
use Rattle.lock_modes.specs.Order.{at_or_below}
use Rattle.lock_modes.proofs.Order.{order-from}
use Rattle.lock_tree.specs.Paths.{same_path}
use Rattle.lock_rules.specs.declared.calls.Call.{Call}
use Rattle.lock_rules.specs.declared.calls.Call.TheVariants.{Release, Commit, Abort, Restart}
use Rattle.lock_rules.specs.declared.calls.Reply.TheVariants.{Released, Committed, Aborted, Restarted}
use Rattle.lock_rules.specs.declared.calls.Transaction.{Transaction}
use Rattle.lock_rules.specs.declared.calls.Why.{Why}
use Rattle.lock_rules.specs.State.{Claim, Table, State, mode_in, held_mode, mode_or_nothing, request_of, claims_of, with_table, with_begun}
use Rattle.lock_rules.specs.Queue.{queue, fits, after_grant, granted_while_fitting, after_promotion, after_promotions}
use Rattle.lock_rules.specs.Waits.{resource_of_request}
use Rattle.lock_rules.specs.Step.{Outcome, tests, first_failing, act, outcome_of, step, without_claims, after_end, after_release, holds_child, restarted}
use Rattle.lock_rules.specs.Laws.{HoldsAtLeast}
use Rattle.lock_rules.specs.Effects.{IsNotRefused, IsUnchanged, IsPromotionOf, IsReleaseOf, DoesReleaseTakeOneLock, HasNoClaimOn, resources_touched, AreClaimsTaken, IsEndOf, DoesCommitTakeAllLocks, DoesAbortTakeAllLocks}
use Rattle.lock_rules.specs.Restarts.{IsRestartOf, DoesRestartTakeAllLocks, DoesRestartClearAsAbort}
use Rattle.lock_rules.specs.Sound.{IsOnce, IsSound}
use Rattle.lock_rules.proofs.Lists.{times-claims_but, eqb-refl, same_path-refl, same_path-true, other, differs, mode_in-with_lock, mode_in-with_lock_path, mode_in-with_lock_other, mode_in-locks_but, mode_in-locks_but_path, mode_in-locks_but_other, mode_in-claims_but, mode_in-claims_but_other, request_of-claims_but, request_of-claims_but_other}
use Rattle.lock_rules.proofs.Alters.{true≢false}
use Rattle.lock_rules.proofs.Fronts.{promotions-longest}
use Rattle.lock_rules.proofs.Sound.{head-request, queue-rest, granted-alters}
use Rattle.lock_rules.proofs.Promote.{among}
use Rattle.lock_rules.proofs.Cuts.{IsQuiescent, one_less, left-sound, released-rises, ended-rises}
use Rattle.lock_rules.proofs.Steps.{all-pass, is-none}
use Rattle.lock_rules.proofs.Grants.{held-on}

-- one change after another

-- without a change a session is unchanged
pub refl-same : (u : ℕ) (t : Table) → IsUnchanged u t t
refl-same u t = record { held = λ x. refl; request = refl }

-- if each of two changes leaves a session unchanged, both together do
pub same-same : (u : ℕ) (t v w : Table) → IsUnchanged u t v → IsUnchanged u v w → IsUnchanged u t w
same-same u t v w a b = record { held = λ x. b.held x ∙ a.held x; request = b.request ∙ a.request }

-- a change that leaves the session unchanged and then a promotion are a promotion of it
pub same-promotion : (u : ℕ) (q : Claim) (t v w : Table) → IsUnchanged u t v → IsPromotionOf u q v w → IsPromotionOf u q t w
same-promotion u q t v w a b = record { waited = sym a.request ∙ b.waited; waits_no_more = b.waits_no_more; held = b.held; elsewhere = λ x n. b.elsewhere x n ∙ a.held x }

-- a promotion and then a change that leaves the session unchanged are a promotion of it
pub promotion-same : (u : ℕ) (q : Claim) (t v w : Table) → IsPromotionOf u q t v → IsUnchanged u v w → IsPromotionOf u q t w
promotion-same u q t v w a b = record { waited = a.waited; waits_no_more = b.request ∙ a.waits_no_more; held = b.held q.resource ∙ a.held; elsewhere = λ x n. b.held x ∙ a.elsewhere x n }

-- the session is unchanged, or its request for a resource that passes P is granted
abbrev pub IsUnchangedOrPromoted : ℕ → (List ℕ → Type 0) → Table → Table → Type 0
IsUnchangedOrPromoted u P t t' = IsUnchanged u t t' ⊎ ((q : Claim) × IsPromotionOf u q t t' × P q.resource)

-- IsUnchangedOrPromoted still holds if a change before it left the session unchanged
pub after-same : (u : ℕ) (P : List ℕ → Type 0) (t v w : Table) → IsUnchanged u t v → IsUnchangedOrPromoted u P v w → IsUnchangedOrPromoted u P t w
after-same u P t v w a h = elim h [ inl b ↦ inl (same-same u t v w a b) | inr p ↦ inr (p.0, same-promotion u p.0 t v w a p.1, p.2) ]

-- None isn't some
pub none : {o : Option Claim} {c : Claim} → o ≡ None → o ≡ Some c → ⊥
none e f = cc

-- a session whose request is granted, and that is then unchanged or promoted, was granted that request alone
after-promotion : (u : ℕ) (q : Claim) (P Q : List ℕ → Type 0) (t v w : Table) → IsPromotionOf u q t v → Q q.resource → IsUnchangedOrPromoted u P v w → IsUnchangedOrPromoted u Q t w
after-promotion u q P Q t v w a k h = elim h [ inl b ↦ inr (q, promotion-same u q t v w a b, k) | inr p ↦ absurd (none a.waits_no_more p.1.waited) ]

-- a session without a request is unchanged
pub unserved : (u : ℕ) (P : List ℕ → Type 0) (t w : Table) → request_of u t.requests ≡ None → IsUnchangedOrPromoted u P t w → IsUnchanged u t w
unserved u P t w n h = elim h [ inl a ↦ a | inr p ↦ absurd (none n p.1.waited) ]

-- promotions

-- a grant leaves other sessions unchanged
pub granted-other : (u : ℕ) (q : Claim) (t : Table) → eqb u q.session ≡ false → IsUnchanged u t (after_grant q.session q.resource q.mode t)
granted-other u q t n = record { held = λ x. mode_in-with_lock_other u q.session x q.resource q.mode t.held n; request = request_of-claims_but_other u q.session t.requests n }

-- a grant of a session's request is a promotion of it
granted-own : (q : Claim) (t : Table) → request_of q.session t.requests ≡ Some q → IsPromotionOf q.session q t (after_grant q.session q.resource q.mode t)
granted-own q t e = record {
  waited = e;
  waits_no_more = request_of-claims_but q.session t.requests;
  held = mode_in-with_lock q.session q.resource q.mode t.held;
  elsewhere = λ x n. mode_in-with_lock_path q.session q.session x q.resource q.mode t.held (differs x q.resource n);
}

-- after a grant each session still has one request at most
granted-once : (q : Claim) (t : Table) → IsOnce t.requests → IsOnce (after_grant q.session q.resource q.mode t).requests
granted-once q t o u = omega (arith, times-claims_but u q.session t.requests, o u)

-- after grants each session still has one request at most
front-once : (qs : List Claim) (t : Table) → IsOnce t.requests → IsOnce (granted_while_fitting qs t).requests
front-once [] t o = o
front-once (q ∷ qs) t o = go (fits t q.session q.resource q.mode) (front-once qs (after_grant q.session q.resource q.mode t) (granted-once q t o))
  where
    go : (b : Bool) → IsOnce (granted_while_fitting qs (after_grant q.session q.resource q.mode t)).requests → IsOnce (cond b (granted_while_fitting qs (after_grant q.session q.resource q.mode t)) t).requests
    go true k = k
    go false k = o

-- after promotions each session still has one request at most
pub all-once : (rs : List (List ℕ)) (t : Table) → IsOnce t.requests → IsOnce (after_promotions rs t).requests
all-once [] t o = o
all-once (r ∷ rs) t o = all-once rs (after_promotion r t) (front-once (queue t r) t o)

-- grants from the queue of r leave a session unchanged, or grant its request for r
front-served : (r : List ℕ) (qs : List Claim) (t : Table) → IsOnce t.requests → queue t r ≡ qs → (u : ℕ) → IsUnchangedOrPromoted u (λ x. x ≡ r) t (granted_while_fitting qs t)
front-served r [] t o e u = inl (refl-same u t)
front-served r (q ∷ qs) t o e u = go (fits t q.session q.resource q.mode) (front-served r qs (after_grant q.session q.resource q.mode t) (granted-once q t o) (queue-rest t (after_grant q.session q.resource q.mode t) r q qs o e (granted-alters q.session q.resource q.mode t)) u)
  where
    first : (w : Table) → IsUnchangedOrPromoted u (λ x. x ≡ r) (after_grant q.session q.resource q.mode t) w → IsUnchangedOrPromoted u (λ x. x ≡ r) t w
    first w h = elim (cases_Bool (eqb u q.session)) [
      | inr n ↦ after-same u (λ x. x ≡ r) t (after_grant q.session q.resource q.mode t) w (granted-other u q t n) h
      | inl y ↦ let f = (Decides-eqb u q.session).0 y in after-promotion u q (λ x. x ≡ r) (λ x. x ≡ r) t (after_grant q.session q.resource q.mode t) w (rw f (granted-own q t (head-request t r q qs o e).0)) (same_path-true q.resource r (head-request t r q qs o e).1) h
    ]

    go : (b : Bool) → IsUnchangedOrPromoted u (λ x. x ≡ r) (after_grant q.session q.resource q.mode t) (granted_while_fitting qs (after_grant q.session q.resource q.mode t))
        → IsUnchangedOrPromoted u (λ x. x ≡ r) t (cond b (granted_while_fitting qs (after_grant q.session q.resource q.mode t)) t)
    go false next = inl (refl-same u t)
    go true next = first (granted_while_fitting qs (after_grant q.session q.resource q.mode t)) next

-- a promotion of r leaves a session unchanged, or grants its request for r
promoted-served : (r : List ℕ) (t : Table) → IsOnce t.requests → (u : ℕ) → IsUnchangedOrPromoted u (λ x. x ≡ r) t (after_promotion r t)
promoted-served r t o u = front-served r (queue t r) t o refl u

-- promotions leave a session unchanged, or grant its request for one of these resources
pub all-served : (rs : List (List ℕ)) (t : Table) → IsOnce t.requests → (u : ℕ) → IsUnchangedOrPromoted u (λ x. among rs x ≡ true) t (after_promotions rs t)
all-served [] t o u = inl (refl-same u t)
all-served (r ∷ rs) t o u =
    let rest = all-served rs (after_promotion r t) (front-once (queue t r) t o) u in
    elim (promoted-served r t o u) [
      | inl a ↦ elim (after-same u (λ x. among rs x ≡ true) t (after_promotion r t) (after_promotions rs (after_promotion r t)) a rest) [
        | inl b ↦ inl b
        | inr p ↦ inr (p.0, p.1, or_right (same_path r p.0.resource) (among rs p.0.resource) p.2)
      ]
      | inr p ↦ after-promotion u p.0 (λ x. among rs x ≡ true) (λ x. among (r ∷ rs) x ≡ true) t (after_promotion r t) (after_promotions rs (after_promotion r t)) p.1 (or_left (same_path r p.0.resource) (among rs p.0.resource) (rw p.2 (same_path-refl r))) rest
    ]

-- a release

-- a lock that didn't fall is held in its mode or one above
risen : (t t' : Table) (u : ℕ) (x : List ℕ) (k : Mode) → IsSound t → held_mode t u x ≡ Some k → at_or_below (mode_or_nothing (held_mode t u x)) (mode_or_nothing (held_mode t' u x)) ≡ true → HoldsAtLeast t' u x k
risen t t' u x k i e up =
    let l = held-on k (held_mode t' u x) (i.held_under u x k e).1 (ap (λ (o : Option Mode). at_or_below (mode_or_nothing o) (mode_or_nothing (held_mode t' u x))) (sym e) ∙ up) in
    (l.0, l.1, order-from k l.0 l.2)

-- a release is as IsReleaseOf says
pub released-takes : (s : ℕ) (r : List ℕ) (st : State) → IsSound st.table → request_of s st.table.requests ≡ None → holds_child st.table s r ≡ false → IsReleaseOf s r st (with_table (after_release s r st.table) st)
released-takes s r st i n c = record {
  given_back = own.held r ∙ mode_in-locks_but s r st.table.held;
  request = own.request ∙ n;
  elsewhere = λ u x m. elim (served u) [
    | inl a ↦ a.held x ∙ mode_in-locks_but_path u s x r st.table.held (differs x r m)
    | inr p ↦ p.1.elsewhere x (λ e. m (e ∙ p.2)) ∙ mode_in-locks_but_path u s x r st.table.held (differs x r m)
  ];
  others_hold = λ u k m e. risen st.table (after_release s r st.table) u r k i e (released-rises s r st.table i n c u r (inl (other s u m)));
  others = λ u m. after-same u (λ x. x ≡ r) st.table (one_less s r st.table) (after_release s r st.table) (before u (other s u m)) (served u);
  promotion = promotions-longest (r ∷ []) (one_less s r st.table);
  transactions = (refl, refl);
}
  where
    served : (u : ℕ) → IsUnchangedOrPromoted u (λ x. x ≡ r) (one_less s r st.table) (after_release s r st.table)
    served u = promoted-served r (one_less s r st.table) i.once u

    own : IsUnchanged s (one_less s r st.table) (after_release s r st.table)
    own = unserved s (λ x. x ≡ r) (one_less s r st.table) (after_release s r st.table) n (served s)

    before : (u : ℕ) → eqb u s ≡ false → IsUnchanged u st.table (one_less s r st.table)
    before u m = record { held = λ x. mode_in-locks_but_other u s x r st.table.held m; request = refl }

-- the end of a transaction

-- a resource in neither of two lists isn't in their concatenation
among-both : (xs ys : List (List ℕ)) (x : List ℕ) → among xs x ≡ false → among ys x ≡ false → among (xs ++ ys) x ≡ false
among-both [] ys x h k = k
among-both (z ∷ xs) ys x h k = go (same_path z x) h (among-both xs ys x)
  where
    go : (b : Bool) → (b || among xs x) ≡ false → (among xs x ≡ false → among ys x ≡ false → among (xs ++ ys) x ≡ false) → (b || among (xs ++ ys) x) ≡ false
    go true h next = absurd (cc)
    go false h next = next h k

-- a resource that a session doesn't hold isn't among those of its locks
unheld : (s : ℕ) (x : List ℕ) (cs : List Claim) → mode_in s x cs ≡ None → among (map (λ (c : Claim). c.resource) (claims_of s cs)) x ≡ false
unheld s x [] h = refl
unheld s x (c ∷ cs) h = grind (arith, nat_tests, cases_Bool (same_path c.resource x), unheld s x cs)

-- a resource that the request isn't for isn't in the list of its resource
unwanted : (o : Option Claim) (x : List ℕ) → ((q : Claim) → o ≡ Some q → q.resource ≢ x) → among (resource_of_request o) x ≡ false
unwanted None x h = refl
unwanted (Some q) x h = ap (λ (b : Bool). b || false) (differs x q.resource (λ e. h q refl (sym e)))

-- a resource that a session has no claim on isn't touched by its end
apart-untouched : (s : ℕ) (t : Table) (x : List ℕ) → HasNoClaimOn t s x → among (resources_touched s t) x ≡ false
apart-untouched s t x h = among-both (resource_of_request (request_of s t.requests)) (map (λ (c : Claim). c.resource) (claims_of s t.held)) x (unwanted (request_of s t.requests) x h.1) (unheld s x t.held h.0)

-- a session's claims are taken, whatever its transaction is afterwards
pub claims-taken : (s : ℕ) (o : Option Transaction) (st : State) → IsSound st.table → AreClaimsTaken s st (with_begun s o (with_table (after_end s st.table) st))
claims-taken s o st i = record {
  holds_nothing = λ x. own.held x ∙ mode_in-claims_but s x st.table.held;
  waits_no_more = own.request ∙ request_of-claims_but s st.table.requests;
  others_hold = λ u x k m e. risen st.table (after_end s st.table) u x k i e (ended-rises s st.table i u x (other s u m));
  others = λ u m. elim (after-same u (λ x. among (resources_touched s st.table) x ≡ true) st.table (without_claims s st.table) (after_end s st.table) (before u (other s u m)) (served u)) [
    | inl a ↦ inl a
    | inr p ↦ inr (p.0, p.1, λ h. true≢false p.2 (apart-untouched s st.table p.0.resource h))
  ];
  promotion = promotions-longest (resources_touched s st.table) (without_claims s st.table);
  others_open = λ u m. ap (λ (b : Bool). cond b o (st.begun u)) (other s u m);
  count = refl;
}
  where
    served : (u : ℕ) → IsUnchangedOrPromoted u (λ x. among (resources_touched s st.table) x ≡ true) (without_claims s st.table) (after_end s st.table)
    served u = all-served (resources_touched s st.table) (without_claims s st.table) (left-sound s st.table i).once u

    own : IsUnchanged s (without_claims s st.table) (after_end s st.table)
    own = unserved s (λ x. among (resources_touched s st.table) x ≡ true) (without_claims s st.table) (after_end s st.table) (request_of-claims_but s st.table.requests) (served s)

    before : (u : ℕ) → eqb u s ≡ false → IsUnchanged u st.table (without_claims s st.table)
    before u n = record { held = λ x. mode_in-claims_but_other u s x st.table.held n; request = request_of-claims_but_other u s st.table.requests n }

-- the end of a transaction is as IsEndOf says
ended-takes : (s : ℕ) (st : State) → IsSound st.table → IsEndOf s st (with_begun s None (with_table (after_end s st.table) st))
ended-takes s st i = record {
  closed = ap (λ (b : Bool). is_some (cond b None (st.begun s))) (eqb-refl s);
  taken = claims-taken s None st i;
}

-- a restart is as IsRestartOf says
restarted-takes : (s : ℕ) (st : State) → IsSound st.table → IsRestartOf s st (with_begun s (restarted (st.begun s)) (with_table (after_end s st.table) st))
restarted-takes s st i = record {
  own = λ x e. ap (λ (b : Bool). cond b (restarted (st.begun s)) (st.begun s)) (eqb-refl s) ∙ ap restarted e;
  taken = claims-taken s (restarted (st.begun s)) st i;
}

-- calls that are not refused

-- a call that isn't refused passes all its tests
pub passes : (st : State) (s : ℕ) (c : Call) → IsNotRefused st s c → first_failing (tests st s c) ≡ None
passes st s c h = go (first_failing (tests st s c)) refl
  where
    go : (o : Option Why) → first_failing (tests st s c) ≡ o → first_failing (tests st s c) ≡ None
    go None e = e
    go (Some w) e = absurd (h w (ap (λ (o : Option Why). (outcome_of o st s c).reply) e))

-- a call that isn't refused acts
pub step-acts : (st : State) (s : ℕ) (c : Call) → IsNotRefused st s c → step st s c ≡ act st s c
step-acts st s c h = ap (λ (o : Option Why). outcome_of o st s c) (passes st s c h)

-- a release that isn't refused takes one lock
pub release-one : (st : State) → IsQuiescent st.table → DoesReleaseTakeOneLock st
release-one st i s r h =
    let p = all-pass (tests st s (Release r)) (passes st s (Release r) h) in
    subst (λ (o : Outcome). (o.reply ≡ Released) × IsReleaseOf s r st o.state) (sym (step-acts st s (Release r) h))
    (refl, released-takes s r st i.sound (is-none (request_of s st.table.requests) p.1.0) p.1.1.1.1.0)

-- a commit that isn't refused takes all locks
pub commit-all : (st : State) → IsQuiescent st.table → DoesCommitTakeAllLocks st
commit-all st i s h = subst (λ (o : Outcome). (o.reply ≡ Committed (length (claims_of s st.table.held))) × IsEndOf s st o.state) (sym (step-acts st s Commit h)) (refl, ended-takes s st i.sound)

-- an abort that isn't refused takes all locks
pub abort-all : (st : State) → IsQuiescent st.table → DoesAbortTakeAllLocks st
abort-all st i s h = subst (λ (o : Outcome). (o.reply ≡ Aborted (length (claims_of s st.table.held))) × IsEndOf s st o.state) (sym (step-acts st s Abort h)) (refl, ended-takes s st i.sound)

-- a restart that isn't refused takes all locks
pub restart-all : (st : State) → IsQuiescent st.table → DoesRestartTakeAllLocks st
restart-all st i s h = subst (λ (o : Outcome). (o.reply ≡ Restarted (length (claims_of s st.table.held))) × IsRestartOf s st o.state) (sym (step-acts st s Restart h)) (refl, restarted-takes s st i.sound)

-- a restart clears the table as an abort does
pub restart-clears : (st : State) → DoesRestartClearAsAbort st
restart-clears st s = go (first_failing (tests st s Abort))
  where
    go : (o : Option Why) → (outcome_of o st s Restart).state.table ≡ (outcome_of o st s Abort).state.table
    go None = refl
    go (Some w) = refl
