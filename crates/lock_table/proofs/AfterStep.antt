-- The views after a request, and after the end of a transaction.
use Rattle.std.proofs.Common.{◌≡◌, ℕ, Bool, true, false, cond, not, ◌&&◌, ◌||◌, inl, inr, List, [], ◌∷◌, ◌++◌, map, None, is_some, refl, sym, ◌∙◌, ap}
use Rattle.std.specs.Prelude.{filter}
use Rattle.std.proofs.lemmas.Bool.{and_parts, not-true}
use Rattle.lock_modes.specs.declared.Mode.{Mode}
use Rattle.lock_tree.specs.Paths.{same_path}
use Rattle.lock_rules.specs.State as rules
use Rattle.lock_rules.specs.Queue.{conversions, fresh_requests, queue, is_empty, with_lock, after_grant, is_granted_at_once, with_request}
use Rattle.lock_rules.specs.Waits.{resource_of_request, without_request, after_cancel}
use Rattle.lock_rules.specs.Step.{without_claims, after_end}
use Rattle.lock_rules.specs.Effects.{resources_touched}
use Rattle.lock_rules.specs.Sound.{IsSound, ascend}
use Rattle.lock_rules.proofs.Lists.{same_path_tells}
use Rattle.lock_rules.proofs.Alters.{queue-alters}
use Rattle.lock_rules.proofs.Sound.{eqb-swap, altered-sound, granted-alters, no_more-alters}
use Rattle.lock_rules.proofs.Cuts.{left-alters, left-sound}
use Rattle.lock_rules.proofs.Begins.{queue-fresh, queue-converted, queue-beside}
use Rattle.lock_table.specs.declared.cells.GivenUp.TheVariants as claim
use Rattle.lock_table.specs.inner.Cells.{View, view_after_promotion, view_after_giving_up, view_after_freeing, behind_conversions, queue_with, can_grant, view_after_asking}
use Rattle.lock_holders.specs.SessionModes.{has_session, with_holder, Ascends, is_nobody}
use Rattle.session_locks.specs.Resources.{has_path}
use Rattle.lock_table.specs.Changes.{view_after_cancel, view_after_end}
use Rattle.lock_table.specs.Shows.{short, claims_on, view}
use Rattle.session_locks.proofs.LockLists.{has_path-append}
use Rattle.lock_table.proofs.WaitQueues.{AreAll, behind-between}
use Rattle.lock_holders.proofs.SessionModes.{without-none}
use Rattle.lock_table.proofs.TableViews.{in_mode, fits-seen, held-seen, pairs-seen, claims_on-with_lock, claims_on-with_lock_path, claims_on-claims_but, queue-without, queue-apart, all-seen}
use Rattle.lock_table.proofs.LockCounts.{queue-has, waits_on-once, locks_in, listed}
use Rattle.lock_table.proofs.LeavingAResource.{view_without, gone-ended}

-- the end of a transaction

-- a view after all claims of a session are removed
left-seen : (s : ℕ) (t : rules.Table) (x : List ℕ) → view x (without_claims s t) ≡ view_without s (view x t)
left-seen s t x =
    let hs = claims_on-claims_but s x t.held in
    let ws = ap (map short) (queue-alters s t (without_claims s t) (left-alters s t) x) ∙ queue-without s (queue t x) in
    λ j. record { holders = hs j; waiting = ws j }

-- the resources that the end of a transaction touches are those that the session holds or waits for
resources-seen : (s : ℕ) (t : rules.Table) → IsSound t → (x : List ℕ) → has_path x (resources_touched s t) ≡ (has_session s (view x t).waiting || has_session s (view x t).holders)
resources-seen s t i x =
    let a = has_path-append x (resource_of_request (rules.request_of s t.requests)) (locks_in s t.held) in
    let b = sym (waits_on-once s x t.requests (i.once s)) ∙ sym (queue-has s x t) in
    let c = listed s x t.held in
    a ∙ (λ j. b j || c j)

-- the holders of a view are in order of session number
pub ascends-seen : (t : rules.Table) → IsSound t → (x : List ℕ) → Ascends (view x t).holders
ascends-seen t i x = ap ascend (pairs-seen x t.held) ∙ i.order x

-- the views after the end of a transaction
pub ended-seen : (s : ℕ) (t : rules.Table) → IsSound t → (x : List ℕ) → view x (after_end s t) ≡ view_after_end s (view x t)
ended-seen s t i x =
    all-seen (resources_touched s t) (without_claims s t) (left-sound s t i) x
    ∙ (ap (λ (v : View). cond (has_path x (resources_touched s t)) (view_after_promotion v) v) (left-seen s t x)
    ∙ (ap (λ (b : Bool). cond b (view_after_promotion (view_without s (view x t))) (view_without s (view x t))) (resources-seen s t i x)
    ∙ gone-ended s (view x t) (ascends-seen t i x)))

-- a request

-- the queue of the table is empty exactly if that of the view is
nobody-seen : (qs : List rules.Claim) → is_empty qs ≡ is_nobody (map short qs)
nobody-seen [] = refl
nobody-seen (q ∷ qs) = refl

-- a request is granted at once in the table exactly if it is in the view
pub granted-seen : (s : ℕ) (r : List ℕ) (m : Mode) (t : rules.Table) → is_granted_at_once t s r m ≡ can_grant (in_mode s m) (view r t)
granted-seen s r m t =
    let a = fits-seen s m r t.held in
    let b = held-seen s r t.held in
    let c = nobody-seen (queue t r) in
    λ i. a i && (b i || c i)

-- the view of two lists of requests, one behind the other
map-both : (ps qs : List rules.Claim) → map short (ps ++ qs) ≡ map short ps ++ map short qs
map-both [] qs = refl
map-both (p ∷ ps) qs = ap (λ xs. short p ∷ xs) (map-both ps qs)

-- the conversions in a queue are requests of holders, and the fresh requests are not
all-kind : (b : Bool) (r : List ℕ) (t : rules.Table) (p : rules.Claim → Bool) (ws : List rules.Claim) → ((q : rules.Claim) → p q ≡ true → is_some (rules.held_mode t q.session r) ≡ b) → AreAll (claims_on r t.held) b (map short (filter p ws))
all-kind b r t p [] h = tt
all-kind b r t p (q ∷ ws) h = go (p q) refl (all-kind b r t p ws h)
  where
    go : (c : Bool) → p q ≡ c → AreAll (claims_on r t.held) b (map short (filter p ws)) → AreAll (claims_on r t.held) b (map short (cond c (q ∷ filter p ws) (filter p ws)))
    go true e rest = (sym (held-seen q.session r t.held) ∙ h q e, rest)
    go false e rest = rest

-- a request that is added to the table is added to the queue of the view
queued-seen : (s : ℕ) (r : List ℕ) (m : Mode) (t : rules.Table) → map short (queue (with_request s r m t) r) ≡ queue_with (in_mode s m) (claims_on r t.held) (map short (queue t r))
queued-seen s r m t = go (is_some (rules.held_mode t s r)) refl
  where
    seen-as : (b : Bool) → is_some (rules.held_mode t s r) ≡ b → queue_with (in_mode s m) (claims_on r t.held) (map short (queue t r)) ≡ cond b (behind_conversions (in_mode s m) (claims_on r t.held) (map short (queue t r))) (map short (queue t r) ++ in_mode s m ∷ [])
    seen-as b e = ap (λ (c : Bool). cond c (behind_conversions (in_mode s m) (claims_on r t.held) (map short (queue t r))) (map short (queue t r) ++ in_mode s m ∷ [])) (sym (held-seen s r t.held) ∙ e)

    flip : (a b : Bool) → (a && not b) ≡ true → b ≡ false
    flip a b h = let p = and_parts a (not b) h in not-true b p.1

    go : (b : Bool) → is_some (rules.held_mode t s r) ≡ b → map short (queue (with_request s r m t) r) ≡ queue_with (in_mode s m) (claims_on r t.held) (map short (queue t r))
    go true e =
        ap (map short) (queue-converted s r m t e)
        ∙ (map-both (conversions t r) (record { session = s; resource = r; mode = m } ∷ fresh_requests t r)
        ∙ (sym (behind-between (in_mode s m) (claims_on r t.held) (map short (conversions t r)) (map short (fresh_requests t r))
        (all-kind true r t (λ q. same_path q.resource r && is_some (rules.held_mode t q.session r)) t.requests (λ q h. (and_parts (same_path q.resource r) (is_some (rules.held_mode t q.session r)) h).1))
        (all-kind false r t (λ q. same_path q.resource r && not (is_some (rules.held_mode t q.session r))) t.requests (λ q h. flip (same_path q.resource r) (is_some (rules.held_mode t q.session r)) h)))
        ∙ sym (seen-as true e ∙ ap (behind_conversions (in_mode s m) (claims_on r t.held)) (map-both (conversions t r) (fresh_requests t r)))))
    go false e = ap (map short) (queue-fresh s r m t e) ∙ (map-both (queue t r) (record { session = s; resource = r; mode = m } ∷ []) ∙ sym (seen-as false e))

-- the views after a request is granted at once
granted-view : (s : ℕ) (r x : List ℕ) (m : Mode) (t : rules.Table) → IsSound t → rules.request_of s t.requests ≡ None
    → view x (after_grant s r m t) ≡ cond (same_path r x) (record { holders = with_holder (in_mode s m) (claims_on r t.held); waiting = map short (queue t r) }) (view x t)
granted-view s r x m t i n =
    let ws : queue (after_grant s r m t) x ≡ queue t x = queue-alters s t (after_grant s r m t) (granted-alters s r m t) x ∙ queue-apart t s x i.once (λ q e. absurd (cc)) in
    elim (same_path_tells r x) [
      | inl h ↦ at (sym h.1) h.0 ws
      | inr h ↦ (let hs = claims_on-with_lock_path s r x m t.held h in λ j. record { holders = hs j; waiting = map short (ws j) }) ∙ sym (ap (λ (b : Bool). cond b (record { holders = with_holder (in_mode s m) (claims_on r t.held); waiting = map short (queue t r) }) (view x t)) h)
    ]
  where
    at : x ≡ r → same_path r x ≡ true → queue (after_grant s r m t) x ≡ queue t x → view x (after_grant s r m t) ≡ cond (same_path r x) (record { holders = with_holder (in_mode s m) (claims_on r t.held); waiting = map short (queue t r) }) (view x t)
    at e h ws =
        (λ j. record { holders = claims_on (e j) (with_lock s r m t.held); waiting = map short (ws j) })
        ∙ ((let hs = claims_on-with_lock s r m t.held in λ j. record { holders = hs j; waiting = map short (queue t (e j)) })
        ∙ sym (ap (λ (b : Bool). cond b (record { holders = with_holder (in_mode s m) (claims_on r t.held); waiting = map short (queue t r) }) (view x t)) h))

-- the views after a request is queued
waiting-view : (s : ℕ) (r x : List ℕ) (m : Mode) (t : rules.Table)
    → view x (with_request s r m t) ≡ cond (same_path r x) (record { holders = claims_on r t.held; waiting = queue_with (in_mode s m) (claims_on r t.held) (map short (queue t r)) }) (view x t)
waiting-view s r x m t = elim (same_path_tells r x) [
  | inl h ↦ at (sym h.1) h.0
  | inr h ↦ (let ws = queue-beside s r x m t h in λ j. record { holders = claims_on x t.held; waiting = map short (ws j) }) ∙ sym (ap (λ (b : Bool). cond b (record { holders = claims_on r t.held; waiting = queue_with (in_mode s m) (claims_on r t.held) (map short (queue t r)) }) (view x t)) h)
]
  where
    at : x ≡ r → same_path r x ≡ true → view x (with_request s r m t) ≡ cond (same_path r x) (record { holders = claims_on r t.held; waiting = queue_with (in_mode s m) (claims_on r t.held) (map short (queue t r)) }) (view x t)
    at e h =
        ap (λ (y : List ℕ). view y (with_request s r m t)) e
        ∙ ((let ws = queued-seen s r m t in λ j. record { holders = claims_on r t.held; waiting = ws j })
        ∙ sym (ap (λ (b : Bool). cond b (record { holders = claims_on r t.held; waiting = queue_with (in_mode s m) (claims_on r t.held) (map short (queue t r)) }) (view x t)) h))

-- the state after a request is granted, or is queued
abbrev pub first_state : rules.State → ℕ → List ℕ → Mode → Bool → rules.State
first_state st s r m b = rules.with_table (cond b (after_grant s r m st.table) (with_request s r m st.table)) st

-- the views of that state
pub first-seen : (st : rules.State) (s : ℕ) (r x : List ℕ) (m : Mode) (b : Bool) → b ≡ can_grant (in_mode s m) (view r st.table) → IsSound st.table → rules.request_of s st.table.requests ≡ None
    → view x (first_state st s r m b).table ≡ cond (same_path r x) (view_after_asking (in_mode s m) (view r st.table)) (view x st.table)
first-seen st s r x m b is i n =
    go b ∙ ap (λ (c : Bool). cond (same_path r x) (cond c (record { holders = with_holder (in_mode s m) (claims_on r st.table.held); waiting = map short (queue st.table r) }) (record { holders = claims_on r st.table.held; waiting = queue_with (in_mode s m) (claims_on r st.table.held) (map short (queue st.table r)) })) (view x st.table)) is
  where
    go : (b : Bool) → view x (cond b (after_grant s r m st.table) (with_request s r m st.table))
        ≡ cond (same_path r x) (cond b (record { holders = with_holder (in_mode s m) (claims_on r st.table.held); waiting = map short (queue st.table r) }) (record { holders = claims_on r st.table.held; waiting = queue_with (in_mode s m) (claims_on r st.table.held) (map short (queue st.table r)) })) (view x st.table)
    go true = granted-view s r x m st.table i n
    go false = waiting-view s r x m st.table

-- the removal of a request

-- a view after the request of a session is removed, before its queue is promoted
no_more-seen : (s : ℕ) (t : rules.Table) (x : List ℕ) → view x (without_request s t) ≡ view_after_giving_up claim.Request s (view x t)
no_more-seen s t x =
    let ws = ap (map short) (queue-alters s t (without_request s t) (no_more-alters s t) x) ∙ queue-without s (queue t x) in
    λ j. record { holders = claims_on x t.held; waiting = ws j }

-- a table stays sound when a request is removed
no_more-sound : (s : ℕ) (t : rules.Table) → IsSound t → IsSound (without_request s t)
no_more-sound s t i = altered-sound s t (without_request s t) (no_more-alters s t) i (λ x k e. i.held_under s x k e) (λ u x k l m e f. i.agree s u x k l (eqb-swap u s m) e f)

-- the views after a request is removed and its queue promoted
pub cancelled-seen : (s : ℕ) (t : rules.Table) → IsSound t → (x : List ℕ) → view x (after_cancel s t) ≡ view_after_cancel s (view x t)
cancelled-seen s t i x =
    all-seen (resource_of_request (rules.request_of s t.requests)) (without_request s t) (no_more-sound s t i) x
    ∙ (ap (λ (v : View). cond (has_path x (resource_of_request (rules.request_of s t.requests))) (view_after_promotion v) v) (no_more-seen s t x)
    ∙ (ap (λ (b : Bool). cond b (view_after_freeing claim.Request s (view x t)) (view_after_giving_up claim.Request s (view x t))) (sym (waits_on-once s x t.requests (i.once s)) ∙ sym (queue-has s x t))
    ∙ go (has_session s (view x t).waiting) refl))
  where
    go : (b : Bool) → has_session s (view x t).waiting ≡ b → cond b (view_after_freeing claim.Request s (view x t)) (view_after_giving_up claim.Request s (view x t)) ≡ cond b (view_after_freeing claim.Request s (view x t)) (view x t)
    go true e = refl
    go false e = let ws = without-none s (view x t).waiting e in λ j. record { holders = (view x t).holders; waiting = ws j }
