-- The place since when a session waits is that of the request with which it waits.
use Rattle.std.proofs.Common.{◌≡◌, ℕ, zero, suc, ◌+◌, ◌<◌, ◌≤◌, Bool, true, false, cond, not, eqb, ◌&&◌, ◌⊎◌, inl, inr, List, [], ◌∷◌, ◌++◌, length, take, map, slice_get, Option, Some, None, is_some, Contains, length-append, append-nil, append_assoc, refl, sym, ◌∙◌, ap, arith, subst}
use Rattle.std.specs.List.{flat_map, range_with_len}
use Rattle.std.proofs.lemmas.Bool.{and_parts, cases_Bool, cases_lt}
use Rattle.std.proofs.lemmas.Bool.Decides.{Decides-eqb}
use Rattle.std.proofs.lemmas.List.{take-append-le}
use Rattle.std.proofs.Math.Seq.{take-append_seam}
use Rattle.lock_modes.specs.declared.Mode.{Mode}
use Rattle.lock_rules.specs.declared.calls.Call.{Call}
use Rattle.lock_rules.specs.declared.calls.Call.TheVariants.{Begin, Lock, Convert, Poll, Release, Commit, Abort, Try, Withdraw, Restart}
use Rattle.lock_rules.specs.declared.calls.Reply.TheVariants.{Deadlock, Granted, Waiting}
use Rattle.lock_rules.specs.declared.calls.Why.{Why}
use Rattle.lock_rules.specs.Entries.{Entry}
use Rattle.lock_rules.specs.State.{Claim, Table, State, held_mode, request_of, claims_but, claims_of, is_doomed, is_waiting, with_table}
use Rattle.lock_rules.specs.Queue.{queue, fits, after_grant, granted_while_fitting, after_promotion, after_promotions, with_request, is_granted_at_once}
use Rattle.lock_rules.specs.Waits.{resource_of_request, without_request, waits_for, reaches, victim_of, after_victim, after_victims}
use Rattle.lock_rules.specs.Step.{target_of, tests, first_failing, is_held, after_wait, after_asking, without_claims, act, outcome_of, step}
use Rattle.lock_rules.specs.Legal.{IsLegal, state_of}
use Rattle.lock_rules.proofs.Alters.{request-alters, true≢false}
use Rattle.lock_rules.proofs.Begins.{back}
use Rattle.lock_rules.proofs.Cuts.{one_less}
use Rattle.lock_rules.proofs.Histories.{legal-steps, state_of-push}
use Rattle.lock_rules.proofs.Idle.{state-idle}
use Rattle.lock_rules.proofs.Promote.{request-fewer}
use Rattle.lock_rules.proofs.Requests.{try-leaves}
use Rattle.lock_rules.proofs.Steps.{all-pass, is-none}
use Rattle.sequential.proofs.Members.{Member, contains-member}
use Rattle.lock_report.specs.declared.snapshot.WaitLine.{WaitLine}
use Rattle.history_commands.specs.Since.{IsWaitingSince, request_after}
use Rattle.history_commands.specs.Waits.{begins_wait, first_blocker, first_blocker_of, is_waiting_reply, may_wait, other_wait, waits_behind, waits_since, waits_told}
use Rattle.history_commands.proofs.WaitsSince.{since-push}

-- a call gives nobody a request but its own session

module _ (s : ℕ) (q : Claim) where
  -- grants give nobody one
  front-kept : (qs : List Claim) (t : Table) → request_of s (granted_while_fitting qs t).requests ≡ Some q → request_of s t.requests ≡ Some q
  front-kept [] t h = h
  front-kept (p ∷ qs) t h = go (fits t p.session p.resource p.mode) h (front-kept qs (after_grant p.session p.resource p.mode t))
    where
      go : (b : Bool) → request_of s (cond b (granted_while_fitting qs (after_grant p.session p.resource p.mode t)) t).requests ≡ Some q
          → (request_of s (granted_while_fitting qs (after_grant p.session p.resource p.mode t)).requests ≡ Some q → request_of s (claims_but p.session t.requests) ≡ Some q) → request_of s t.requests ≡ Some q
      go true h next = request-fewer s p.session t.requests q (next h)
      go false h next = h

  -- promotions give nobody one
  all-kept : (rs : List (List ℕ)) (t : Table) → request_of s (after_promotions rs t).requests ≡ Some q → request_of s t.requests ≡ Some q
  all-kept [] t h = h
  all-kept (r ∷ rs) t h = front-kept (queue t r) t (all-kept rs (after_promotion r t) h)

  -- victims give nobody one
  victims-kept : (n u : ℕ) (st : State) → request_of s (after_victims n u st).table.requests ≡ Some q → request_of s st.table.requests ≡ Some q
  victims-kept zero u st h = h
  victims-kept (suc n) u st h = go (reaches st.table u u) h (victims-kept n u (after_victim (victim_of st u) st))
    where
      v : ℕ
      v = victim_of st u

      go : (b : Bool) → request_of s (cond b (after_victims n u (after_victim (victim_of st u) st)) st).table.requests ≡ Some q
          → (request_of s (after_victims n u (after_victim (victim_of st u) st)).table.requests ≡ Some q → request_of s (after_victim (victim_of st u) st).table.requests ≡ Some q) → request_of s st.table.requests ≡ Some q
      go true h next = request-fewer s (victim_of st u) st.table.requests q (all-kept (resource_of_request (request_of (victim_of st u) st.table.requests)) (without_request (victim_of st u) st.table) (next h))
      go false h next = h

  -- a request of a session that doesn't wait gives none to another session
  asked-kept : (st : State) (u : ℕ) (r : List ℕ) (m : Mode) → request_of u st.table.requests ≡ None → request_of s (after_asking st u r m).table.requests ≡ Some q → (request_of s st.table.requests ≡ Some q) ⊎ (u ≡ s)
  asked-kept st u r m free h = go (is_held (held_mode st.table u r) m) (is_granted_at_once st.table u r m) h
    where
      go : (b g : Bool) → request_of s (cond b st (cond g (with_table (after_grant u r m st.table) st) (after_wait st u r m))).table.requests ≡ Some q → (request_of s st.table.requests ≡ Some q) ⊎ (u ≡ s)
      go true g h = inl h
      go false true h = inl (request-fewer s u st.table.requests q h)
      go false false h =
          let k = victims-kept (length st.table.requests + 2) u (with_table (with_request u r m st.table) st) h in
          elim (cases_Bool (eqb s u)) [
            | inl e ↦ inr (sym ((Decides-eqb s u).0 e))
            | inr n ↦ inl (request-alters u (with_request u r m st.table) st.table (back u r m st.table free) s n ∙ k)
          ]

  -- a call that isn't refused gives nobody a request, but a lock or a conversion to its own session
  act-kept : (st : State) (u : ℕ) (c : Call) → first_failing (tests st u c) ≡ None → (step st u c).state ≡ (act st u c).state → request_of s (act st u c).state.table.requests ≡ Some q
      → (request_of s st.table.requests ≡ Some q) ⊎ ((u ≡ s) × (may_wait c ≡ true))
  act-kept st u Begin e a h = inl h
  act-kept st u (Lock r m) e a h = let p = all-pass (tests st u (Lock r m)) e in elim (asked-kept st u r (target_of (held_mode st.table u r) m) (is-none (request_of u st.table.requests) p.1.0) h) [ inl k ↦ inl k | inr k ↦ inr (k, refl) ]
  act-kept st u (Convert r m) e a h = let p = all-pass (tests st u (Convert r m)) e in elim (asked-kept st u r (target_of (held_mode st.table u r) m) (is-none (request_of u st.table.requests) p.1.0) h) [ inl k ↦ inl k | inr k ↦ inr (k, refl) ]
  act-kept st u Poll e a h = inl h
  act-kept st u (Release r) e a h = inl (front-kept (queue (one_less u r st.table) r) (one_less u r st.table) h)
  act-kept st u Commit e a h = inl (request-fewer s u st.table.requests q (all-kept (resource_of_request (request_of u st.table.requests) ++ map (λ (c : Claim). c.resource) (claims_of u st.table.held)) (without_claims u st.table) h))
  act-kept st u Abort e a h = inl (request-fewer s u st.table.requests q (all-kept (resource_of_request (request_of u st.table.requests) ++ map (λ (c : Claim). c.resource) (claims_of u st.table.held)) (without_claims u st.table) h))
  act-kept st u (Try r m) e a h = inl (ap (request_of s) (sym (try-leaves st u r m).0 ∙ ap (λ (x : State). x.table.requests) a) ∙ h)
  act-kept st u Withdraw e a h = inl (request-fewer s u st.table.requests q (all-kept (resource_of_request (request_of u st.table.requests)) (without_request u st.table) h))
  act-kept st u Restart e a h = inl (request-fewer s u st.table.requests q (all-kept (resource_of_request (request_of u st.table.requests) ++ map (λ (c : Claim). c.resource) (claims_of u st.table.held)) (without_claims u st.table) h))

-- what the replies tell

-- the reply of a lock or a conversion whose session waits behind it
asked-reply : (st : State) (u : ℕ) (c : Call) → may_wait c ≡ true → is_waiting (act st u c).state u ≡ true → is_doomed (act st u c).state u ≡ false → is_waiting_reply (act st u c).reply ≡ true
asked-reply st u Begin m w d = absurd (cc)
asked-reply st u (Lock r k) m w d = both-told (is_doomed (act st u (Lock r k)).state u) (is_waiting (act st u (Lock r k)).state u) d w
  where
    both-told : (a b : Bool) → a ≡ false → b ≡ true → is_waiting_reply (cond a Deadlock (cond b Waiting (Granted (target_of (held_mode st.table u r) k)))) ≡ true
    both-told true b e f = absurd (cc)
    both-told false true e f = refl
    both-told false false e f = absurd (cc)
asked-reply st u (Convert r k) m w d = both-told (is_doomed (act st u (Convert r k)).state u) (is_waiting (act st u (Convert r k)).state u) d w
  where
    both-told : (a b : Bool) → a ≡ false → b ≡ true → is_waiting_reply (cond a Deadlock (cond b Waiting (Granted (target_of (held_mode st.table u r) k)))) ≡ true
    both-told true b e f = absurd (cc)
    both-told false true e f = refl
    both-told false false e f = absurd (cc)
asked-reply st u Poll m w d = absurd (cc)
asked-reply st u (Release r) m w d = absurd (cc)
asked-reply st u Commit m w d = absurd (cc)
asked-reply st u Abort m w d = absurd (cc)
asked-reply st u (Try r k) m w d = absurd (cc)
asked-reply st u Withdraw m w d = absurd (cc)
asked-reply st u Restart m w d = absurd (cc)

-- a lock or a conversion that isn't refused is of a session that doesn't wait
free-before : (st : State) (u : ℕ) (c : Call) → may_wait c ≡ true → first_failing (tests st u c) ≡ None → is_waiting st u ≡ false
free-before st u Begin m e = absurd (cc)
free-before st u (Lock r k) m e = (all-pass (tests st u (Lock r k)) e).1.0
free-before st u (Convert r k) m e = (all-pass (tests st u (Convert r k)) e).1.0
free-before st u Poll m e = absurd (cc)
free-before st u (Release r) m e = absurd (cc)
free-before st u Commit m e = absurd (cc)
free-before st u Abort m e = absurd (cc)
free-before st u (Try r k) m e = absurd (cc)
free-before st u Withdraw m e = absurd (cc)
free-before st u Restart m e = absurd (cc)

-- one entry more

module _ (s : ℕ) (h : List Entry) (e : Entry) (reply : e.reply ≡ (step (state_of h) e.session e.call).reply) where
  -- with an entry that begins a wait the session had no request in front of it
  begun-free : begins_wait s e ≡ true → request_after s h ≡ None
  begun-free b =
      let p = and_parts (eqb e.session s) (may_wait e.call && is_waiting_reply e.reply) b in
      let k = and_parts (may_wait e.call) (is_waiting_reply e.reply) p.1 in
      let own = (Decides-eqb e.session s).0 p.0 in
      is-none (request_after s h) (ap (is_waiting (state_of h)) (sym own) ∙ go (first_failing (tests (state_of h) e.session e.call)) refl k.0 (ap is_waiting_reply (sym reply) ∙ k.1))
    where
      go : (o : Option Why) → first_failing (tests (state_of h) e.session e.call) ≡ o → may_wait e.call ≡ true → is_waiting_reply (outcome_of o (state_of h) e.session e.call).reply ≡ true → is_waiting (state_of h) e.session ≡ false
      go None f m r = free-before (state_of h) e.session e.call m f
      go (Some y) f m r = absurd (cc)

  -- with any other entry a request that waits behind it waited in front of it
  kept-before : (q : Claim) → begins_wait s e ≡ false → request_after s (h ++ e ∷ []) ≡ Some q → request_after s h ≡ Some q
  kept-before q b after = go (first_failing (tests (state_of h) e.session e.call)) refl (ap (λ (x : State). request_of s x.table.requests) (sym (state_of-push h e)) ∙ after)
    where
      idle : is_doomed (step (state_of h) e.session e.call).state s ≡ false
      idle = elim (cases_Bool (is_doomed (step (state_of h) e.session e.call).state s)) [
        | inl d ↦ absurd (none (state-idle (h ++ e ∷ []) s (ap (λ (x : State). is_doomed x s) (state_of-push h e) ∙ d)) after)
        | inr n ↦ n
      ]
        where
          none : {o : Option Claim} → o ≡ None → o ≡ Some q → ⊥
          none a k = cc

      go : (o : Option Why) → first_failing (tests (state_of h) e.session e.call) ≡ o → request_of s (outcome_of o (state_of h) e.session e.call).state.table.requests ≡ Some q → request_after s h ≡ Some q
      go (Some y) f w = w
      go None f w =
          let acts = ap (λ (o : Option Why). outcome_of o (state_of h) e.session e.call) f in
          elim (act-kept s q (state_of h) e.session e.call f (ap (λ o. o.state) acts) w) [
            | inl k ↦ k
            | inr k ↦
                let own : e.session ≡ s = k.0 in
                let waits : is_waiting (act (state_of h) e.session e.call).state e.session ≡ true = ap (λ (u : ℕ). is_waiting (act (state_of h) e.session e.call).state u) own ∙ ap is_some w in
                let clear : is_doomed (act (state_of h) e.session e.call).state e.session ≡ false = ap (λ (u : ℕ). is_doomed (act (state_of h) e.session e.call).state u) own ∙ (ap (λ o. is_doomed o.state s) (sym acts) ∙ idle) in
                let told : is_waiting_reply e.reply ≡ true = ap is_waiting_reply (reply ∙ ap (λ o. o.reply) acts) ∙ asked-reply (state_of h) e.session e.call k.1 waits clear in
                let same = (Decides-eqb e.session s).1 own in
                let begun : begins_wait s e ≡ true = λ i. same i && (k.1 i && told i) in
                absurd (true≢false begun b)
          ]

  -- an entry there is there in a longer history
  push-there : (xs : List Entry) (p : ℕ) (c : Entry) → slice_get xs p ≡ Some c → (slice_get (xs ++ e ∷ []) p ≡ Some c) × (p < length xs)
  push-there [] p c k = absurd (cc)
  push-there (x ∷ xs) zero c k = (k, omega arith)
  push-there (x ∷ xs) (suc p) c k = let r = push-there xs p c k in (r.0, omega (arith, r.1))

  push-last : (xs : List Entry) → slice_get (xs ++ e ∷ []) (length xs) ≡ Some e
  push-last [] = refl
  push-last (x ∷ xs) = push-last xs

  whole : (k : ℕ) → length h < k → k ≤ length (h ++ e ∷ []) → take k (h ++ e ∷ []) ≡ h ++ e ∷ []
  whole k l m = let all : k ≡ length (h ++ e ∷ []) = omega (arith, l, m, length-append h (e ∷ [])) in ap (λ (j : ℕ). take j (h ++ e ∷ [])) all ∙ take-whole (h ++ e ∷ [])
    where
      take-whole : (xs : List Entry) → take (length xs) xs ≡ xs
      take-whole [] = refl
      take-whole (x ∷ xs) = ap (λ (l : List Entry). x ∷ l) (take-whole xs)

  -- the law for one entry more
  one-since : ((q : Claim) → request_after s h ≡ Some q → IsWaitingSince s q h (waits_since s h)) → (q : Claim) → request_after s (h ++ e ∷ []) ≡ Some q → IsWaitingSince s q (h ++ e ∷ []) (waits_since s (h ++ e ∷ []))
  one-since so_far q after =
      let first : 0 + length h ≡ length h = omega arith in
      subst (λ (p : ℕ). IsWaitingSince s q (h ++ e ∷ []) p) (sym (since-push s 0 0 h e ∙ ap (λ (k : ℕ). cond (begins_wait s e) k (waits_since s h)) first)) (go (begins_wait s e) refl)
    where
      long : length (h ++ e ∷ []) ≡ length h + 1
      long = length-append h (e ∷ [])

      go : (b : Bool) → begins_wait s e ≡ b → IsWaitingSince s q (h ++ e ∷ []) (cond b (length h) (waits_since s h))
      go true b = record { call = e; there = push-last h; begins = b; free = ap (request_after s) (take-append_seam h (e ∷ [])) ∙ begun-free b; waits = λ k l m. ap (request_after s) (whole k l m) ∙ after }
      go false b =
          let w = so_far q (kept-before q b after) in
          let t = push-there h (waits_since s h) w.call w.there in
          record {
            call = w.call;
            there = t.0;
            begins = w.begins;
            free = ap (request_after s) (take-append-le (waits_since s h) h (e ∷ []) (omega (arith, t.1))) ∙ w.free;
            waits = λ k l m. elim (cases_lt (length h) k) [
              | inl past ↦ ap (request_after s) (whole k past m) ∙ after
              | inr inside ↦ ap (request_after s) (take-append-le k h (e ∷ []) inside) ∙ w.waits k l inside
            ];
          }

-- the law for a history

-- through the rest of a history
rest-since : (s : ℕ) (es h : List Entry) → IsLegal (h ++ es) → ((q : Claim) → request_after s h ≡ Some q → IsWaitingSince s q h (waits_since s h))
    → (q : Claim) → request_after s (h ++ es) ≡ Some q → IsWaitingSince s q (h ++ es) (waits_since s (h ++ es))
rest-since s [] h legal so_far = subst (λ (l : List Entry). (q : Claim) → request_after s l ≡ Some q → IsWaitingSince s q l (waits_since s l)) (sym (append-nil h)) so_far
rest-since s (e ∷ es) h legal so_far =
    let moved : (h ++ e ∷ []) ++ es ≡ h ++ e ∷ es = append_assoc h (e ∷ []) es in
    subst (λ (l : List Entry). (q : Claim) → request_after s l ≡ Some q → IsWaitingSince s q l (waits_since s l)) moved
    (rest-since s es (h ++ e ∷ []) (subst IsLegal (sym moved) legal) (one-since s h e (legal-steps (h ++ e ∷ es) legal h es e refl) so_far))

-- a session that waits waits since the place of its last call for a lock that was answered Waiting
waits-since : (s : ℕ) (es : List Entry) → IsLegal es → (q : Claim) → request_after s es ≡ Some q → IsWaitingSince s q es (waits_since s es)
waits-since s es legal q w = rest-since s es [] legal (λ p k. absurd (empty k)) q w
  where
    empty : {p : Claim} → request_after s [] ≡ Some p → ⊥
    empty k = cc

-- the waits that are told

member-append : {A : Type 0} (a : A) (xs ys : List A) → Member a (xs ++ ys) → Member a xs ⊎ Member a ys
member-append a [] ys m = inr m
member-append a (x ∷ xs) ys m = elim m [
  | inl e ↦ inl (inl e)
  | inr k ↦ elim (member-append a xs ys k) [ inl t ↦ inl (inr t) | inr t ↦ inr t ]
]

-- a member of one of several lists
member-flat : {A : Type 0} (f : ℕ → List A) (a : A) (ss : List ℕ) → Member a (flat_map f ss) → (s : ℕ) × Member a (f s)
member-flat f a [] m = absurd m
member-flat f a (s ∷ ss) m = elim (member-append a (f s) (flat_map f ss) m) [ inl k ↦ (s, k) | inr k ↦ member-flat f a ss k ]

module _ (n : ℕ) (history : List Entry) (legal : IsLegal history) (w : WaitLine) (place : ℕ) (since : w.since ≡ Some place) where
  -- another wait than that for the first blocker has no place
  other-none : (s first u : ℕ) → Member w (other_wait (state_of history).table s first u) → ⊥
  other-none s first u m = go (not (eqb u first) && waits_for (state_of history).table s u) m
    where
      go : (b : Bool) → Member w (cond b (record { wait = record { session = s; other = u }; first = false; since = None } ∷ []) []) → ⊥
      go true k = elim k [ inl e ↦ none (ap (λ (x : WaitLine). x.since) e) since | inr n ↦ n ]
        where
          none : {o : Option ℕ} → None ≡ o → o ≡ Some place → ⊥
          none a b = cc
      go false k = k

  -- a wait of a session with this request, or with none
  behind : (s : ℕ) (o : Option Claim) → request_after s history ≡ o → (first : Option ℕ) → first ≡ first_blocker_of (state_of history).table s o → Member w (waits_behind n (state_of history).table s (waits_since s history) first)
      → (q : Claim) × (request_after w.wait.session history ≡ Some q) × IsWaitingSince w.wait.session q history place
  behind s o wants None is m = absurd m
  behind s None wants (Some first) is m = absurd (cc)
  behind s (Some q) wants (Some first) is m = elim m [
    | inl e ↦
        let own : s ≡ w.wait.session = ap (λ (x : WaitLine). x.wait.session) e in
        let here : Some (waits_since s history) ≡ Some place = ap (λ (x : WaitLine). x.since) e ∙ since in
        let at : waits_since s history ≡ place = cc in
        subst (λ (u : ℕ). (p : Claim) × (request_after u history ≡ Some p) × IsWaitingSince u p history place) own
        (q, wants, subst (λ (k : ℕ). IsWaitingSince s q history k) at (waits-since s history legal q wants))
    | inr k ↦ let u = member-flat (other_wait (state_of history).table s first) w (range_with_len 1 n) k in absurd (other-none s first u.0 u.1)
  ]

  pub place-told : Contains (waits_told n (state_of history) history) w → (q : Claim) × (request_after w.wait.session history ≡ Some q) × IsWaitingSince w.wait.session q history place
  place-told c =
      let t = (state_of history).table in
      let m = member-flat (λ s. waits_behind n t s (waits_since s history) (first_blocker t s)) w (range_with_len 1 n) (contains-member w (waits_told n (state_of history) history) c) in
      behind m.0 (request_after m.0 history) refl (first_blocker t m.0) refl m.1
