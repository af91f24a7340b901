-- A lock that a session was granted, and gave nothing of back, is held in the state of the history.
use Rattle.std.proofs.Common.{◌≡◌, ◌≢◌, ◌⊎◌, inl, inr, ℕ, ◌+◌, Bool, true, false, cond, eqb, Option, Some, None, List, [], ◌∷◌, ◌++◌, refl, sym, ap, subst, ◌∙◌, append_assoc, append-nil}
use mathlib.Core.Logic.{dite}
use native.Mathlib.Decide.{ℕ_discrete}
use Rattle.std.specs.List.{All}
use Rattle.std.proofs.lemmas.Bool.Decides.{Decides-eqb}
use Rattle.std.proofs.lemmas.List.Elements.{All-nil, All-cons, All-head, All-tail, All-append}
use Rattle.lock_modes.specs.declared.Mode.{Mode}
use Rattle.lock_modes.specs.Order.{IsAtOrBelow, same}
use Rattle.lock_modes.proofs.Order.{order-from, order-tests, at_or_below-trans}
use Rattle.lock_rules.specs.declared.calls.Call.{Call}
use Rattle.lock_rules.specs.declared.calls.Call.TheVariants.{Lock, Convert, Try, Abort, Withdraw, Restart}
use Rattle.lock_rules.specs.declared.calls.Reply.{Reply}
use Rattle.lock_rules.specs.declared.calls.Reply.TheVariants.{Granted, Waiting, Refused, Withdrawn}
use Rattle.lock_rules.specs.declared.calls.Why.{Why}
use Rattle.lock_rules.specs.Entries.{Entry, Answered}
use Rattle.lock_rules.specs.State.{Claim, State, held_mode, request_of, is_waiting, is_doomed, with_table}
use Rattle.lock_rules.specs.Queue.{with_request}
use Rattle.lock_rules.specs.Step.{Outcome, tests, first_failing, outcome_of, step}
use Rattle.lock_rules.specs.Legal.{IsLegal, state_of}
use Rattle.sequential.specs.Histories.{calls_from, calls_of}
use Rattle.lock_rules.specs.Laws.{DoesRefusalKeep, DoesKeepLock, HoldsAtLeast, HasTransaction, HasDoomedTransaction, DoesKeepDoom}
use Rattle.lock_rules.specs.Effects.{request, IsTarget, IsAnswerTo, IsReplyAfterWait, DoVictimsKeepTheirLocks}
use Rattle.lock_rules.proofs.Histories.{legal-steps, legal-front, state_of-push}
use Rattle.lock_rules.proofs.Grants.{grant-stands}
use Rattle.lock_rules.proofs.DoomsStand.{doom-stands}
use Rattle.lock_rules.proofs.RequestsStand.{request-stands}
use Rattle.lock_rules.proofs.Doomed.{among-or-not}
use Rattle.lock_rules.proofs.Sessions.{open-decides}
use Rattle.lock_rules.proofs.Steps.{all-pass}
use Rattle.lock_rules.proofs.Taken.{passes}
use Rattle.lock_rules.proofs.Lawful.{lawful}
use Rattle.publication.specs.Views.{entry, answer}
use Rattle.lock_office.specs.by_calls.HoldsAsTold.{AsksFor, KeepsLock, KeptLock, TellsOfGrant, TookNothingBack, WasGranted, WasGrantedLater}
use Rattle.lock_office.proofs.by_calls.Telling.{goes-on}

-- The entry of an answered call.

-- A history split at the entry of an answered call, with the session's answers before and after it.
pub record IsSplit (s k : ℕ) (h : List Entry) (before : List Answered) (a : Answered) (after : List Answered) : Type 0 where
  pub front : List Entry
  pub rest : List Entry
  pub at : ℕ
  pub whole : h ≡ front ++ entry s a.call a.reply ∷ rest
  pub before_is : calls_from s k front ≡ before
  pub after_is : calls_from s at rest ≡ after

abbrev answered : ℕ → Entry → Answered
answered k x = answer k x.call x.reply

same-entry : (s k : ℕ) (x : Entry) (a : Answered) → x.session ≡ s → answered k x ≡ a → x ≡ entry s a.call a.reply
same-entry s k x a p q = λ i. record { session = p i; call = (q i).call; reply = (q i).reply }

pub split : (s k : ℕ) (h : List Entry) (before : List Answered) (a : Answered) (after : List Answered) → calls_from s k h ≡ before ++ a ∷ after → IsSplit s k h before a after
split s k [] [] a after e = absurd (cc e)
split s k [] (b ∷ bs) a after e = absurd (cc e)
split s k (x ∷ xs) before a after e = go (λ bs is. split s (k + 1) xs bs a after is) (eqb x.session s) refl before e
  where
    go : ((bs : List Answered) → calls_from s (k + 1) xs ≡ bs ++ a ∷ after → IsSplit s (k + 1) xs bs a after) → (b : Bool) → eqb x.session s ≡ b
        → (bs : List Answered) → cond b (answered k x ∷ calls_from s (k + 1) xs) (calls_from s (k + 1) xs) ≡ bs ++ a ∷ after → IsSplit s k (x ∷ xs) bs a after
    go deeper true mine [] is = record {
      front = [];
      rest = xs;
      at = k + 1;
      whole = ap (λ (y : Entry). y ∷ xs) (same-entry s k x a ((Decides-eqb x.session s).0 mine) (cc is));
      before_is = refl;
      after_is = cc is;
    }
    go deeper true mine (b ∷ bs) is = let t = deeper bs (cc is) in record {
      front = x ∷ t.front;
      rest = t.rest;
      at = t.at;
      whole = ap (λ (l : List Entry). x ∷ l) t.whole;
      before_is = ap (λ (c : Bool). cond c (answered k x ∷ calls_from s (k + 1) t.front) (calls_from s (k + 1) t.front)) mine ∙ (let f = t.before_is in cc (is, f));
      after_is = t.after_is;
    }
    go deeper false mine bs is = let t = deeper bs is in record {
      front = x ∷ t.front;
      rest = t.rest;
      at = t.at;
      whole = ap (λ (l : List Entry). x ∷ l) t.whole;
      before_is = ap (λ (c : Bool). cond c (answered k x ∷ calls_from s (k + 1) t.front) (calls_from s (k + 1) t.front)) mine ∙ t.before_is;
      after_is = t.after_is;
    }

-- Entries that keep a lock.

-- The call gives nothing of the resource back, or it was refused.
abbrev KeepsIt : List ℕ → Call → Reply → Type 0
KeepsIt r c a = KeepsLock r c ⊎ ((why : Why) × (a ≡ Refused why))

-- None of the session's calls in these entries gave the resource back.
abbrev pub EachKept : ℕ → List ℕ → List Entry → Type 0
EachKept s r [] = Unit {0}
EachKept s r (x ∷ xs) = (x.session ≡ s → KeepsIt r x.call x.reply) × EachKept s r xs

pub each-kept : (s k : ℕ) (r : List ℕ) (h : List Entry) → All (KeptLock r) (calls_from s k h) → EachKept s r h
each-kept s k r [] all = tt
each-kept s k r (x ∷ xs) all = go (each-kept s (k + 1) r xs) (eqb x.session s) refl all
  where
    go : (All (KeptLock r) (calls_from s (k + 1) xs) → EachKept s r xs) → (b : Bool) → eqb x.session s ≡ b → All (KeptLock r) (cond b (answered k x ∷ calls_from s (k + 1) xs) (calls_from s (k + 1) xs)) → EachKept s r (x ∷ xs)
    go deeper true mine every = ((λ _. All-head (KeptLock r) (answered k x) (calls_from s (k + 1) xs) every), deeper (All-tail (KeptLock r) (answered k x) (calls_from s (k + 1) xs) every))
    go deeper false mine every = ((λ e. absurd (let t = (Decides-eqb x.session s).1 e in cc (t, mine))), deeper every)

-- None of the session's calls in these entries took a waiting request back.
abbrev EachStood : ℕ → List Entry → Type 0
EachStood s [] = Unit {0}
EachStood s (x ∷ xs) = (x.session ≡ s → x.reply ≢ Withdrawn) × EachStood s xs

each-stood : (s k : ℕ) (h : List Entry) → All TookNothingBack (calls_from s k h) → EachStood s h
each-stood s k [] all = tt
each-stood s k (x ∷ xs) all = go (each-stood s (k + 1) xs) (eqb x.session s) refl all
  where
    go : (All TookNothingBack (calls_from s (k + 1) xs) → EachStood s xs) → (b : Bool) → eqb x.session s ≡ b → All TookNothingBack (cond b (answered k x ∷ calls_from s (k + 1) xs) (calls_from s (k + 1) xs)) → EachStood s (x ∷ xs)
    go deeper true mine every = ((λ _. All-head TookNothingBack (answered k x) (calls_from s (k + 1) xs) every), deeper (All-tail TookNothingBack (answered k x) (calls_from s (k + 1) xs) every))
    go deeper false mine every = ((λ e. absurd (let t = (Decides-eqb x.session s).1 e in cc (t, mine))), deeper every)

-- A withdrawal is answered Withdrawn, or refused.
withdrawal-told : (st : State) (s : ℕ) (o : Option Why) → ((outcome_of o st s Withdraw).reply ≡ Withdrawn) ⊎ ((why : Why) × ((outcome_of o st s Withdraw).reply ≡ Refused why))
withdrawal-told st s None = inl refl
withdrawal-told st s (Some why) = inr (why, refl)

-- A lock stays held.

module _ (refuses : (st : State) → DoesRefusalKeep st) (s : ℕ) (r : List ℕ) where
  abbrev pub Holds : Mode → List Entry → Type 0
  Holds m h = HoldsAtLeast (state_of h).table s r m

  -- A refused call leaves the state unchanged.
  refused : (front : List Entry) (x : Entry) (why : Why) → x.reply ≡ (step (state_of front) x.session x.call).reply → x.reply ≡ Refused why → state_of front ≡ state_of (front ++ x ∷ [])
  refused front x why told is = sym (state_of-push front x ∙ refuses (state_of front) x.session x.call why (sym told ∙ is))

  held-one : (m : Mode) (front : List Entry) (x : Entry) → x.reply ≡ (step (state_of front) x.session x.call).reply → (x.session ≡ s → KeepsIt r x.call x.reply) → Holds m front → Holds m (front ++ x ∷ [])
  held-one m front x told kept h = dite (ℕ_discrete x.session s)
      (λ mine. elim (kept mine) [
        | inl k ↦ stands (λ _. k)
        | inr w ↦ subst (λ (st : State). HoldsAtLeast st.table s r m) (refused front x w.0 told w.1) h
      ])
      (λ other. stands (λ mine. absurd (other mine)))
    where
      stands : (x.session ≡ s → KeepsLock r x.call) → Holds m (front ++ x ∷ [])
      stands keeps =
          let n = grant-stands front (x ∷ []) s r h.0 h.1 (All-cons (DoesKeepLock s r) x [] keeps (All-nil (DoesKeepLock s r))) in
          (n.0, n.1, order-from m n.0 (at_or_below-trans m h.0 n.0 (order-tests h.2) (order-tests n.2)))

  pub held-on : (m : Mode) (rest front : List Entry) → IsLegal (front ++ rest) → EachKept s r rest → Holds m front → Holds m (front ++ rest)
  held-on m [] front legal kept h = subst (Holds m) (sym (append-nil front)) h
  held-on m (x ∷ xs) front legal kept h =
      let one : (front ++ x ∷ []) ++ xs ≡ front ++ x ∷ xs = append_assoc front (x ∷ []) xs in
      subst (Holds m) one (held-on m xs (front ++ x ∷ []) (subst IsLegal (sym one) legal) kept.1
      (held-one m front x (legal-steps (front ++ x ∷ xs) legal front xs x refl) kept.0 h))

  -- A granted lock is held.

  granted-held : (m k : Mode) (front : List Entry) (c : Call) → AsksFor c r k → (step (state_of front) s c).reply ≡ Granted m → held_mode (step (state_of front) s c).state.table s r ≡ Some m
  granted-held m k front c (inl is) told = subst (λ (y : Call). held_mode (step (state_of front) s y).state.table s r ≡ Some m) (sym is)
      ((lawful front).granted_is_held s r k m (ap (λ (y : Call). (step (state_of front) s y).reply) (sym is) ∙ told))
  granted-held m k front c (inr (inl is)) told = subst (λ (y : Call). held_mode (step (state_of front) s y).state.table s r ≡ Some m) (sym is)
      ((lawful front).converted_is_held s r k m (ap (λ (y : Call). (step (state_of front) s y).reply) (sym is) ∙ told))
  granted-held m k front c (inr (inr is)) told = subst (λ (y : Call). held_mode (step (state_of front) s y).state.table s r ≡ Some m) (sym is) here
    where
      here : held_mode (step (state_of front) s (Try r k)).state.table s r ≡ Some m
      here =
          let reply : (step (state_of front) s (Try r k)).reply ≡ Granted m = ap (λ (y : Call). (step (state_of front) s y).reply) (sym is) ∙ told in
          let locks = ((lawful front).tries_answered s r k (λ why e. cc (reply, e))).0 in
          ap (λ (o : Outcome). held_mode o.state.table s r) locks ∙ (lawful front).granted_is_held s r k m (ap (λ (o : Outcome). o.reply) (sym locks) ∙ reply)

  pub told-grant : (h : List Entry) → IsLegal h → (answers more : List Answered) → calls_of s h ≡ answers ++ more → All (KeptLock r) more → (m : Mode) → WasGranted answers r m → Holds m h
  told-grant h legal answers more calls all m g =
      let whole : calls_of s h ≡ g.before ++ g.grant ∷ (g.after ++ more)
      = calls ∙ (ap (λ (l : List Answered). l ++ more) g.answers_are ∙ append_assoc g.before (g.grant ∷ g.after) more) in
      let t = split s 0 h g.before g.grant (g.after ++ more) whole in
      let x : Entry = entry s g.grant.call g.grant.reply in
      let reply : x.reply ≡ (step (state_of t.front) s g.grant.call).reply = legal-steps h legal t.front t.rest x t.whole in
      let here : held_mode (state_of (t.front ++ x ∷ [])).table s r ≡ Some m
      = ap (λ (st : State). held_mode st.table s r) (state_of-push t.front x) ∙ granted-held m g.asked.0 t.front g.grant.call g.asked.1 (sym reply ∙ g.granted) in
      let one : (t.front ++ x ∷ []) ++ t.rest ≡ h = append_assoc t.front (x ∷ []) t.rest ∙ sym t.whole in
      let kept : All (KeptLock r) (calls_from s t.at t.rest) = subst (All (KeptLock r)) (sym t.after_is) (All-append (KeptLock r) g.after more g.kept all) in
      subst (Holds m) one (held-on m t.rest (t.front ++ x ∷ []) (subst IsLegal (sym one) legal) (each-kept s t.at r t.rest kept) (m, here, same))

  -- A request that waits, up to the answer that tells of the grant.

  at_least : (m k : Mode) (o : Option Mode) → IsTarget o m k → IsAtOrBelow m k
  at_least m k None is = subst (IsAtOrBelow m) (sym is) same
  at_least m k (Some held) is = is.right

  -- After a request that is answered Waiting, the request is in the queue.
  request-there : (st : State) (k : Mode) (o : Outcome) → is_waiting st s ≡ false → DoVictimsKeepTheirLocks st → IsAnswerTo s r k st o → o.reply ≡ Waiting → request_of s o.state.table.requests ≡ Some (request s r k)
  request-there st k o free keeps told waits =
      let busy : held_mode st.table s r ≢ Some k = λ e. let g = (told.held_already e).0 in cc (g, waits) in
      let w = told.later busy (λ f. let g = (told.at_once busy f).0 in cc (g, waits)) in
      let asking : State = with_table (with_request s r k st.table) st in
      let kept = keeps s r k w.victims o.state free w.one_after_another in
      go (request_of s o.state.table.requests) refl (is_doomed o.state s) refl w.told (elim (among-or-not s w.victims) [
        | inl i ↦ inl (kept.victims s i).waits_no_more
        | inr n ↦ elim (kept.others s n) [
          | inl a ↦ inr (a.request ∙ w.wait.waiting)
          | inr p ↦ inl p.1.waits_no_more
        ]
      ])
    where
      go : (q : Option Claim) → request_of s o.state.table.requests ≡ q → (d : Bool) → is_doomed o.state s ≡ d → IsReplyAfterWait s k o
          → (request_of s o.state.table.requests ≡ None) ⊎ (request_of s o.state.table.requests ≡ Some (request s r k)) → request_of s o.state.table.requests ≡ Some (request s r k)
      go q is d doomed t (inr e) = e
      go q is true doomed t (inl e) = absurd (let f = t.deadlock doomed in cc (f, waits))
      go q is false doomed t (inl e) = absurd (let f = t.granted doomed e in cc (f, waits))

  -- A reply Waiting is no refusal.
  waits-not-refused : (st : State) (c : Call) → (step st s c).reply ≡ Waiting → (why : Why) → (step st s c).reply ≢ Refused why
  waits-not-refused st c waits why e = cc (waits, e)

  -- The session waits for the resource, in mode m or one above it.
  pub record Waits (m : Mode) (st : State) : Type 0 where
    pub mode : Mode
    pub least : IsAtOrBelow m mode
    pub request_is : request_of s st.table.requests ≡ Some (request s r mode)

  asked-waits : (m : Mode) (front : List Entry) (c : Call) → AsksFor c r m → (step (state_of front) s c).reply ≡ Waiting → Waits m (step (state_of front) s c).state
  asked-waits m front c (inl is) told = subst (λ (y : Call). Waits m (step (state_of front) s y).state) (sym is) (here (ap (λ (y : Call). (step (state_of front) s y).reply) (sym is) ∙ told))
    where
      here : (step (state_of front) s (Lock r m)).reply ≡ Waiting → Waits m (step (state_of front) s (Lock r m)).state
      here waits =
          let l = lawful front in
          let open_question = waits-not-refused (state_of front) (Lock r m) waits in
          let a = l.locks_answered s r m open_question in
          let p = all-pass (tests (state_of front) s (Lock r m)) (passes (state_of front) s (Lock r m) open_question) in
          record { mode = a.0; least = at_least m a.0 (held_mode (state_of front).table s r) a.1; request_is = request-there (state_of front) a.0 (step (state_of front) s (Lock r m)) p.1.0 l.victims_keep_their_locks a.2 waits }
  asked-waits m front c (inr (inr is)) told = absurd (let f = t.1.2 in cc (reply, f))
    where
      reply : (step (state_of front) s (Try r m)).reply ≡ Waiting
      reply = ap (λ (y : Call). (step (state_of front) s y).reply) (sym is) ∙ told

      t : (step (state_of front) s (Try r m) ≡ step (state_of front) s (Lock r m)) × ((k : Mode) × IsTarget (held_mode (state_of front).table s r) m k × ((step (state_of front) s (Try r m)).reply ≡ Granted k))
      t = (lawful front).tries_answered s r m (waits-not-refused (state_of front) (Try r m) reply)
  asked-waits m front c (inr (inl is)) told = subst (λ (y : Call). Waits m (step (state_of front) s y).state) (sym is) (here (ap (λ (y : Call). (step (state_of front) s y).reply) (sym is) ∙ told))
    where
      here : (step (state_of front) s (Convert r m)).reply ≡ Waiting → Waits m (step (state_of front) s (Convert r m)).state
      here waits =
          let l = lawful front in
          let open_question = waits-not-refused (state_of front) (Convert r m) waits in
          let a = l.conversions_answered s r m open_question in
          let p = all-pass (tests (state_of front) s (Convert r m)) (passes (state_of front) s (Convert r m) open_question) in
          record { mode = a.0; least = at_least m a.0 (held_mode (state_of front).table s r) a.1; request_is = request-there (state_of front) a.0 (step (state_of front) s (Convert r m)) p.1.0 l.victims_keep_their_locks a.2 waits }

  -- A deadlock victim stays doomed until it aborts or restarts.
  doomed-on : (rest front : List Entry) → IsLegal (front ++ rest) → EachKept s r rest → HasDoomedTransaction (state_of front) s → HasDoomedTransaction (state_of (front ++ rest)) s
  doomed-on [] front legal kept d = subst (λ (h : List Entry). HasDoomedTransaction (state_of h) s) (sym (append-nil front)) d
  doomed-on (x ∷ xs) front legal kept d =
      let one : (front ++ x ∷ []) ++ xs ≡ front ++ x ∷ xs = append_assoc front (x ∷ []) xs in
      subst (λ (h : List Entry). HasDoomedTransaction (state_of h) s) one
      (doomed-on xs (front ++ x ∷ []) (subst IsLegal (sym one) legal) kept.1 (next (legal-steps (front ++ x ∷ xs) legal front xs x refl)))
    where
      goes : (x.session ≡ s → (x.call ≢ Abort) × (x.call ≢ Restart)) → HasDoomedTransaction (state_of (front ++ x ∷ [])) s
      goes n = (d.0, doom-stands front (x ∷ []) s d.0 d.1 d.2 (All-cons (DoesKeepDoom s) x [] n (All-nil (DoesKeepDoom s))), d.2)

      next : x.reply ≡ (step (state_of front) x.session x.call).reply → HasDoomedTransaction (state_of (front ++ x ∷ [])) s
      next told = dite (ℕ_discrete x.session s)
          (λ mine. elim (kept.0 mine) [
            | inl k ↦ goes (λ _. (k.1, k.2))
            | inr w ↦ subst (λ (st : State). HasDoomedTransaction st s) (refused front x w.0 told w.1) d
          ])
          (λ other. goes (λ mine. absurd (other mine)))

  -- If an answer tells of a grant, the session has no request waiting and isn't doomed.
  is-granted : (front : List Entry) (rest : List Entry) (p : Entry) → IsLegal (front ++ p ∷ rest) → p.session ≡ s → TellsOfGrant p.call p.reply
      → ((q : Claim) → request_of s (state_of front).table.requests ≡ Some q → ⊥) × (HasDoomedTransaction (state_of front) s → ⊥)
  is-granted front rest p legal whose tells =
      let told : p.reply ≡ (step (state_of front) p.session p.call).reply = legal-steps (front ++ p ∷ rest) legal front rest p refl in
      let mine : (step (state_of front) p.session p.call).reply ≡ (step (state_of front) s p.call).reply = ap (λ (n : ℕ). (step (state_of front) n p.call).reply) whose in
      let free = goes-on (state_of front) s p.call (subst (TellsOfGrant p.call) (told ∙ mine) tells) in
      ((λ q f. free.not_waiting (q, f)), free.not_doomed)

  -- A session that waits, and whose calls keep the lock, makes no call that gives the lock back and is refused only without a
  -- transaction.
  no-end : (c : Call) (front : List Entry) (q : Claim) (x : Entry) → (KeepsLock r c → ⊥) → ((why : Why) → (step (state_of front) s c).reply ≡ Refused why → HasTransaction (state_of front) s → ⊥)
      → x.reply ≡ (step (state_of front) x.session x.call).reply → request_of s (state_of front).table.requests ≡ Some q → KeepsIt r x.call x.reply → x.session ≡ s → x.call ≡ c → ⊥
  no-end c front q x gives needs told w (inl k) mine is = gives (subst (KeepsLock r) is k)
  no-end c front q x gives needs told w (inr why) mine is =
      let here : (step (state_of front) s c).reply ≡ Refused why.0
      = ap (λ (n : ℕ). (step (state_of front) n c).reply) (sym mine) ∙ (ap (λ (y : Call). (step (state_of front) x.session y).reply) (sym is) ∙ (sym told ∙ why.1)) in
      needs why.0 here ((open-decides (state_of front) s).0 ((lawful front).owners_open s (inr (q, w))))

  -- If the session waits after the front, its request is granted by the time an answer tells of it.
  resolved : (m : Mode) (es front rest : List Entry) (p : Entry) → IsLegal (front ++ (es ++ p ∷ rest)) → EachKept s r es → EachStood s es → p.session ≡ s → TellsOfGrant p.call p.reply
      → Waits m (state_of front) → Holds m (front ++ es)
  resolved m [] front rest p legal kept stood whose ended w = absurd ((is-granted front rest p legal whose ended).0 (request s r w.mode) w.request_is)
  resolved m (x ∷ xs) front rest p legal kept stood whose ended w =
      let told : x.reply ≡ (step (state_of front) x.session x.call).reply = legal-steps (front ++ x ∷ (xs ++ p ∷ rest)) legal front (xs ++ p ∷ rest) x refl in
      let one : (front ++ x ∷ []) ++ xs ≡ front ++ x ∷ xs = append_assoc front (x ∷ []) xs in
      let all : (front ++ x ∷ []) ++ (xs ++ p ∷ rest) ≡ front ++ x ∷ (xs ++ p ∷ rest) = append_assoc front (x ∷ []) (xs ++ p ∷ rest) in
      let legal-all : IsLegal ((front ++ x ∷ []) ++ (xs ++ p ∷ rest)) = subst IsLegal (sym all) legal in
      let deep : (((front ++ x ∷ []) ++ xs) ++ p ∷ rest) ≡ (front ++ x ∷ []) ++ (xs ++ p ∷ rest) = append_assoc (front ++ x ∷ []) xs (p ∷ rest) in
      let legal-deep : IsLegal (((front ++ x ∷ []) ++ xs) ++ p ∷ rest) = subst IsLegal (sym deep) legal-all in
      let legal-es : IsLegal ((front ++ x ∷ []) ++ xs) = legal-front ((front ++ x ∷ []) ++ xs) (p ∷ rest) legal-deep in
      let after : (step (state_of front) x.session x.call).state ≡ state_of (front ++ x ∷ []) = sym (state_of-push front x) in
      subst (Holds m) one (elim (request-stands front (x ∷ []) s (request s r w.mode) w.request_is).1 [
        | inl own ↦ elim own.1 [
          | inl aborts ↦ absurd (no-end Abort front (request s r w.mode) x (λ k. k.1 refl) (λ why e. (((lawful front).abort_needs_transaction s why).0 e).1) told w.request_is (kept.0 own.0) own.0 aborts)
          | inr other ↦ elim other [
            | inl takes ↦ elim (withdrawal-told (state_of front) x.session (first_failing (tests (state_of front) x.session Withdraw))) [
              | inl back ↦ absurd (stood.0 own.0 (told ∙ (ap (λ (c : Call). (step (state_of front) x.session c).reply) takes ∙ back)))
              | inr why ↦ resolved m xs (front ++ x ∷ []) rest p legal-all kept.1 stood.1 whose ended
                  (subst (Waits m) (refused front x why.0 told (told ∙ (ap (λ (c : Call). (step (state_of front) x.session c).reply) takes ∙ why.1))) w)
            ]
            | inr restarts ↦ absurd (no-end Restart front (request s r w.mode) x (λ k. k.2 refl) (λ why e. (((lawful front).restart_needs_transaction s why).0 e).1) told w.request_is (kept.0 own.0) own.0 restarts)
          ]
        ]
        | inr k ↦ elim k [
          | inl over ↦ elim over.1 [
            | inl held ↦ held-on m xs (front ++ x ∷ []) legal-es kept.1 (w.mode, ap (λ (st : State). held_mode st.table s r) (sym after) ∙ held, w.least)
            | inr doomed ↦ absurd ((is-granted ((front ++ x ∷ []) ++ xs) rest p legal-deep whose ended).1
                (doomed-on xs (front ++ x ∷ []) legal-es kept.1 (subst (λ (st : State). HasDoomedTransaction st s) after doomed)))
          ]
          | inr on ↦ resolved m xs (front ++ x ∷ []) rest p legal-all kept.1 stood.1 whose ended
              record { mode = w.mode; least = w.least; request_is = ap (λ (st : State). request_of s st.table.requests) (sym after) ∙ on }
        ]
      ])

  pub told-later : (h : List Entry) → IsLegal h → (answers more : List Answered) → calls_of s h ≡ answers ++ more → All (KeptLock r) more → (m : Mode) → WasGrantedLater answers r m → Holds m h
  told-later h legal answers more calls all m g =
      let whole : calls_of s h ≡ g.before ++ g.wait ∷ ((g.between ++ g.ending ∷ g.after) ++ more)
      = calls ∙ (ap (λ (l : List Answered). l ++ more) g.answers_are ∙ append_assoc g.before (g.wait ∷ (g.between ++ g.ending ∷ g.after)) more) in
      let t = split s 0 h g.before g.wait ((g.between ++ g.ending ∷ g.after) ++ more) whole in
      let x : Entry = entry s g.wait.call g.wait.reply in
      let u = split s t.at t.rest g.between g.ending (g.after ++ more) (t.after_is ∙ append_assoc g.between (g.ending ∷ g.after) more) in
      let p : Entry = entry s g.ending.call g.ending.reply in
      let start : List Entry = t.front ++ x ∷ [] in
      let seam : start ++ (u.front ++ p ∷ u.rest) ≡ h
      = append_assoc t.front (x ∷ []) (u.front ++ p ∷ u.rest) ∙ (ap (λ (l : List Entry). t.front ++ x ∷ l) (sym u.whole) ∙ sym t.whole) in
      let reply : x.reply ≡ (step (state_of t.front) s g.wait.call).reply = legal-steps h legal t.front t.rest x t.whole in
      let waits : Waits m (state_of start) = subst (Waits m) (sym (state_of-push t.front x)) (asked-waits m t.front g.wait.call g.asked (sym reply ∙ g.waited)) in
      let kept : EachKept s r u.front = each-kept s t.at r u.front (subst (All (KeptLock r)) (sym u.before_is) g.kept_waiting) in
      let stood : EachStood s u.front = each-stood s t.at u.front (subst (All TookNothingBack) (sym u.before_is) g.not_withdrawn) in
      let here : Holds m (start ++ u.front) = resolved m u.front start u.rest p (subst IsLegal (sym seam) legal) kept stood refl g.ended waits in
      let one : (start ++ u.front) ++ p ∷ u.rest ≡ h = append_assoc start u.front (p ∷ u.rest) ∙ seam in
      let later : EachKept s r u.rest = each-kept s u.at r u.rest (subst (All (KeptLock r)) (sym u.after_is) (All-append (KeptLock r) g.after more g.kept all)) in
      subst (Holds m) one (held-on m (p ∷ u.rest) (start ++ u.front) (subst IsLegal (sym one) legal) ((λ _. g.kept_telling), later) here)
