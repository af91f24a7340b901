-- A call that ended no wait of another session granted no request of another, and made no victim but at most its own session.
use Rattle.std.proofs.Common.{◌≡◌, ◌≢◌, ◌↔◌, rules, ℕ, zero, suc, ◌+◌, ◌<◌, ◌≤◌, Bool, true, false, cond, not, eqb, ◌&&◌, inl, inr, List, [], ◌∷◌, ◌++◌, Contains, Option, Some, None, is_some, sym, refl, ◌∙◌, ap, subst, arith}
use Rattle.std.specs.List.{flat_map, range_with_len}
use Rattle.std.specs.List.Sorted.{IsStrictlySortedBy}
use Rattle.std.proofs.lemmas.Bool.{cases_Bool, and_parts}
use Rattle.std.proofs.lemmas.Bool.Decides.{Decides-eqb}
use Rattle.std.proofs.lemmas.List.Concat.{flat_map-cons}
use Rattle.sequential.proofs.Members.{member-contains}
use Rattle.sequential.proofs.Ranges.{member-range}
use Rattle.lock_rules.specs.declared.calls.Call.{Call}
use Rattle.lock_rules.specs.declared.calls.Reply.{Reply}
use Rattle.lock_rules.specs.declared.calls.Transaction.{Transaction}
use Rattle.lock_rules.specs.declared.calls.Reply.TheVariants.{Deadlock, Waiting, Clear}
use Rattle.lock_rules.specs.Entries.{Entry}
use Rattle.lock_rules.specs.State.{Claim, State, doomed_in, is_doomed, request_of}
use Rattle.lock_rules.specs.Step.{step}
use Rattle.lock_rules.specs.Ended.{has_ended}
use Rattle.lock_rules.specs.Legal.{state_of}
use Rattle.lock_rules.specs.Listing.{waiting_line}
use Rattle.lock_rules.proofs.Alters.{true≢false}
use Rattle.lock_rules.proofs.Ended.{ended-decides, others-told-after}
use Rattle.lock_rules.proofs.Sessions.{told_of, poll-told}
use Rattle.lock_explain.specs.Endings.{AreNewVictims, granted_request, granted_requests, is_new_victim, line_in_list}
use Rattle.lock_explain.specs.Explanations.{is_eventful}
use Rattle.lock_explain.specs.inner.Served.{AreEnded, IsServed}

-- the empty list has no member
no-member : {A : Type 0} (x : A) → Contains [] x → ⊥
no-member x h = let n = h.1 in absurd (omega (arith, n))

-- nothing is listed of sessions of each of which nothing is listed
nothing-listed : {A : Type 0} (f : ℕ → List A) (a n : ℕ) → ((u : ℕ) → a ≤ u → u < a + n → f u ≡ []) → flat_map f (range_with_len a n) ≡ []
nothing-listed f a zero h = refl
nothing-listed f a (suc n) h =
    flat_map-cons f a (range_with_len (a + 1) n)
    ∙ (ap (λ (l : List _). l ++ flat_map f (range_with_len (a + 1) n)) (h a (omega arith) (omega arith))
    ∙ nothing-listed f (a + 1) n (λ u from below. h u (omega (arith, from)) (omega (arith, below))))

-- who is told what a doomed transaction is told, by a poll, is doomed
told-dooms : (o p : Option Transaction) (r q : Option Claim) → told_of o r ≡ told_of p q → doomed_in o ≡ true → doomed_in p ≡ true
told-dooms None p r q same d = absurd (cc)
told-dooms (Some x) None r q same d = let told = ap (λ (b : Bool). cond b Deadlock (cond (is_some r) Waiting Clear)) d in absurd (cc)
told-dooms (Some x) (Some y) r q same d = go y.doomed (is_some q) (sym (ap (λ (b : Bool). cond b Deadlock (cond (is_some r) Waiting Clear)) d) ∙ same)
  where
    go : (b w : Bool) → Deadlock ≡ cond b Deadlock (cond w Waiting Clear) → b ≡ true
    go true w h = refl
    go false true h = absurd (cc)
    go false false h = absurd (cc)

module _ (n : ℕ) (history : List Entry) (e : Entry) (after : State) (ended : List ℕ) (served : IsServed n history e after) (is : AreEnded n history e ended) (none : (u : ℕ) → Contains ended u → ⊥) where
  -- the state behind the call
  abbrev behind : State
  behind = (step (state_of history) e.session e.call).state

  -- the wait of no session has ended
  nobody-ended : (u : ℕ) → 1 ≤ u → u < 1 + n → has_ended e.session (state_of history) behind u ≡ false
  nobody-ended u from below = elim (cases_Bool (has_ended e.session (state_of history) behind u)) [
    | inl h ↦ absurd (none u (subst (λ (us : List ℕ). Contains us u) (sym is) (member-contains u _ ((member-range (has_ended e.session (state_of history) behind) n 1 u).1 (from, below, h)))))
    | inr h ↦ h
  ]

  -- no request of another session is granted
  pub none-granted : granted_requests n e.session (state_of history) after ≡ []
  none-granted = rw served.state (nothing-listed (granted_request e.session (state_of history) behind) 1 n (λ u from below.
      ap (λ (b : Bool). cond (b && not (is_doomed behind u)) (line_in_list (waiting_line (state_of history) u)) []) (nobody-ended u from below)))

  -- no other session is a new victim
  no-other : (u : ℕ) → 1 ≤ u → u ≤ n → u ≢ e.session → is_new_victim (state_of history) behind u ≡ true → ⊥
  no-other u some within apart new =
      let parts = and_parts (not (is_doomed (state_of history) u)) (is_doomed behind u) new in
      let told = others-told-after history e.session u e.call apart (λ h. true≢false ((ended-decides e.session (state_of history) behind u).1 h) (nobody-ended u some (omega (arith, within)))) in
      let same = sym (poll-told behind u) ∙ (told ∙ poll-told (state_of history) u) in
      let doomed : is_doomed (state_of history) u ≡ true = told-dooms (behind.begun u) ((state_of history).begun u) (request_of u behind.table.requests) (request_of u (state_of history).table.requests) same parts.1 in
      true≢false parts.0 (ap not doomed)

  -- the list of no victims, if the caller is none
  pub none-doomed : is_new_victim (state_of history) after e.session ≡ false → AreNewVictims n (state_of history) after []
  unfolding IsStrictlySortedBy
  none-doomed own = record {
    listed = λ p. (
      λ c. absurd (no-member p c),
      λ h. absurd (elim (cases_Bool (eqb p.session e.session)) [
        | inl y ↦ true≢false (sym (ap (is_new_victim (state_of history) after) ((Decides-eqb p.session e.session).0 y)) ∙ h.2) own
        | inr k ↦ no-other p.session h.0 h.1 (λ same. true≢false ((Decides-eqb p.session e.session).1 same) k) (subst (λ (st : State). is_new_victim (state_of history) st p.session ≡ true) served.state h.2)
      ]),
    );
    falling = tt;
  }

-- whether a call is eventful depends on whether it ended waits, and not on their order

-- a call that ended the wait of some session is eventful
ended-tells : (call : Call) (reply : Reply) (u : ℕ) (us : List ℕ) → is_eventful call reply (u ∷ us) ≡ true
ended-tells call reply u us = search rules

-- the list has its first member
first-there : (u : ℕ) (us : List ℕ) → Contains (u ∷ us) u
first-there u us = (0, omega arith, refl)

-- two lists with the same members
pub eventful-alike : (call : Call) (reply : Reply) (us vs : List ℕ) → ((u : ℕ) → Contains us u ↔ Contains vs u) → is_eventful call reply us ≡ is_eventful call reply vs
eventful-alike call reply [] [] same = refl
eventful-alike call reply [] (v ∷ vs) same = absurd (no-member v ((same v).1 (first-there v vs)))
eventful-alike call reply (u ∷ us) [] same = absurd (no-member u ((same u).0 (first-there u us)))
eventful-alike call reply (u ∷ us) (v ∷ vs) same = ended-tells call reply u us ∙ sym (ended-tells call reply v vs)
