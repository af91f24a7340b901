-- The waiting requests after a history are of sessions that called.
use Rattle.std.proofs.Common.{◌≡◌, ℕ, suc, ◌+◌, ◌≤◌, Bool, true, false, cond, ◌⊎◌, inl, inr, List, [], ◌∷◌, ◌++◌, length, Option, Some, None, filter, sym, ap, subst, arith, append-nil}
use Rattle.std.specs.List.{All}
use Rattle.lock_modes.specs.declared.Mode.{Mode}
use Rattle.sequential.specs.Histories.{IsEntryWithin}
use Rattle.sequential.proofs.Members.{Member}
use Rattle.lock_rules.specs.declared.calls.Call.{Call}
use Rattle.lock_rules.specs.declared.calls.Call.TheVariants.{Begin, Lock, Convert, Poll, Release, Commit, Abort, Try, Withdraw, Restart}
use Rattle.lock_rules.specs.declared.calls.Why.{Why}
use Rattle.lock_rules.specs.Entries.{Entry}
use Rattle.lock_rules.specs.State.{Claim, State, empty, held_mode, with_table}
use Rattle.lock_rules.specs.Queue.{queue, after_grant, with_request, is_granted_at_once}
use Rattle.lock_rules.specs.Step.{target_of, tests, first_failing, is_held, after_wait, after_asking, act, outcome_of, step}
use Rattle.lock_rules.specs.Legal.{state_after, state_of}
use Rattle.lock_rules.proofs.Cuts.{one_less}
use Rattle.lock_rules.proofs.Begins.{new}
use Rattle.lock_rules.proofs.CountThinned.{IsThinned, thin-same, thin-but, thin-front, thin-cancel, thin-end, thin-victims}

-- which sessions wait

-- the second requests are the first and others of the session, without those of some sessions
pub record IsThinnedBy (s : ℕ) (qs rs : List Claim) : Type 0 where
  pub more : List Claim
  pub of : (q : Claim) → Member q more → q.session ≡ s
  pub thin : IsThinned (qs ++ more) rs

-- no request more
none-more : (s : ℕ) (qs rs : List Claim) → IsThinned qs rs → IsThinnedBy s qs rs
none-more s qs rs t = record { more = []; of = λ q k. absurd k; thin = subst (λ (xs : List Claim). IsThinned xs rs) (sym (append-nil qs)) t }

module _ (st : State) (s : ℕ) where
  -- a request
  asked-thinned : (r : List ℕ) (m : Mode) → IsThinnedBy s st.table.requests (after_asking st s r m).table.requests
  asked-thinned r m = go (is_held (held_mode st.table s r) m) (is_granted_at_once st.table s r m)
    where
      go : (b g : Bool) → IsThinnedBy s st.table.requests (cond b st (cond g (with_table (after_grant s r m st.table) st) (after_wait st s r m))).table.requests
      go true g = none-more s st.table.requests st.table.requests (thin-same st.table.requests)
      go false true = none-more s st.table.requests (after_grant s r m st.table).requests (thin-but s st.table.requests)
      go false false = record {
        more = new s r m ∷ [];
        of = λ q k. elim k [
          | inl e ↦ ap (λ (c : Claim). c.session) (sym e)
          | inr n ↦ absurd n
        ];
        thin = thin-victims (length st.table.requests + 2) s (with_table (with_request s r m st.table) st);
      }

  -- a call that passes its tests
  act-thinned : (c : Call) → IsThinnedBy s st.table.requests (act st s c).state.table.requests
  act-thinned Begin = none-more s st.table.requests st.table.requests (thin-same st.table.requests)
  act-thinned (Lock r m) = asked-thinned r (target_of (held_mode st.table s r) m)
  act-thinned (Convert r m) = asked-thinned r (target_of (held_mode st.table s r) m)
  act-thinned Poll = none-more s st.table.requests st.table.requests (thin-same st.table.requests)
  act-thinned (Release r) = none-more s st.table.requests (act st s (Release r)).state.table.requests (thin-front (queue (one_less s r st.table) r) (one_less s r st.table))
  act-thinned Commit = none-more s st.table.requests (act st s Commit).state.table.requests (thin-end s st.table)
  act-thinned Abort = none-more s st.table.requests (act st s Abort).state.table.requests (thin-end s st.table)
  act-thinned (Try r m) = asked-thinned r (target_of (held_mode st.table s r) m)
  act-thinned Withdraw = none-more s st.table.requests (act st s Withdraw).state.table.requests (thin-cancel s st.table)
  act-thinned Restart = none-more s st.table.requests (act st s Restart).state.table.requests (thin-end s st.table)

  -- a call, refused or not
  pub step-thinned : (c : Call) → IsThinnedBy s st.table.requests (step st s c).state.table.requests
  step-thinned c = go (first_failing (tests st s c))
    where
      go : (o : Option Why) → IsThinnedBy s st.table.requests (outcome_of o st s c).state.table.requests
      go None = act-thinned c
      go (Some w) = none-more s st.table.requests st.table.requests (thin-same st.table.requests)

-- a request of a filter is one of the list
kept-member : (p : Claim → Bool) (q : Claim) (qs : List Claim) → Member q (filter p qs) → Member q qs
kept-member p q [] k = absurd k
kept-member p q (x ∷ xs) k = go (p x) k (kept-member p q xs)
  where
    go : (b : Bool) → Member q (cond b (x ∷ filter p xs) (filter p xs)) → (Member q (filter p xs) → Member q xs) → Member q (x ∷ xs)
    go true (inl e) next = inl e
    go true (inr k) next = inr (next k)
    go false k next = inr (next k)

-- a member of two lists together is one of either
either-member : (q : Claim) (xs ys : List Claim) → Member q (xs ++ ys) → Member q xs ⊎ Member q ys
either-member q [] ys k = inr k
either-member q (x ∷ xs) ys (inl e) = inl (inl e)
either-member q (x ∷ xs) ys (inr k) = elim (either-member q xs ys k) [
  | inl j ↦ inl (inr j)
  | inr j ↦ inr j
]

-- all requests are of sessions 1 to n
abbrev pub AreRequestsWithin : ℕ → State → Type 0
AreRequestsWithin n st = (q : Claim) → Member q st.table.requests → (1 ≤ q.session) × (q.session ≤ n)

-- a call of one of the sessions keeps it
step-within : (n : ℕ) (st : State) (s : ℕ) (c : Call) → 1 ≤ s → s ≤ n → AreRequestsWithin n st → AreRequestsWithin n (step st s c).state
step-within n st s c some few within q k =
    let t = step-thinned st s c in
    elim (either-member q st.table.requests t.more (kept-member (λ (x : Claim). t.thin.keeps x.session) q (st.table.requests ++ t.more) (subst (λ (xs : List Claim). Member q xs) t.thin.is k))) [
      | inl j ↦ within q j
      | inr j ↦ let e = t.of q j in (omega (arith, some, e), omega (arith, few, e))
    ]

-- entries of the sessions keep it
requests-within-from : (n : ℕ) (es : List Entry) (st : State) → All (IsEntryWithin n) es → AreRequestsWithin n st → AreRequestsWithin n (state_after st es)
requests-within-from n [] st all within = within
requests-within-from n (e ∷ es) st all within =
    let own = all 0 e (omega arith) in
    requests-within-from n es (step st e.session e.call).state (λ k d l. all (suc k) d (omega (arith, l))) (step-within n st e.session e.call own.some own.within within)

-- the requests after a history of these sessions are theirs
pub requests-within : (n : ℕ) (h : List Entry) → All (IsEntryWithin n) h → AreRequestsWithin n (state_of h)
requests-within n h all = requests-within-from n h empty all (λ q k. absurd k)
