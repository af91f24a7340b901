-- No more requests wait than there are sessions.
use Rattle.std.proofs.Common.{◌≡◌, ℕ, zero, suc, ◌+◌, ◌<◌, ◌≤◌, false, eqb, inl, inr, List, [], ◌∷◌, length, Option, Some, None, is_some, refl, sym, ◌∙◌, ap, arith}
use Rattle.std.proofs.lemmas.Bool.Decides.{nat_tests, Decides-eqb}
use Rattle.std.proofs.lemmas.Bool.{cases_Bool}
use Rattle.lock_rules.specs.State as rules
use Rattle.lock_rules.specs.Sound.{IsOnce, IsSound, times}
use Rattle.lock_rules.proofs.Lists.{same_path-refl, times-none, times-claims_but}
use Rattle.lock_rules.proofs.Steps.{is-none}
use Rattle.lock_table.specs.declared.table.LockTable.{LockTable}
use Rattle.lock_table.specs.inner.Cells.{View}
use Rattle.lock_holders.specs.SessionModes.{has_session}
use Rattle.lock_table.specs.inner.Lockers.{Standing, standing_at, is_wanted}
use Rattle.lock_table.specs.Changes.{standings, standing, IsWhole}
use Rattle.lock_table.specs.Shows.{Shows}
use Rattle.lock_table.proofs.LockerStandings.{length-standings}
use Rattle.lock_table.proofs.LockCounts.{waits-told}
use Rattle.lock_table.proofs.SessionsInRange.{once-at}

-- the requests are those of one session and those of all others
length-but : (s : ℕ) (qs : List rules.Claim) → length qs ≡ length (rules.claims_but s qs) + times s qs
length-but s [] = omega arith
length-but s (q ∷ qs) = grind (arith, nat_tests, length-but s qs)

-- removing the requests of a session leaves none of its own
times-but : (s : ℕ) (qs : List rules.Claim) → times s (rules.claims_but s qs) ≡ 0
times-but s [] = refl
times-but s (q ∷ qs) = grind (arith, nat_tests, times-but s qs)

-- if no session has a request, there is none
no-request : (qs : List rules.Claim) → ((s : ℕ) → times s qs ≡ 0) → length qs ≡ 0
no-request [] h = refl
no-request (q ∷ qs) h = absurd (let e = h q.session in let f = (Decides-eqb q.session q.session).1 refl in grind (arith, nat_tests))

-- requests of sessions 1 to n, at most one of each, are at most n
pigeons : (n : ℕ) (qs : List rules.Claim) → IsOnce qs → times 0 qs ≡ 0 → ((s : ℕ) → n < s → times s qs ≡ 0) → length qs ≤ n
pigeons zero qs o z h = omega (arith, no-request qs each)
  where
    each : (s : ℕ) → times s qs ≡ 0
    each zero = z
    each (suc s) = h (suc s) (omega arith)
pigeons (suc n) qs o z h =
    let rest = pigeons n (rules.claims_but (suc n) qs) (λ s. omega (arith, times-claims_but s (suc n) qs, o s)) (omega (arith, times-claims_but 0 (suc n) qs, z)) more in
    omega (arith, rest, length-but (suc n) qs, o (suc n))
  where
    more : (s : ℕ) → n < s → times s (rules.claims_but (suc n) qs) ≡ 0
    more s lt = elim (cases_Bool (eqb s (suc n))) [
      | inl e ↦ let f = (Decides-eqb s (suc n)).0 e in rw f (times-but (suc n) qs)
      | inr e ↦ let k = h s (differ e) in omega (arith, times-claims_but s (suc n) qs, k)
    ]
      where
        differ : eqb s (suc n) ≡ false → suc n < s
        differ e = grind (arith, nat_tests)

module _ (d : LockTable) (st : rules.State) (w : IsWhole d) (i : IsSound st.table) (h : Shows d st) where
  -- a session that does not wait in the lock table has no request in the state
  idle-times : (s : ℕ) → is_some (standing s d).wanted ≡ false → times s st.table.requests ≡ 0
  idle-times s e = times-none s st.table.requests (is-none (rules.request_of s st.table.requests) (sym (waits-told s st.table (standing s d).wanted (λ x. (w.agree x).wanted s ∙ ap (λ (v : View). has_session s v.waiting) (h.views x))) ∙ e))

  -- session 0 does not wait
  nobody-waits : is_some (standing 0 d).wanted ≡ false
  nobody-waits = go (standing 0 d).wanted refl
    where
      go : (o : Option (List ℕ)) → (standing 0 d).wanted ≡ o → is_some o ≡ false
      go None e = refl
      go (Some r) e =
          let a = sym ((w.agree r).wanted 0) ∙ (ap (is_wanted r) e ∙ same_path-refl r) in
          let b = (once-at r d.cells.entries w.cells).waiting in
          absurd (cc)

  -- so it has no request
  pub nobody-asks : rules.request_of 0 st.table.requests ≡ None
  nobody-asks = is-none (rules.request_of 0 st.table.requests) (sym (waits-told 0 st.table (standing 0 d).wanted (λ x. (w.agree x).wanted 0 ∙ ap (λ (v : View). has_session 0 v.waiting) (h.views x))) ∙ nobody-waits)

  -- a session without a locker does not wait
  beyond : (ss : List Standing) (s : ℕ) → length ss ≤ s → is_some (standing_at s ss).wanted ≡ false
  beyond [] s le = refl
  beyond (x ∷ ss) zero le = absurd (omega arith)
  beyond (x ∷ ss) (suc s) le = beyond ss s (omega arith)

  -- the requests of the state are no more than there are lockers
  pub few-waits : (n : ℕ) → n ≡ length d.lockers.items → length st.table.requests ≤ n
  few-waits n long = pigeons n st.table.requests i.once (idle-times 0 nobody-waits) (λ s lt. idle-times s (beyond (standings d) s (omega (arith, lt, long, length-standings d.lockers.items))))
