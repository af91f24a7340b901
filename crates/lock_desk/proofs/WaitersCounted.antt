-- As many sessions wait, by their lockers, as there are requests.
use Rattle.std.proofs.Common.{◌≡◌, ◌≢◌, ℕ, zero, suc, ◌+◌, ◌<◌, ◌≤◌, eqb, inl, inr, List, [], ◌∷◌, length, map, get_or, is_some, refl, sym, ◌∙◌, ap, arith}
use Rattle.std.proofs.lemmas.Bool.Decides.{Decides-eqb}
use Rattle.std.proofs.lemmas.Bool.{cases_Bool, cases_lt}
use Rattle.sequential.proofs.Members.{Member}
use Rattle.lock_rules.specs.State as rules
use Rattle.lock_rules.specs.Sound.{IsOnce, IsSound, times}
use Rattle.lock_rules.proofs.Lists.{apart, other, times-none}
use Rattle.lock_rules.proofs.Steps.{is-none}
use Rattle.lock_rules.specs.Counts.{one_if, count_if}
use Rattle.lock_table.specs.declared.lockers.Locker.{Locker}
use Rattle.lock_table.specs.declared.table.LockTable.{LockTable}
use Rattle.lock_table.specs.inner.Lockers.{Standing, no_standing, standing_of}
use Rattle.lock_table.specs.Changes.{standings, IsWhole}
use Rattle.lock_table.specs.Shows.{Shows}
use Rattle.lock_table.proofs.LockerStandings.{length-standings}
use Rattle.lock_table.proofs.Simulation.{waits-shown}
use Rattle.lock_desk.proofs.VictimsOfCalls.{one-request}

-- how many of m sessions from k on this one is
abbrev hits : ℕ → ℕ → ℕ → ℕ
hits k zero x = 0
hits k (suc m) x = one_if (eqb x k) + hits (suc k) m x

hits-before : (k m x : ℕ) → x < k → hits k m x ≡ 0
hits-before k zero x lt = refl
hits-before k (suc m) x lt = omega (arith, hits-before (suc k) m x (omega (arith, lt)), ap one_if (other k x (λ f. omega (arith, f, lt))))

hits-within : (k m x : ℕ) → k ≤ x → x < k + m → hits k m x ≡ 1
hits-within k zero x le lt = absurd (omega (arith, le, lt))
hits-within k (suc m) x le lt = elim (cases_Bool (eqb x k)) [
  | inl e ↦ omega (arith, ap one_if e, hits-before (suc k) m x (omega (arith, (Decides-eqb x k).0 e)))
  | inr n ↦ omega (arith, ap one_if n, hits-within (suc k) m x (above (apart k x n)) (omega (arith, lt)))
]
  where
    above : x ≢ k → suc k ≤ x
    above d = elim (cases_lt k x) [
      | inl less ↦ omega (arith, less)
      | inr most ↦ absurd (d (omega (arith, le, most)))
    ]

-- the requests of m sessions from k on
abbrev requests_from : ℕ → ℕ → List rules.Claim → ℕ
requests_from k zero qs = 0
requests_from k (suc m) qs = times k qs + requests_from (suc k) m qs

requests-none : (k m : ℕ) → requests_from k m [] ≡ 0
requests-none k zero = refl
requests-none k (suc m) = omega (arith, requests-none (suc k) m)

requests-push : (k m : ℕ) (q : rules.Claim) (qs : List rules.Claim) → requests_from k m (q ∷ qs) ≡ hits k m q.session + requests_from k m qs
requests-push k zero q qs = omega arith
requests-push k (suc m) q qs = omega (arith, requests-push (suc k) m q qs)

-- all are those of sessions up to n
requests-all : (n : ℕ) (qs : List rules.Claim) → ((q : rules.Claim) → Member q qs → q.session ≤ n) → requests_from 0 (suc n) qs ≡ length qs
requests-all n [] h = requests-none 0 (suc n)
requests-all n (q ∷ qs) h =
    omega (arith, requests-push 0 (suc n) q qs, hits-within 0 (suc n) q.session (omega arith) (omega (arith, h q (inl refl))), requests-all n qs (λ x k. h x (inr k)))

-- a session has one request if it waits
times-waiting : (s : ℕ) (qs : List rules.Claim) → IsOnce qs → times s qs ≡ one_if (is_some (rules.request_of s qs))
times-waiting s qs once = elim (cases_Bool (is_some (rules.request_of s qs))) [
  | inl y ↦ one-request s qs once y ∙ sym (ap one_if y)
  | inr n ↦ times-none s qs (is-none (rules.request_of s qs) n) ∙ sym (ap one_if n)
]

-- counting what waits, by standings
count-standings : (ss : List Standing) (k : ℕ) (qs : List rules.Claim) → ((j : ℕ) → j < length ss → one_if (is_some (get_or ss j no_standing).wanted) ≡ times (k + j) qs)
    → count_if (λ (x : Standing). is_some x.wanted) ss ≡ requests_from k (length ss) qs
count-standings [] k qs h = refl
count-standings (x ∷ ss) k qs h =
    let here : k + 0 ≡ k = omega arith in
    omega (arith, h 0 (omega arith), ap (λ (n : ℕ). times n qs) here, count-standings ss (suc k) qs (λ j lt. let next : k + suc j ≡ suc k + j = omega arith in h (suc j) (omega (arith, lt)) ∙ ap (λ (n : ℕ). times n qs) next))

count-lockers : (ws : List Locker) → count_if (λ (x : Standing). is_some x.wanted) (map standing_of ws) ≡ count_if (λ (w : Locker). is_some (standing_of w).wanted) ws
count-lockers [] = refl
count-lockers (w ∷ ws) = omega (arith, count-lockers ws)

-- as many lockers wait as the state has requests
pub waiting-counted : (d : LockTable) (st : rules.State) → IsWhole d → IsSound st.table → Shows d st
    → ((q : rules.Claim) → Member q st.table.requests → (1 ≤ q.session) × (q.session ≤ length d.lockers.items))
    → count_if (λ (w : Locker). is_some (standing_of w).wanted) d.lockers.items ≡ length st.table.requests
waiting-counted d st w i h within =
    let n = length d.lockers.items in
    let all = count-standings (standings d) 0 st.table.requests (λ j lt.
    let same : j ≡ 0 + j = omega arith in
    ap one_if (waits-shown d st j w h) ∙ (sym (times-waiting j st.table.requests i.once) ∙ ap (λ (k : ℕ). times k st.table.requests) same)) in
    let long : length (standings d) ≡ suc n = omega (arith, length-standings d.lockers.items) in
    omega (arith, count-lockers d.lockers.items, all, ap (λ (m : ℕ). requests_from 0 m st.table.requests) long, requests-all n st.table.requests (λ q k. (within q k).1))
