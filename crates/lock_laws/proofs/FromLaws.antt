-- The tests of lists that proofs compute with, from the laws of a state.
use Rattle.std.proofs.Common.{◌≡◌, ℕ, ◌≤◌, true, eqb, ltb, inl, inr, List, [], ◌∷◌, ◌++◌, None, refl, ap, arith}
use Rattle.std.proofs.lemmas.Bool.Decides.{nat_tests, Decides-eqb}
use Rattle.std.proofs.lemmas.Bool.{and_from, and_parts, cases_Bool, lt-ltb}
use Rattle.lock_modes.specs.declared.Mode.{Mode}
use Rattle.lock_rules.specs.State.{Claim, State, request_of, holders}
use Rattle.lock_rules.specs.Laws.{AreSessionsRising, AreHoldersListed, IsOneRequestEach}
use Rattle.lock_rules.specs.Sound.{IsOnce, IsOrdered, after, ascend, times}
use Rattle.lock_rules.proofs.Lists.{after-trans, times-none}

-- holders whose numbers rise pass the test for it
rising-ascend : (hs : List (ℕ × Mode)) → AreSessionsRising hs → ascend hs ≡ true
rising-ascend [] h = refl
rising-ascend (a ∷ []) h = refl
rising-ascend (a ∷ b ∷ rest) h =
    let l : ltb a.0 b.0 ≡ true = lt-ltb a.0 b.0 h.0 in
    let r : ascend (b ∷ rest) ≡ true = rising-ascend (b ∷ rest) h.1 in
    let p = and_parts (after b.0 rest) (ascend rest) r in
    and_from (after a.0 (b ∷ rest)) (ascend (b ∷ rest)) (and_from (ltb a.0 b.0) (after a.0 rest) l (after-trans a.0 b.0 rest h.0 p.0)) r

-- holders that are listed by session number are in order
pub listed-ordered : (st : State) → AreHoldersListed st → IsOrdered st.table.held
listed-ordered st h r = rising-ascend (holders r st.table.held) (h.rising r)

-- a request that isn't found behind another session's is not found in the list behind it
behind : (s : ℕ) (q : Claim) (qs : List Claim) → request_of s (q ∷ qs) ≡ None → request_of s qs ≡ None
behind s q qs h = elim (cases_Bool (eqb q.session s)) [ inl e ↦ absurd (grind (arith, nat_tests)) | inr e ↦ grind (arith, nat_tests) ]

-- if each request is its session's only one, no session is counted twice
only-once : (qs : List Claim) → ((front rest : List Claim) (q : Claim) → qs ≡ front ++ q ∷ rest → request_of q.session (front ++ rest) ≡ None) → IsOnce qs
only-once [] h s = omega arith
only-once (q ∷ qs) h s =
    let r = only-once qs (λ front rest p e. behind p.session q (front ++ rest) (h (q ∷ front) rest p (ap (λ (xs : List Claim). q ∷ xs) e))) s in
    let z = times-none q.session qs (h [] qs q refl) in
    count q qs s r z
  where
    count : (q : Claim) (qs : List Claim) (s : ℕ) → times s qs ≤ 1 → times q.session qs ≡ 0 → times s (q ∷ qs) ≤ 1
    count q qs s r z = elim (cases_Bool (eqb q.session s)) [
      | inl e ↦ let f = (Decides-eqb q.session s).0 e in let g = ap (λ (i : ℕ). times i qs) f in grind (arith, nat_tests)
      | inr e ↦ grind (arith, nat_tests)
    ]

-- if no session has two requests, none is counted twice
pub one-once : (st : State) → IsOneRequestEach st → IsOnce st.table.requests
one-once st h = only-once st.table.requests h
