-- A session waits for holders in a conflicting mode and for earlier requests, and for nobody else.
use Rattle.std.proofs.Common.{◌≡◌, ◌≢◌, ℕ, Bool, true, false, not, eqb, ◌&&◌, inl, inr, List, [], ◌∷◌, ◌++◌, Option, Some, None, refl, ◌∙◌, ap, arith}
use Rattle.std.specs.Prelude.{filter, is_some}
use Rattle.std.proofs.lemmas.Bool.Decides.{nat_tests, Decides-eqb}
use Rattle.std.proofs.lemmas.Bool.{not-true, and_parts, and_from, or_cases, or_left, or_right, cases_Bool}
use Rattle.lock_modes.specs.declared.Mode.{Mode}
use Rattle.lock_modes.specs.Compatibility.{IsCompatible, are_compatible}
use Rattle.lock_modes.proofs.Compatibility.{compatible-from, compatible-tests}
use Rattle.lock_tree.specs.Paths.{same_path}
use Rattle.lock_rules.specs.State.{Claim, Table, held_mode, request_of}
use Rattle.lock_rules.specs.Queue.{queue, conversions, fresh_requests}
use Rattle.lock_rules.specs.Waits.{conflicts, stands_before, keeps_waiting, waits_for}
use Rattle.lock_rules.specs.Laws.{StandsBefore, WaitsFor, AreWaitsExact}
use Rattle.lock_rules.proofs.Lists.{same_path-refl, other, apart, request_of-session}
use Rattle.lock_rules.proofs.Alters.{true≢false}

-- holders

-- a conflict by the test is with a lock that isn't compatible
conflict-told : (m : Mode) (o : Option Mode) → conflicts m o ≡ true → (k : Mode) × (o ≡ Some k) × (IsCompatible m k → ⊥)
conflict-told m None h = absurd (cc)
conflict-told m (Some k) h = (k, refl, λ c. true≢false h (ap not (compatible-tests m k c)))

-- a mode that isn't compatible is a conflict by the test
conflict-tests : (m k : Mode) → (IsCompatible m k → ⊥) → conflicts m (Some k) ≡ true
conflict-tests m k n = elim (cases_Bool (are_compatible m k)) [ inl e ↦ absurd (n (compatible-from m k e)) | inr e ↦ ap not e ]

-- the request of a session is in the queue of its resource

-- a filter that keeps a session's request keeps it as the session's
pub request_of-filter : (s : ℕ) (p : Claim → Bool) (qs : List Claim) (q : Claim) → request_of s qs ≡ Some q → p q ≡ true → request_of s (filter p qs) ≡ Some q
request_of-filter s p [] q h e = absurd (cc)
request_of-filter s p (c ∷ qs) q h e = grind (arith, nat_tests, cases_Bool (p c), request_of-filter s p qs q)

-- a session's request in the first of two lists is its request in their concatenation
pub request_of-front : (s : ℕ) (xs ys : List Claim) (q : Claim) → request_of s xs ≡ Some q → request_of s (xs ++ ys) ≡ Some q
request_of-front s [] ys q h = absurd (cc)
request_of-front s (x ∷ xs) ys q h = grind (arith, nat_tests, request_of-front s xs ys q)

-- if the first of two lists has no request of a session, the second gives it
pub request_of-rest : (s : ℕ) (xs ys : List Claim) → request_of s xs ≡ None → request_of s (xs ++ ys) ≡ request_of s ys
request_of-rest s [] ys h = refl
request_of-rest s (x ∷ xs) ys h = grind (arith, nat_tests, request_of-rest s xs ys)

-- the session has a request in the list
abbrev IsMet : ℕ → List Claim → Type 0
IsMet s qs = (c : Claim) × (request_of s qs ≡ Some c)

-- a session with a request in the second of two lists has one in their concatenation
met-rest : (s : ℕ) (xs ys : List Claim) (q : Claim) → request_of s ys ≡ Some q → IsMet s (xs ++ ys)
met-rest s xs ys q h = go (request_of s xs) refl
  where
    go : (o : Option Claim) → request_of s xs ≡ o → IsMet s (xs ++ ys)
    go None e = (q, request_of-rest s xs ys e ∙ h)
    go (Some c) e = (c, request_of-front s xs ys c e)

-- a session's request is in the queue of its resource
met-queue : (t : Table) (s : ℕ) (q : Claim) → request_of s t.requests ≡ Some q → IsMet s (queue t q.resource)
met-queue t s q h = elim (cases_Bool (is_some (held_mode t q.session q.resource))) [
  | inl e ↦ (q, request_of-front s (conversions t q.resource) (fresh_requests t q.resource) q (request_of-filter s (λ c. same_path c.resource q.resource && is_some (held_mode t c.session q.resource)) t.requests q h (and_from (same_path q.resource q.resource) (is_some (held_mode t q.session q.resource)) (same_path-refl q.resource) e)))
  | inr e ↦ met-rest s (conversions t q.resource) (fresh_requests t q.resource) q (request_of-filter s (λ c. same_path c.resource q.resource && not (is_some (held_mode t c.session q.resource))) t.requests q h (and_from (same_path q.resource q.resource) (not (is_some (held_mode t q.session q.resource))) (same_path-refl q.resource) (ap not e)))
]

-- earlier requests

-- the first request of s, with what is before and after it
abbrev IsCut : ℕ → List Claim → Type 0
IsCut s qs = (before after : List Claim) × (q : Claim) × (qs ≡ before ++ q ∷ after) × (q.session ≡ s) × (request_of s before ≡ None)

-- the cut of a list is the cut of a longer one, if its new head is another session's
cut-later : (s : ℕ) (q : Claim) (qs : List Claim) → eqb q.session s ≡ false → IsCut s qs → IsCut s (q ∷ qs)
cut-later s q qs n (before, after, f, e, same, none) = (q ∷ before, after, f, ap (λ (xs : List Claim). q ∷ xs) e, same, grind (arith, nat_tests, none))

-- a list with a request of s can be cut at the first
cut : (s : ℕ) (qs : List Claim) (c : Claim) → request_of s qs ≡ Some c → IsCut s qs
cut s [] c h = absurd (cc)
cut s (q ∷ qs) c h = elim (cases_Bool (eqb q.session s)) [
  | inl e ↦ ([], qs, q, refl, (Decides-eqb q.session s).0 e, refl)
  | inr n ↦ cut-later s q qs n (cut s qs c (grind (arith, nat_tests)))
]

-- a head of u is before the first request of s
before-here : (u s : ℕ) (q : Claim) (qs : List Claim) → eqb q.session s ≡ false → eqb q.session u ≡ true → IsCut s qs → StandsBefore u s (q ∷ qs)
before-here u s q qs n o (before, after, f, e, same, none) = (q ∷ before, after, f, q, ap (λ (xs : List Claim). q ∷ xs) e, same, grind (arith, nat_tests, none), grind (arith, nat_tests))

-- what is before the first request of s stays so behind another head
before-later : (u s : ℕ) (q : Claim) (qs : List Claim) → eqb q.session s ≡ false → eqb q.session u ≡ false → StandsBefore u s qs → StandsBefore u s (q ∷ qs)
before-later u s q qs n o (before, after, f, p, e, same, none, some) = (q ∷ before, after, f, p, ap (λ (xs : List Claim). q ∷ xs) e, same, grind (arith, nat_tests, none), grind (arith, nat_tests, some))

-- the test whether u is before s finds only requests before the first of s
before-told : (u s : ℕ) (qs : List Claim) (c : Claim) → request_of s qs ≡ Some c → stands_before u s qs ≡ true → StandsBefore u s qs
before-told u s [] c h b = absurd (cc)
before-told u s (q ∷ qs) c h b = elim (cases_Bool (eqb q.session s)) [
  | inl e ↦ absurd (grind (arith, nat_tests))
  | inr n ↦ elim (cases_Bool (eqb q.session u)) [
    | inl e ↦ before-here u s q qs n e (cut s qs c (grind (arith, nat_tests)))
    | inr o ↦ before-later u s q qs n o (before-told u s qs c (grind (arith, nat_tests)) (grind (arith, nat_tests)))
  ]
]

-- the test whether u is before s finds every request before the first of s
before-tests : (u s : ℕ) (before rest : List Claim) (p : Claim) → request_of s before ≡ None → request_of u before ≡ Some p → stands_before u s (before ++ rest) ≡ true
before-tests u s [] rest p h k = absurd (cc)
before-tests u s (q ∷ before) rest p h k = grind (arith, nat_tests, before-tests u s before rest p)

-- the waits-for graph

-- every edge by the test is a wait as the law states it
waits-told : (t : Table) (s u : ℕ) → waits_for t s u ≡ true → WaitsFor t s u
waits-told t s u h = let p = and_parts (not (eqb u s)) (keeps_waiting t u (request_of s t.requests)) h in go (apart s u (not-true (eqb u s) p.0)) (request_of s t.requests) refl p.1
  where
    go : u ≢ s → (o : Option Claim) → request_of s t.requests ≡ o → keeps_waiting t u o ≡ true → WaitsFor t s u
    go n None e k = absurd (cc)
    go n (Some q) e k = (
      n,
      q,
      e,
      elim (or_cases (conflicts q.mode (held_mode t u q.resource)) (stands_before u q.session (queue t q.resource)) k) [
        | inl c ↦ inl (conflict-told q.mode (held_mode t u q.resource) c)
        | inr b ↦ let m = met-queue t s q e in inr (before-told u s (queue t q.resource) m.0 m.1 (rw (request_of-session s t.requests q e) at b))
      ],
    )

-- every wait as the law states it is an edge by the test
waits-tests : (t : Table) (s u : ℕ) → WaitsFor t s u → waits_for t s u ≡ true
waits-tests t s u w =
    let q = w.1 in
    and_from (not (eqb u s)) (keeps_waiting t u (request_of s t.requests)) (ap not (other s u w.0)) (ap (keeps_waiting t u) w.2 ∙ elim w.3 [
      | inl h ↦ or_left (conflicts q.mode (held_mode t u q.resource)) (stands_before u q.session (queue t q.resource)) (ap (conflicts q.mode) h.1 ∙ conflict-tests q.mode h.0 h.2)
      | inr b ↦ or_right (conflicts q.mode (held_mode t u q.resource)) (stands_before u q.session (queue t q.resource)) (ap (λ (x : ℕ). stands_before u x (queue t q.resource)) (request_of-session s t.requests q w.2) ∙ (ap (stands_before u s) b.4 ∙ before-tests u s b.0 (b.2 ∷ b.1) b.3 b.6 b.7))
    ])

-- the waits-for graph is exact
pub waits-tell : (t : Table) → AreWaitsExact t
waits-tell t s u = (waits-told t s u, waits-tests t s u)
