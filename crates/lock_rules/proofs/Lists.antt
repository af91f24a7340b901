-- Look-ups in lists of locks and of requests after a change of the list.
use Rattle.std.proofs.Common.{◌≡◌, ◌≢◌, ℕ, ◌+◌, ◌<◌, ◌≤◌, Bool, true, false, cond, eqb, ltb, ◌⊎◌, inl, inr, List, [], ◌∷◌, ◌++◌, Option, Some, None, refl, sym, ◌∙◌, ap, arith}
use Rattle.std.specs.Prelude.{filter}
use Rattle.std.proofs.lemmas.Bool.Decides.{nat_tests, Decides-eqb}
use Rattle.std.proofs.lemmas.Bool.{and_parts, and_from, cases_Bool}
use Rattle.lock_modes.specs.declared.Mode.{Mode}
use Rattle.lock_tree.specs.Paths.{same_path}
use Rattle.lock_rules.specs.State.{Claim, mode_in, request_of, claims_but, holders}
use Rattle.lock_rules.specs.Queue.{with_lock, locks_but}
use Rattle.lock_rules.specs.Waits.{stands_before}
use Rattle.lock_rules.specs.Sound.{IsOrdered, after, ascend, times}

-- a resource is the same as itself
pub same_path-refl : (r : List ℕ) → same_path r r ≡ true
same_path-refl [] = refl
same_path-refl (x ∷ xs) = and_from (eqb x x) (same_path xs xs) ((Decides-eqb x x).1 refl) (same_path-refl xs)

-- resources that the test finds the same are equal
pub same_path-true : (a b : List ℕ) → same_path a b ≡ true → a ≡ b
same_path-true [] [] h = refl
same_path-true [] (y ∷ ys) h = cc
same_path-true (x ∷ xs) [] h = cc
same_path-true (x ∷ xs) (y ∷ ys) h = let p = and_parts (eqb x y) (same_path xs ys) h in let e = (Decides-eqb x y).0 p.0 in let f = same_path-true xs ys p.1 in cc

-- either the test passes and the resources are equal, or it fails
pub same_path_tells : (a b : List ℕ) → ((same_path a b ≡ true) × (a ≡ b)) ⊎ (same_path a b ≡ false)
same_path_tells a b = elim (cases_Bool (same_path a b)) [ inl h ↦ inl (h, same_path-true a b h) | inr h ↦ inr h ]

-- a number equals itself
pub eqb-refl : (s : ℕ) → eqb s s ≡ true
eqb-refl s = (Decides-eqb s s).1 refl

-- the test of equality fails for different sessions
pub other : (s u : ℕ) → u ≢ s → eqb u s ≡ false
other s u n = elim (cases_Bool (eqb u s)) [ inl e ↦ absurd (n ((Decides-eqb u s).0 e)) | inr e ↦ e ]

-- sessions for which the test of equality fails are different
pub apart : (s u : ℕ) → eqb u s ≡ false → u ≢ s
apart s u e h = let f = (Decides-eqb u s).1 h in cc

-- the test for the same resource fails for different resources
pub differs : (a b : List ℕ) → a ≢ b → same_path b a ≡ false
differs a b n = elim (same_path_tells b a) [ inl p ↦ absurd (n (sym p.1)) | inr e ↦ e ]

-- the mode of a session on a resource

-- with a lock set, its session holds the resource in its mode
pub mode_in-with_lock : (s : ℕ) (r : List ℕ) (m : Mode) (cs : List Claim) → mode_in s r (with_lock s r m cs) ≡ Some m
mode_in-with_lock s r m [] = grind (arith, nat_tests, same_path-refl)
mode_in-with_lock s r m (c ∷ cs) = grind (arith, nat_tests, same_path-refl, same_path_tells, mode_in-with_lock s r m cs)

-- setting a lock changes nothing on other resources
pub mode_in-with_lock_path : (u s : ℕ) (x r : List ℕ) (m : Mode) (cs : List Claim) → same_path r x ≡ false → mode_in u x (with_lock s r m cs) ≡ mode_in u x cs
mode_in-with_lock_path u s x r m [] h = grind (arith, nat_tests)
mode_in-with_lock_path u s x r m (c ∷ cs) h = grind (arith, nat_tests, same_path_tells, mode_in-with_lock_path u s x r m cs h)

-- setting a lock changes nothing for other sessions
pub mode_in-with_lock_other : (u s : ℕ) (x r : List ℕ) (m : Mode) (cs : List Claim) → eqb u s ≡ false → mode_in u x (with_lock s r m cs) ≡ mode_in u x cs
mode_in-with_lock_other u s x r m [] h = grind (arith, nat_tests)
mode_in-with_lock_other u s x r m (c ∷ cs) h = grind (arith, nat_tests, mode_in-with_lock_other u s x r m cs h)

-- with its lock removed, the session doesn't hold the resource
pub mode_in-locks_but : (s : ℕ) (r : List ℕ) (cs : List Claim) → mode_in s r (locks_but s r cs) ≡ None
mode_in-locks_but s r [] = refl
mode_in-locks_but s r (c ∷ cs) = grind (arith, nat_tests, same_path_tells, mode_in-locks_but s r cs)

-- removing a lock changes nothing on other resources
pub mode_in-locks_but_path : (u s : ℕ) (x r : List ℕ) (cs : List Claim) → same_path r x ≡ false → mode_in u x (locks_but s r cs) ≡ mode_in u x cs
mode_in-locks_but_path u s x r [] h = refl
mode_in-locks_but_path u s x r (c ∷ cs) h = grind (arith, nat_tests, same_path_tells, mode_in-locks_but_path u s x r cs h)

-- removing a lock changes nothing for other sessions
pub mode_in-locks_but_other : (u s : ℕ) (x r : List ℕ) (cs : List Claim) → eqb u s ≡ false → mode_in u x (locks_but s r cs) ≡ mode_in u x cs
mode_in-locks_but_other u s x r [] h = refl
mode_in-locks_but_other u s x r (c ∷ cs) h = grind (arith, nat_tests, mode_in-locks_but_other u s x r cs h)

-- with all its claims removed, a session holds nothing
pub mode_in-claims_but : (s : ℕ) (x : List ℕ) (cs : List Claim) → mode_in s x (claims_but s cs) ≡ None
mode_in-claims_but s x [] = refl
mode_in-claims_but s x (c ∷ cs) = grind (arith, nat_tests, mode_in-claims_but s x cs)

-- removing a session's claims changes nothing for others
pub mode_in-claims_but_other : (u s : ℕ) (x : List ℕ) (cs : List Claim) → eqb u s ≡ false → mode_in u x (claims_but s cs) ≡ mode_in u x cs
mode_in-claims_but_other u s x [] h = refl
mode_in-claims_but_other u s x (c ∷ cs) h = grind (arith, nat_tests, mode_in-claims_but_other u s x cs h)

-- requests

-- with all its claims removed, a session has no request
pub request_of-claims_but : (s : ℕ) (qs : List Claim) → request_of s (claims_but s qs) ≡ None
request_of-claims_but s [] = refl
request_of-claims_but s (q ∷ qs) = grind (arith, nat_tests, request_of-claims_but s qs)

-- removing a session's requests leaves those of others
pub request_of-claims_but_other : (u s : ℕ) (qs : List Claim) → eqb u s ≡ false → request_of u (claims_but s qs) ≡ request_of u qs
request_of-claims_but_other u s [] h = refl
request_of-claims_but_other u s (q ∷ qs) h = grind (arith, nat_tests, request_of-claims_but_other u s qs h)

-- removing the requests of a session that has none changes nothing
pub claims_but-none : (s : ℕ) (qs : List Claim) → request_of s qs ≡ None → claims_but s qs ≡ qs
claims_but-none s [] h = refl
claims_but-none s (q ∷ qs) h = grind (arith, nat_tests, claims_but-none s qs)

-- removing a session's only request, which is the last, gives the list before it
pub claims_but-push : (s : ℕ) (qs : List Claim) (q : Claim) → request_of s qs ≡ None → q.session ≡ s → claims_but s (qs ++ q ∷ []) ≡ qs
claims_but-push s [] q h e = grind (arith, nat_tests)
claims_but-push s (p ∷ qs) q h e = grind (arith, nat_tests, claims_but-push s qs q)

-- a request appended for a session without one is the session's request
pub request_of-push : (s : ℕ) (qs : List Claim) (q : Claim) → request_of s qs ≡ None → q.session ≡ s → request_of s (qs ++ q ∷ []) ≡ Some q
request_of-push s [] q h e = grind (arith, nat_tests)
request_of-push s (p ∷ qs) q h e = grind (arith, nat_tests, request_of-push s qs q)

-- the request found for a session is of that session
pub request_of-session : (s : ℕ) (qs : List Claim) (q : Claim) → request_of s qs ≡ Some q → q.session ≡ s
request_of-session s [] q h = absurd (cc)
request_of-session s (p ∷ qs) q h = grind (arith, nat_tests, request_of-session s qs q)

-- two tests that agree on all sessions but v keep the same requests once those of v are removed
pub filter-swap : (v : ℕ) (p p' : Claim → Bool) (qs : List Claim) → ((q : Claim) → eqb q.session v ≡ false → p' q ≡ p q) → filter p' (claims_but v qs) ≡ claims_but v (filter p qs)
filter-swap v p p' [] h = refl
filter-swap v p p' (q ∷ qs) h = grind (arith, nat_tests, h q, filter-swap v p p' qs h, cases_Bool (p q))

-- removing a session's claims from a concatenation removes them from each list
pub claims_but-append : (v : ℕ) (xs ys : List Claim) → claims_but v (xs ++ ys) ≡ claims_but v xs ++ claims_but v ys
claims_but-append v [] ys = refl
claims_but-append v (x ∷ xs) ys = grind (arith, nat_tests, claims_but-append v xs ys)

-- removing the requests of a third session keeps who is before whom
pub stands_before-claims_but : (u s v : ℕ) (qs : List Claim) → eqb s v ≡ false → eqb u v ≡ false → stands_before u s (claims_but v qs) ≡ stands_before u s qs
stands_before-claims_but u s v [] h k = refl
stands_before-claims_but u s v (q ∷ qs) h k = grind (arith, nat_tests, stands_before-claims_but u s v qs h k)

-- each session has at most one request

-- removing a session's requests leaves no session more of them
pub times-claims_but : (s v : ℕ) (qs : List Claim) → times s (claims_but v qs) ≤ times s qs
times-claims_but s v [] = omega arith
times-claims_but s v (q ∷ qs) = grind (arith, nat_tests, times-claims_but s v qs)

-- a session without a request is counted 0 times
pub times-none : (s : ℕ) (qs : List Claim) → request_of s qs ≡ None → times s qs ≡ 0
times-none s [] h = refl
times-none s (q ∷ qs) h = grind (arith, nat_tests, times-none s qs)

-- a session counted 0 times has no request
pub none-times : (s : ℕ) (qs : List Claim) → times s qs ≡ 0 → request_of s qs ≡ None
none-times s [] h = refl
none-times s (q ∷ qs) h = grind (arith, nat_tests, none-times s qs)

-- the counts of two lists add up in their concatenation
pub times-append : (s : ℕ) (xs ys : List Claim) → times s (xs ++ ys) ≡ times s xs + times s ys
times-append s [] ys = omega arith
times-append s (x ∷ xs) ys = grind (arith, nat_tests, times-append s xs ys)

-- if no request passes both tests, those that pass one or the other are at most all
pub times-apart : (s : ℕ) (p p' : Claim → Bool) (qs : List Claim) → ((q : Claim) → p q ≡ true → p' q ≡ false) → times s (filter p qs) + times s (filter p' qs) ≤ times s qs
times-apart s p p' [] h = omega arith
times-apart s p p' (q ∷ qs) h = grind (arith, nat_tests, times-apart s p p' qs h, cases_Bool (p q), cases_Bool (p' q), h q)

-- members

-- the claim is in the list
abbrev pub In : Claim → List Claim → Type 0
In h [] = ⊥
In h (x ∷ xs) = (h ≡ x) ⊎ In h xs

-- a claim in a concatenation is in one of the lists
pub In-append : (h : Claim) (xs ys : List Claim) → In h (xs ++ ys) → In h xs ⊎ In h ys
In-append h [] ys k = inr k
In-append h (x ∷ xs) ys k = elim k [ inl e ↦ inl (inl e) | inr i ↦ elim (In-append h xs ys i) [ inl j ↦ inl (inr j) | inr j ↦ inr j ] ]

-- In-filter for the first claim of the list
In-cond : (b : Bool) (p : Claim → Bool) (h x : Claim) (xs ys : List Claim) → p x ≡ b → (In h ys → In h xs × (p h ≡ true)) → In h (cond b (x ∷ ys) ys) → ((h ≡ x) ⊎ In h xs) × (p h ≡ true)
In-cond true p h x xs ys e f k = elim k [ inl g ↦ (inl g, ap p g ∙ e) | inr i ↦ let r = f i in (inr r.0, r.1) ]
In-cond false p h x xs ys e f k = let r = f k in (inr r.0, r.1)

-- a claim that a filter keeps is in the list and passes the test
pub In-filter : (p : Claim → Bool) (h : Claim) (xs : List Claim) → In h (filter p xs) → In h xs × (p h ≡ true)
In-filter p h [] k = absurd k
In-filter p h (x ∷ xs) k = In-cond (p x) p h x xs (filter p xs) refl (In-filter p h xs) k

-- the session of a request in the list is counted at least once
pub In-times : (h : Claim) (xs : List Claim) → In h xs → 1 ≤ times h.session xs
In-times h [] k = absurd k
In-times h (x ∷ xs) k = elim k [ inl e ↦ let f = ap (λ (c : Claim). c.session) e in grind (arith, nat_tests) | inr i ↦ let r = In-times h xs i in grind (arith, nat_tests) ]

-- a request in the list is its session's, if the session is counted at most once
pub In-request : (h : Claim) (xs : List Claim) → times h.session xs ≤ 1 → In h xs → request_of h.session xs ≡ Some h
In-request h [] o k = absurd k
In-request h (x ∷ xs) o k = elim k [
  | inl e ↦ let f = ap (λ (c : Claim). c.session) e in grind (arith, nat_tests)
  | inr i ↦ let n = In-times h xs i in let r = In-request h xs in grind (arith, nat_tests, r)
]

-- holders in order of session number

-- the mode of the session among these holders
abbrev pub seek : ℕ → List (ℕ × Mode) → Option Mode
seek u [] = None
seek u (h ∷ hs) = cond (eqb h.0 u) (Some h.1) (seek u hs)

-- a session's mode on a resource is its mode among the resource's holders
pub mode_in-seek : (u : ℕ) (r : List ℕ) (cs : List Claim) → mode_in u r cs ≡ seek u (holders r cs)
mode_in-seek u r [] = refl
mode_in-seek u r (c ∷ cs) = grind (arith, nat_tests, cases_Bool (same_path c.resource r), mode_in-seek u r cs)

-- the holders with the session's mode set, by session number
abbrev lock_in : ℕ → Mode → List (ℕ × Mode) → List (ℕ × Mode)
lock_in s m [] = (s, m) ∷ []
lock_in s m (h ∷ hs) = cond (eqb h.0 s) ((s, m) ∷ hs) (cond (ltb s h.0) ((s, m) ∷ h ∷ hs) (h ∷ lock_in s m hs))

-- setting a lock sets it among the holders of its resource
holders-with_lock : (s : ℕ) (r : List ℕ) (m : Mode) (cs : List Claim) → holders r (with_lock s r m cs) ≡ lock_in s m (holders r cs)
holders-with_lock s r m [] = grind (arith, nat_tests, same_path-refl)
holders-with_lock s r m (c ∷ cs) = grind (arith, nat_tests, same_path-refl, same_path_tells, holders-with_lock s r m cs)

-- setting a lock keeps the holders of other resources
holders-with_lock_path : (s : ℕ) (q r : List ℕ) (m : Mode) (cs : List Claim) → same_path q r ≡ false → holders r (with_lock s q m cs) ≡ holders r cs
holders-with_lock_path s q r m [] h = grind (arith, nat_tests)
holders-with_lock_path s q r m (c ∷ cs) h = grind (arith, nat_tests, same_path_tells, holders-with_lock_path s q r m cs h)

-- setting a later session's mode keeps all holders after i
after-lock_in : (i s : ℕ) (m : Mode) (hs : List (ℕ × Mode)) → i < s → after i hs ≡ true → after i (lock_in s m hs) ≡ true
after-lock_in i s m [] l h = grind (arith, nat_tests)
after-lock_in i s m (k ∷ hs) l h = grind (arith, nat_tests, after-lock_in i s m hs l)

-- holders after s are after any earlier session
pub after-trans : (i s : ℕ) (hs : List (ℕ × Mode)) → i < s → after s hs ≡ true → after i hs ≡ true
after-trans i s [] l h = refl
after-trans i s (k ∷ hs) l h = grind (arith, nat_tests, after-trans i s hs l)

-- setting a session's mode keeps the holders in order
ascend-lock_in : (s : ℕ) (m : Mode) (hs : List (ℕ × Mode)) → ascend hs ≡ true → ascend (lock_in s m hs) ≡ true
ascend-lock_in s m [] h = refl
ascend-lock_in s m (k ∷ hs) h = let n = after-lock_in k.0 s m hs in let a = after-trans s k.0 hs in grind (arith, nat_tests, ascend-lock_in s m hs, n, a)

-- removing locks keeps all holders after i
after-filter : (i : ℕ) (r : List ℕ) (p : Claim → Bool) (cs : List Claim) → after i (holders r cs) ≡ true → after i (holders r (filter p cs)) ≡ true
after-filter i r p [] h = h
after-filter i r p (c ∷ cs) h = grind (arith, nat_tests, cases_Bool (p c), cases_Bool (same_path c.resource r), after-filter i r p cs)

-- removing locks keeps the holders of a resource in order
ascend-filter : (r : List ℕ) (p : Claim → Bool) (cs : List Claim) → ascend (holders r cs) ≡ true → ascend (holders r (filter p cs)) ≡ true
ascend-filter r p [] h = h
ascend-filter r p (c ∷ cs) h = grind (arith, nat_tests, cases_Bool (p c), cases_Bool (same_path c.resource r), ascend-filter r p cs, after-filter c.session r p cs)

-- removing locks keeps all holders in order
pub ordered-filter : (p : Claim → Bool) (cs : List Claim) → IsOrdered cs → IsOrdered (filter p cs)
ordered-filter p cs h r = ascend-filter r p cs (h r)

-- setting a lock keeps all holders in order
pub ordered-with_lock : (s : ℕ) (r : List ℕ) (m : Mode) (cs : List Claim) → IsOrdered cs → IsOrdered (with_lock s r m cs)
ordered-with_lock s r m cs h x = elim (same_path_tells r x) [
  | inl p ↦ rw (← p.1) (ap ascend (holders-with_lock s r m cs) ∙ ascend-lock_in s m (holders r cs) (h r))
  | inr n ↦ ap ascend (holders-with_lock_path s r x m cs n) ∙ h x
]

-- a session before all these holders is none of them
pub seek-after : (i : ℕ) (hs : List (ℕ × Mode)) → after i hs ≡ true → seek i hs ≡ None
seek-after i [] h = refl
seek-after i (k ∷ hs) h = grind (arith, nat_tests, seek-after i hs)
