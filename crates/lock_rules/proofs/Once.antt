-- A holder, a lock and a request each occur once.
use Rattle.std.proofs.Common.{◌≡◌, ◌≢◌, ℕ, ◌+◌, ◌<◌, ◌≤◌, Bool, true, false, cond, eqb, ◌&&◌, inl, inr, List, [], ◌∷◌, ◌++◌, Some, None, refl, sym, ◌∙◌, ap, arith}
use Rattle.std.specs.List.{All}
use Rattle.std.proofs.lemmas.Bool.Decides.{nat_tests, Decides-eqb}
use Rattle.std.proofs.lemmas.Bool.{and_parts}
use Rattle.std.proofs.lemmas.List.Elements.{All-nil, All-cons}
use Rattle.lock_modes.specs.declared.Mode.{Mode}
use Rattle.lock_tree.specs.Paths.{same_path}
use Rattle.lock_rules.specs.State.{Claim, State, mode_in, holders, claims_of}
use Rattle.lock_rules.specs.Laws.{AreSessionsRising, AreHoldersListed, AreLocksOnce, IsOneRequestEach}
use Rattle.lock_rules.specs.Sound.{IsOnce, IsOrdered, after, ascend, times}
use Rattle.sequential.proofs.Members.{Member, contains-member, member-contains}
use Rattle.lock_rules.proofs.Lists.{seek, seek-after, mode_in-seek, times-append, none-times, eqb-refl, same_path-refl, same_path-true, same_path_tells}

-- the holders of a resource

-- holders in order by the test have rising session numbers
ascend-rising : (hs : List (ℕ × Mode)) → ascend hs ≡ true → AreSessionsRising hs
ascend-rising [] h = tt
ascend-rising (a ∷ []) h = tt
ascend-rising (a ∷ b ∷ hs) h = (grind (arith, nat_tests), ascend-rising (b ∷ hs) (and_parts (after a.0 (b ∷ hs)) (ascend (b ∷ hs)) h).1)

-- a member of a list after i has a number greater than i
after-member : (i u : ℕ) (m : Mode) (hs : List (ℕ × Mode)) → after i hs ≡ true → Member (u, m) hs → i < u
after-member i u m [] h k = absurd k
after-member i u m (a ∷ hs) h k = elim k [
  | inl e ↦ let f = ap (λ (x : ℕ × Mode). x.0) e in grind (arith, nat_tests)
  | inr j ↦ let n = after-member i u m hs in grind (arith, nat_tests, n)
]

-- a holder in an ordered list is found with its mode
member-seek : (u : ℕ) (m : Mode) (hs : List (ℕ × Mode)) → ascend hs ≡ true → Member (u, m) hs → seek u hs ≡ Some m
member-seek u m [] h k = absurd k
member-seek u m (a ∷ hs) h k =
    let p = and_parts (after a.0 hs) (ascend hs) h in
    elim k [
      | inl e ↦ let f : a.0 ≡ u = ap (λ (x : ℕ × Mode). x.0) e in let g : a.1 ≡ m = ap (λ (x : ℕ × Mode). x.1) e in grind (arith, nat_tests)
      | inr j ↦ let n = after-member a.0 u m hs p.0 j in let r = member-seek u m hs p.1 j in grind (arith, nat_tests)
    ]

-- a mode that is found for a session is of a holder in the list
seek-member : (u : ℕ) (m : Mode) (hs : List (ℕ × Mode)) → seek u hs ≡ Some m → Member (u, m) hs
seek-member u m [] h = absurd (cc)
seek-member u m (a ∷ hs) h = go (eqb a.0 u) refl h (seek-member u m hs)
  where
    go : (b : Bool) → eqb a.0 u ≡ b → cond b (Some a.1) (seek u hs) ≡ Some m → (seek u hs ≡ Some m → Member (u, m) hs) → Member (u, m) (a ∷ hs)
    go true e k next = let f : a.0 ≡ u = (Decides-eqb a.0 u).0 e in let g : a.1 ≡ m = cc in inl (λ i. (f i, g i))
    go false e k next = inr (next k)

-- the holders of a resource are exactly the sessions that hold it, in order
pub holders-listed : (st : State) → IsOrdered st.table.held → AreHoldersListed st
holders-listed st o = record {
  rising = λ r. ascend-rising (holders r st.table.held) (o r);
  listed = λ s r m. (
    λ h. mode_in-seek s r st.table.held ∙ member-seek s m (holders r st.table.held) (o r) (contains-member (s, m) (holders r st.table.held) h),
    λ h. member-contains (s, m) (holders r st.table.held) (seek-member s m (holders r st.table.held) (sym (mode_in-seek s r st.table.held) ∙ h)),
  );
}

-- the locks of a session

-- without the first lock the holders are still in order
pub ordered-rest : (c : Claim) (cs : List Claim) → IsOrdered (c ∷ cs) → IsOrdered cs
ordered-rest c cs o r = go (same_path c.resource r) (o r)
  where
    go : (b : Bool) → ascend (cond b ((c.session, c.mode) ∷ holders r cs) (holders r cs)) ≡ true → ascend (holders r cs) ≡ true
    go true h = (and_parts (after c.session (holders r cs)) (ascend (holders r cs)) h).1
    go false h = h

-- behind a lock come only later holders of its resource
pub later-behind : (r : List ℕ) (c : Claim) (cs : List Claim) → IsOrdered (c ∷ cs) → same_path c.resource r ≡ true → after c.session (holders r cs) ≡ true
later-behind r c cs o p =
    let h : ascend ((c.session, c.mode) ∷ holders r cs) ≡ true = ap (λ (b : Bool). ascend (cond b ((c.session, c.mode) ∷ holders r cs) (holders r cs))) (sym p) ∙ o r in
    (and_parts (after c.session (holders r cs)) (ascend (holders r cs)) h).0

-- behind a lock its session has no other on the resource
pub none-behind : (c : Claim) (cs : List Claim) → IsOrdered (c ∷ cs) → mode_in c.session c.resource cs ≡ None
none-behind c cs o = mode_in-seek c.session c.resource cs ∙ seek-after c.session (holders c.resource cs) (later-behind c.resource c cs o (same_path-refl c.resource))

-- the claim is the session's, in the mode in which the session holds its resource
abbrev IsLock : ℕ → Claim → List Claim → Type 0
IsLock s c cs = (c.session ≡ s) × (mode_in s c.resource cs ≡ Some c.mode)

-- a lock among the session's is what it holds
member-lock : (s : ℕ) (c : Claim) (cs : List Claim) → IsOrdered cs → Member c (claims_of s cs) → IsLock s c cs
member-lock s c [] o k = absurd k
member-lock s c (x ∷ cs) o k = go (eqb x.session s) refl k (member-lock s c cs (ordered-rest x cs o)) (none-behind x cs o)
  where
    go : (b : Bool) → eqb x.session s ≡ b → Member c (cond b (x ∷ claims_of s cs) (claims_of s cs)) → (Member c (claims_of s cs) → IsLock s c cs) → mode_in x.session x.resource cs ≡ None → IsLock s c (x ∷ cs)
    go true e (inl f) next n =
        let p : x.session ≡ c.session = ap (λ (y : Claim). y.session) f in
        let q : x.resource ≡ c.resource = ap (λ (y : Claim). y.resource) f in
        let m : x.mode ≡ c.mode = ap (λ (y : Claim). y.mode) f in
        let z : same_path x.resource c.resource ≡ true = ap (same_path x.resource) (sym q) ∙ same_path-refl x.resource in
        (sym p ∙ (Decides-eqb x.session s).0 e, grind (arith, nat_tests))
    go true e (inr j) next n =
        let r = next j in
        let f = (Decides-eqb x.session s).0 e in (
          r.0,
          elim (same_path_tells x.resource c.resource) [
            | inl p ↦ let g = ap (λ (u : ℕ). mode_in u c.resource cs) (sym f) ∙ (ap (λ (y : List ℕ). mode_in x.session y cs) (sym p.1) ∙ n) in let a = r.1 in absurd (cc)
            | inr m ↦ let a = r.1 in grind (arith, nat_tests)
          ],
        )
    go false e j next n = let r = next j in (r.0, let a = r.1 in grind (arith, nat_tests))

-- what a session holds is among its locks
lock-member : (s : ℕ) (c : Claim) (cs : List Claim) → IsLock s c cs → Member c (claims_of s cs)
lock-member s c [] k = let h = k.1 in absurd (cc)
lock-member s c (x ∷ cs) k = go (eqb x.session s) (same_path x.resource c.resource) refl refl k.1 (λ h. lock-member s c cs (k.0, h))
  where
    go : (a b : Bool) → eqb x.session s ≡ a → same_path x.resource c.resource ≡ b → cond (a && b) (Some x.mode) (mode_in s c.resource cs) ≡ Some c.mode
        → (mode_in s c.resource cs ≡ Some c.mode → Member c (claims_of s cs)) → Member c (cond a (x ∷ claims_of s cs) (claims_of s cs))
    go true true e f h next =
        let p : x.session ≡ c.session = (Decides-eqb x.session s).0 e ∙ sym k.0 in
        let q : x.resource ≡ c.resource = same_path-true x.resource c.resource f in
        let m : x.mode ≡ c.mode = cc in
        inl (λ i. record { session = p i; resource = q i; mode = m i })
    go true false e f h next = inr (next h)
    go false b e f h next = next h

-- no two of these claims are on one resource
abbrev AreApart : List Claim → Type 0
AreApart [] = Unit {0}
AreApart (c ∷ cs) = ((d : Claim) → Member d cs → d.resource ≢ c.resource) × AreApart cs

-- no two locks of a session are on one resource
claims-apart : (s : ℕ) (cs : List Claim) → IsOrdered cs → AreApart (claims_of s cs)
claims-apart s [] o = tt
claims-apart s (x ∷ cs) o = go (eqb x.session s) refl (claims-apart s cs (ordered-rest x cs o)) (none-behind x cs o)
  where
    go : (b : Bool) → eqb x.session s ≡ b → AreApart (claims_of s cs) → mode_in x.session x.resource cs ≡ None → AreApart (cond b (x ∷ claims_of s cs) (claims_of s cs))
    go true e next n = (
      λ d k f.
          let a = (member-lock s d cs (ordered-rest x cs o) k).1 in
          let g = ap (λ (u : ℕ). mode_in u d.resource cs) (sym ((Decides-eqb x.session s).0 e)) ∙ (ap (λ (y : List ℕ). mode_in x.session y cs) f ∙ n) in
          absurd (cc),
      next,
    )
    go false e next n = next

-- the element between two parts of a list is a member of it
member-append : (front rest : List Claim) (c : Claim) → Member c (front ++ c ∷ rest)
member-append [] rest c = inl refl
member-append (x ∷ front) rest c = inr (member-append front rest c)

-- if no two claims are on one resource, each is on another than all the others
apart-others : (front rest : List Claim) (c : Claim) → AreApart (front ++ c ∷ rest) → All (λ (d : Claim). d.resource ≢ c.resource) (front ++ rest)
apart-others front rest c h = all (front ++ rest) (λ d k. others front h d k)
  where
    others : (xs : List Claim) → AreApart (xs ++ c ∷ rest) → (d : Claim) → Member d (xs ++ rest) → d.resource ≢ c.resource
    others [] h d k = h.0 d k
    others (x ∷ xs) h d (inl e) = λ f. h.0 c (member-append xs rest c) (sym (ap (λ (y : Claim). y.resource) e ∙ f))
    others (x ∷ xs) h d (inr j) = others xs h.1 d j

    all : (xs : List Claim) → ((d : Claim) → Member d xs → d.resource ≢ c.resource) → All (λ (d : Claim). d.resource ≢ c.resource) xs
    all [] h = All-nil (λ (d : Claim). d.resource ≢ c.resource)
    all (x ∷ xs) h = All-cons (λ (d : Claim). d.resource ≢ c.resource) x xs (h x (inl refl)) (all xs (λ d k. h d (inr k)))

-- the locks of a session are exactly what it holds, each once
pub locks-once : (st : State) → IsOrdered st.table.held → AreLocksOnce st
locks-once st o = record {
  once = λ s front rest c e. apart-others front rest c (rw (← e) (claims-apart s st.table.held o));
  listed = λ s c. (
    λ h. member-lock s c st.table.held o (contains-member c (claims_of s st.table.held) h),
    λ h. member-contains c (claims_of s st.table.held) (lock-member s c st.table.held h),
  );
}

-- requests

-- no session has two waiting requests
pub one-request : (st : State) → IsOnce st.table.requests → IsOneRequestEach st
one-request st o front rest q e =
    let n : times q.session (front ++ q ∷ rest) ≤ 1 = rw (← e) (o q.session) in
    let own : times q.session (q ∷ rest) ≡ 1 + times q.session rest = ap (λ (b : Bool). cond b 1 0 + times q.session rest) (eqb-refl q.session) in
    none-times q.session (front ++ rest) (omega (arith, n, own, times-append q.session front rest, times-append q.session front (q ∷ rest)))
