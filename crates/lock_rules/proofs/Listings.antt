-- A listing shows the lock table: its resources in order, each lock that is held and each request that waits.
use Rattle.std.proofs.Common.{◌≡◌, ◌≢◌, ℕ, Bool, true, false, cond, not, eqb, ◌&&◌, ◌||◌, ◌⊎◌, inl, inr, List, [], ◌∷◌, ◌++◌, map, Option, Some, None, is_some, Contains, refl, sym, ◌∙◌, ap, subst}
use Rattle.std.specs.Prelude.{filter}
use Rattle.std.specs.List.{flat_map, list_any, AllByRecursion}
use Rattle.std.specs.List.Sorted.{IsStrictlySortedBy}
use Rattle.std.specs.declared.cmp.Ordering.TheVariants.{Less}
use Rattle.std.proofs.Math.Bool.{and-false}
use Rattle.std.proofs.lemmas.Bool.{and_parts, and_from, not-true, or_parts}
use Rattle.std.proofs.lemmas.List.{append-nil}
use Rattle.std.proofs.lemmas.List.Elements.{filter-append}
use Rattle.std.proofs.lemmas.List.Folds.{list_any-append}
use Rattle.lock_modes.specs.declared.Mode.{Mode}
use Rattle.lock_tree.specs.Paths.{path_cmp, same_path}
use Rattle.lock_rules.specs.Entries.{Entry}
use Rattle.lock_rules.specs.declared.calls.Transaction.{Transaction}
use Rattle.lock_rules.specs.declared.listing.Claim.{Claim as ListedClaim}
use Rattle.lock_rules.specs.declared.listing.ClaimKind.{ClaimKind}
use Rattle.lock_rules.specs.declared.listing.ClaimKind.TheVariants.{Held, Conversion, Fresh}
use Rattle.lock_rules.specs.State.{Claim, State, mode_in, held_mode, holders, request_of, is_open, number_in, doomed_in}
use Rattle.lock_rules.specs.Queue.{conversions, fresh_requests}
use Rattle.lock_rules.specs.Legal.{state_of}
use Rattle.lock_rules.specs.Laws.{AreHoldersListed, AreOwnersOpen}
use Rattle.lock_rules.specs.Sound.{IsOnce}
use Rattle.lock_rules.specs.Listing.{comes_before, resources_of, transaction_of, listed_as, listed_on, listing_of, kind_of_request, listed_request, waiting_line, listed_resources, HasClaimOn, lock_line, DoesListingShow}
use Rattle.lock_rules.proofs.Lists.{same_path-refl, same_path-true, same_path_tells, eqb-refl, In, In-filter, In-request}
use Rattle.sequential.proofs.Members.{Member, contains-member, member-contains}
use Rattle.lock_rules.proofs.ResourceOrder.{contrary, rise, precedes, is_among, less-tells, before-all, not-behind, has-with, rise-with}
use Rattle.lock_rules.proofs.Steps.{state-lawful}
use Rattle.lock_rules.proofs.Lawful.{lawful}

-- either test, if the second passes
pub or-true : (b : Bool) → (b || true) ≡ true
or-true true = refl
or-true false = refl

-- members of lists

-- a member of one of two lists is a member of both together
member-left : {A : Type 0} (a : A) (xs ys : List A) → Member a xs → Member a (xs ++ ys)
member-left a [] ys h = absurd h
member-left a (x ∷ xs) ys h = elim h [ inl e ↦ inl e | inr i ↦ inr (member-left a xs ys i) ]

member-right : {A : Type 0} (a : A) (xs ys : List A) → Member a ys → Member a (xs ++ ys)
member-right a [] ys h = h
member-right a (x ∷ xs) ys h = inr (member-right a xs ys h)

-- and a member of both together is one of either
member-either : {A : Type 0} (a : A) (xs ys : List A) → Member a (xs ++ ys) → Member a xs ⊎ Member a ys
member-either a [] ys h = inr h
member-either a (x ∷ xs) ys h = elim h [ inl e ↦ inl (inl e) | inr i ↦ elim (member-either a xs ys i) [ inl j ↦ inl (inr j) | inr j ↦ inr j ] ]

-- what a member is mapped to is a member
member-map : {A B : Type 0} (f : A → B) (a : A) (xs : List A) → Member a xs → Member (f a) (map f xs)
member-map f a [] h = absurd h
member-map f a (x ∷ xs) h = elim h [ inl e ↦ inl (ap f e) | inr i ↦ inr (member-map f a xs i) ]

-- and each member of the mapped list comes from one
member-from : {A B : Type 0} (f : A → B) (b : B) (xs : List A) → Member b (map f xs) → (a : A) × Member a xs × (f a ≡ b)
member-from f b [] h = absurd h
member-from f b (x ∷ xs) h = elim h [ inl e ↦ (x, inl refl, e) | inr i ↦ let r = member-from f b xs i in (r.0, inr r.1, r.2) ]

-- a member that passes the test is kept
member-kept : {A : Type 0} (p : A → Bool) (a : A) (xs : List A) → Member a xs → p a ≡ true → Member a (filter p xs)
member-kept p a [] h k = absurd h
member-kept p a (x ∷ xs) h k = go (p x) refl (member-kept p a xs)
  where
    go : (b : Bool) → p x ≡ b → (Member a xs → p a ≡ true → Member a (filter p xs)) → Member a (cond b (x ∷ filter p xs) (filter p xs))
    go true e next = elim h [ inl f ↦ inl f | inr i ↦ inr (next i k) ]
    go false e next = elim h [ inl f ↦ absurd (contrary (p a) k (sym (ap p f) ∙ e)) | inr i ↦ next i k ]

-- what is kept was a member
kept-member : {A : Type 0} (p : A → Bool) (a : A) (xs : List A) → Member a (filter p xs) → Member a xs
kept-member p a [] h = absurd h
kept-member p a (x ∷ xs) h = go (p x) h (kept-member p a xs)
  where
    go : (b : Bool) → Member a (cond b (x ∷ filter p xs) (filter p xs)) → (Member a (filter p xs) → Member a xs) → Member a (x ∷ xs)
    go true h next = elim h [ inl e ↦ inl e | inr i ↦ inr (next i) ]
    go false h next = inr (next h)

-- a member of a list of claims, in the words of the other proofs
member-in : (q : Claim) (qs : List Claim) → Member q qs → In q qs
member-in q [] h = absurd h
member-in q (x ∷ qs) h = elim h [ inl e ↦ inl (sym e) | inr i ↦ inr (member-in q qs i) ]

in-member : (q : Claim) (qs : List Claim) → In q qs → Member q qs
in-member q [] h = absurd h
in-member q (x ∷ qs) h = elim h [ inl e ↦ inl (sym e) | inr i ↦ inr (in-member q qs i) ]

-- the resources of the listing

-- a resource that the test finds is a member
among-member : (r : List ℕ) (rs : List (List ℕ)) → is_among r rs ≡ true → Member r rs
among-member r [] h = absurd (cc)
among-member r (x ∷ rs) h = elim (same_path_tells x r) [
  | inl e ↦ inl e.1
  | inr n ↦ inr (among-member r rs (sym (ap (λ (b : Bool). b || is_among r rs) n) ∙ h))
]

-- and the test finds each member
member-among : (r : List ℕ) (rs : List (List ℕ)) → Member r rs → is_among r rs ≡ true
member-among r [] h = absurd h
member-among r (x ∷ rs) h = elim h [
  | inl e ↦ ap (λ (b : Bool). b || is_among r rs) (ap (λ (z : List ℕ). same_path z r) e ∙ same_path-refl r)
  | inr i ↦ ap (λ (b : Bool). same_path x r || b) (member-among r rs i) ∙ or-true (same_path x r)
]

-- the resources of some claims rise
pub rise-resources : (cs : List Claim) → rise (resources_of cs) ≡ true
rise-resources [] = refl
rise-resources (c ∷ cs) = rise-with c.resource (resources_of cs) (rise-resources cs)

-- a resource is among them exactly if one of the claims is on it
pub among-resources : (r : List ℕ) (cs : List Claim) → is_among r (resources_of cs) ≡ list_any (λ c. same_path c.resource r) cs
among-resources r [] = refl
among-resources r (c ∷ cs) = has-with r c.resource (resources_of cs) ∙ ap (λ (b : Bool). same_path c.resource r || b) (among-resources r cs)

-- lists that rise are strictly sorted

-- what comes before each of a list is less than each
all-less : (r : List ℕ) (rs : List (List ℕ)) → ((q : List ℕ) → is_among q rs ≡ true → comes_before r q ≡ true) → AllByRecursion (λ q. path_cmp r q ≡ Less) rs
all-less r [] h = tt
all-less r (x ∷ rs) h = (less-tells (path_cmp r x) (h x (member-among x (x ∷ rs) (inl refl))), all-less r rs (λ q k. h q (member-among q (x ∷ rs) (inr (among-member q rs k)))))

sorted-rising : (rs : List (List ℕ)) → rise rs ≡ true → IsStrictlySortedBy path_cmp rs
unfolding IsStrictlySortedBy
sorted-rising [] h = tt
sorted-rising (r ∷ rs) h = let p = and_parts (precedes r rs) (rise rs) h in (all-less r rs (λ q k. before-all r rs q p.0 p.1 k), sorted-rising rs p.1)

-- claims on a resource

-- a resource of a lock is held by the lock's session
lock-held : (r : List ℕ) (cs : List Claim) → list_any (λ c. same_path c.resource r) cs ≡ true → (s : ℕ) × (m : Mode) × (mode_in s r cs ≡ Some m)
lock-held r [] h = absurd (cc)
lock-held r (c ∷ cs) h = go (same_path c.resource r) refl h (lock-held r cs)
  where
    go : (b : Bool) → same_path c.resource r ≡ b → (b || list_any (λ c. same_path c.resource r) cs) ≡ true → (list_any (λ c. same_path c.resource r) cs ≡ true → (s : ℕ) × (m : Mode) × (mode_in s r cs ≡ Some m))
        → (s : ℕ) × (m : Mode) × (mode_in s r (c ∷ cs) ≡ Some m)
    go true e h next = (c.session, c.mode, ap (λ (b : Bool). cond b (Some c.mode) (mode_in c.session r cs)) (and_from (eqb c.session c.session) (same_path c.resource r) (eqb-refl c.session) e))
    go false e h next = let k = next h in (k.0, k.1, ap (λ (b : Bool). cond b (Some c.mode) (mode_in k.0 r cs)) (ap (λ (b : Bool). eqb c.session k.0 && b) e ∙ and-false (eqb c.session k.0)) ∙ k.2)

-- a resource that a session holds is that of a lock
held-lock : (s : ℕ) (r : List ℕ) (m : Mode) (cs : List Claim) → mode_in s r cs ≡ Some m → list_any (λ c. same_path c.resource r) cs ≡ true
held-lock s r m [] h = absurd (cc)
held-lock s r m (c ∷ cs) h = go (eqb c.session s) (same_path c.resource r) h (held-lock s r m cs)
  where
    go : (a b : Bool) → cond (a && b) (Some c.mode) (mode_in s r cs) ≡ Some m → (mode_in s r cs ≡ Some m → list_any (λ c. same_path c.resource r) cs ≡ true) → (b || list_any (λ c. same_path c.resource r) cs) ≡ true
    go a true h next = refl
    go true false h next = next h
    go false false h next = next h

-- a resource of a request is waited for
request-there : (r : List ℕ) (qs : List Claim) → list_any (λ q. same_path q.resource r) qs ≡ true → (q : Claim) × In q qs × (q.resource ≡ r)
request-there r [] h = absurd (cc)
request-there r (q ∷ qs) h = elim (same_path_tells q.resource r) [
  | inl e ↦ (q, inl refl, e.1)
  | inr n ↦ let k = request-there r qs (sym (ap (λ (b : Bool). b || list_any (λ q. same_path q.resource r) qs) n) ∙ h) in (k.0, inr k.1, k.2)
]

-- and a request in the list is for a resource of a request
there-request : (q : Claim) (qs : List Claim) → In q qs → list_any (λ x. same_path x.resource q.resource) qs ≡ true
there-request q [] h = absurd h
there-request q (x ∷ qs) h = elim h [
  | inl e ↦ ap (λ (b : Bool). b || list_any (λ x. same_path x.resource q.resource) qs) (ap (λ (z : Claim). same_path z.resource q.resource) (sym e) ∙ same_path-refl q.resource)
  | inr i ↦ ap (λ (b : Bool). same_path x.resource q.resource || b) (there-request q qs i) ∙ or-true (same_path x.resource q.resource)
]

-- the request of a session is in the list
pub request-in : (s : ℕ) (qs : List Claim) (q : Claim) → request_of s qs ≡ Some q → In q qs
request-in s [] q h = absurd (cc)
request-in s (p ∷ qs) q h = go (eqb p.session s) h (request-in s qs q)
  where
    go : (b : Bool) → cond b (Some p) (request_of s qs) ≡ Some q → (request_of s qs ≡ Some q → In q qs) → In q (p ∷ qs)
    go true h next = let same : p ≡ q = cc in inl (sym same)
    go false h next = inr (next h)

-- a request is no lock
no-lock : (b : Bool) → cond b Conversion Fresh ≡ Held → ⊥
no-lock true e = cc
no-lock false e = cc

-- the line is the lock of one of the resource's holders
record IsLockLine (st : State) (r : List ℕ) (l : ListedClaim) : Type 0 where
  holder : ℕ × Mode
  there : Member holder (holders r st.table.held)
  is : lock_line st holder.0 r holder.1 ≡ l

-- the line is a request for the resource
record IsRequestLine (st : State) (r : List ℕ) (l : ListedClaim) : Type 0 where
  request : Claim
  there : In request st.table.requests
  resource : request.resource ≡ r
  is : listed_as st (kind_of_request st request) request ≡ l

-- lines of one resource

-- the lines of its holders, of its conversions and of its fresh requests
abbrev lock_lines : State → List ℕ → List ListedClaim
lock_lines st r = map (λ h. lock_line st h.0 r h.1) (holders r st.table.held)

abbrev conversion_lines : State → List ℕ → List ListedClaim
conversion_lines st r = map (listed_as st Conversion) (conversions st.table r)

abbrev fresh_lines : State → List ℕ → List ListedClaim
fresh_lines st r = map (listed_as st Fresh) (fresh_requests st.table r)

-- a resource without a lock has no holders
no-holders : (r : List ℕ) (cs : List Claim) → list_any (λ c. same_path c.resource r) cs ≡ false → holders r cs ≡ []
no-holders r [] h = refl
no-holders r (c ∷ cs) h = go (same_path c.resource r) h (no-holders r cs)
  where
    go : (b : Bool) → (b || list_any (λ c. same_path c.resource r) cs) ≡ false → (list_any (λ c. same_path c.resource r) cs ≡ false → holders r cs ≡ []) → cond b ((c.session, c.mode) ∷ holders r cs) (holders r cs) ≡ []
    go true h next = absurd (cc)
    go false h next = next h

-- a resource without a request has none that passes a test
no-requests : (r : List ℕ) (f : Claim → Bool) (qs : List Claim) → list_any (λ q. same_path q.resource r) qs ≡ false → filter (λ q. same_path q.resource r && f q) qs ≡ []
no-requests r f [] h = refl
no-requests r f (q ∷ qs) h = go (same_path q.resource r) h (no-requests r f qs)
  where
    go : (b : Bool) → (b || list_any (λ q. same_path q.resource r) qs) ≡ false → (list_any (λ q. same_path q.resource r) qs ≡ false → filter (λ q. same_path q.resource r && f q) qs ≡ [])
        → cond (b && f q) (q ∷ filter (λ q. same_path q.resource r && f q) qs) (filter (λ q. same_path q.resource r && f q) qs) ≡ []
    go true h next = absurd (cc)
    go false h next = next h

-- a line is on resource `r`
abbrev is_on : List ℕ → ListedClaim → Bool
is_on r l = same_path l.resource r

-- lines that pass the test alike are all kept, or none
kept-alike : {A : Type 0} (f : A → ListedClaim) (p : ListedClaim → Bool) (b : Bool) → ((a : A) → p (f a) ≡ b) → (xs : List A) → filter p (map f xs) ≡ cond b (map f xs) []
kept-alike f p true each [] = refl
kept-alike f p false each [] = refl
kept-alike f p true each (x ∷ xs) = ap (λ (k : Bool). cond k (f x ∷ filter p (map f xs)) (filter p (map f xs))) (each x) ∙ ap (λ (ls : List ListedClaim). f x ∷ ls) (kept-alike f p true each xs)
kept-alike f p false each (x ∷ xs) = ap (λ (k : Bool). cond k (f x ∷ filter p (map f xs)) (filter p (map f xs))) (each x) ∙ kept-alike f p false each xs

-- the same of lines of requests that pass a test
kept-tested : (f : Claim → ListedClaim) (g : Claim → Bool) (p : ListedClaim → Bool) (b : Bool) → ((q : Claim) → g q ≡ true → p (f q) ≡ b) → (qs : List Claim) → filter p (map f (filter g qs)) ≡ cond b (map f (filter g qs)) []
kept-tested f g p true each [] = refl
kept-tested f g p false each [] = refl
kept-tested f g p b each (q ∷ qs) = go b (g q) refl each (kept-tested f g p b each qs)
  where
    go : (b k : Bool) → g q ≡ k → ((q : Claim) → g q ≡ true → p (f q) ≡ b) → filter p (map f (filter g qs)) ≡ cond b (map f (filter g qs)) []
        → filter p (map f (cond k (q ∷ filter g qs) (filter g qs))) ≡ cond b (map f (cond k (q ∷ filter g qs) (filter g qs))) []
    go true true e each next = ap (λ (k : Bool). cond k (f q ∷ filter p (map f (filter g qs))) (filter p (map f (filter g qs)))) (each q e) ∙ ap (λ (ls : List ListedClaim). f q ∷ ls) next
    go false true e each next = ap (λ (k : Bool). cond k (f q ∷ filter p (map f (filter g qs))) (filter p (map f (filter g qs)))) (each q e) ∙ next
    go b false e each next = next

module _ (st : State) where
  -- the lines of a resource are on it
  on-lines : (r x : List ℕ) → filter (is_on r) (listed_on st x) ≡ cond (same_path x r) (listed_on st x) []
  on-lines r x =
      filter-append (is_on r) (lock_lines st x ++ conversion_lines st x) (fresh_lines st x)
      ∙ (ap (λ (ls : List ListedClaim). ls ++ filter (is_on r) (fresh_lines st x)) (filter-append (is_on r) (lock_lines st x) (conversion_lines st x))
      ∙ ((λ i. (one i ++ two i) ++ three i) ∙ all (same_path x r)))
    where
      on : (q : Claim) (b : Bool) → (same_path q.resource x && b) ≡ true → same_path q.resource r ≡ same_path x r
      on q b e = ap (λ (z : List ℕ). same_path z r) (same_path-true q.resource x (and_parts (same_path q.resource x) b e).0)

      one : filter (is_on r) (lock_lines st x) ≡ cond (same_path x r) (lock_lines st x) []
      one = kept-alike (λ h. listed_as st Held (record { session = h.0; resource = x; mode = h.1 })) (is_on r) (same_path x r) (λ h. refl) (holders x st.table.held)

      two : filter (is_on r) (conversion_lines st x) ≡ cond (same_path x r) (conversion_lines st x) []
      two = kept-tested (listed_as st Conversion) _ (is_on r) (same_path x r) (λ q e. on q (is_some (held_mode st.table q.session x)) e) st.table.requests

      three : filter (is_on r) (fresh_lines st x) ≡ cond (same_path x r) (fresh_lines st x) []
      three = kept-tested (listed_as st Fresh) _ (is_on r) (same_path x r) (λ q e. on q (not (is_some (held_mode st.table q.session x))) e) st.table.requests

      all : (b : Bool) → ((cond b (lock_lines st x) [] ++ cond b (conversion_lines st x) []) ++ cond b (fresh_lines st x) []) ≡ cond b ((lock_lines st x ++ conversion_lines st x) ++ fresh_lines st x) []
      all true = refl
      all false = refl

  -- of the lines of many resources those on one are kept
  on-all : (r : List ℕ) (rs : List (List ℕ)) → filter (is_on r) (flat_map (listed_on st) rs) ≡ flat_map (λ x. cond (same_path x r) (listed_on st x) []) rs
  on-all r [] = refl
  on-all r (x ∷ rs) = filter-append (is_on r) (listed_on st x) (flat_map (listed_on st) rs) ∙ (λ i. on-lines r x i ++ on-all r rs i)

  -- and if the resources rise, they are its own lines
  on-one : (r : List ℕ) (rs : List (List ℕ)) → rise rs ≡ true → flat_map (λ x. cond (same_path x r) (listed_on st x) []) rs ≡ cond (is_among r rs) (listed_on st r) []
  on-one r [] h = refl
  on-one r (x ∷ rs) h =
      let p = and_parts (precedes x rs) (rise rs) h in
      let next = on-one r rs p.1 in
      elim (same_path_tells x r) [
        | inl e ↦ (let gone : is_among r rs ≡ false = ap (λ (z : List ℕ). is_among z rs) (sym e.1) ∙ not-behind x rs p.0 p.1 in
            (λ i. cond (e.0 i) (listed_on st x) [] ++ (next ∙ ap (λ (b : Bool). cond b (listed_on st r) []) gone) i)
            ∙ (append-nil (listed_on st x) ∙ (ap (listed_on st) e.1 ∙ sym (ap (λ (b : Bool). cond (b || is_among r rs) (listed_on st r) []) e.0))))
        | inr n ↦ (λ i. cond (n i) (listed_on st x) [] ++ next i) ∙ sym (ap (λ (b : Bool). cond (b || is_among r rs) (listed_on st r) []) n)
      ]

  -- a resource that isn't listed has no lines
  no-lines : (r : List ℕ) → is_among r (listed_resources st) ≡ false → listed_on st r ≡ []
  no-lines r h =
      let both : (list_any (λ c. same_path c.resource r) st.table.held || list_any (λ c. same_path c.resource r) st.table.requests) ≡ false =
      sym (list_any-append (λ (c : Claim). same_path c.resource r) st.table.held st.table.requests) ∙ (sym (among-resources r (st.table.held ++ st.table.requests)) ∙ h) in
      let k = or_parts _ _ both in
      λ i. (map (λ h. listed_as st Held (record { session = h.0; resource = r; mode = h.1 })) (no-holders r st.table.held k.0 i)
      ++ map (listed_as st Conversion) (no-requests r (λ q. is_some (held_mode st.table q.session r)) st.table.requests k.1 i))
      ++ map (listed_as st Fresh) (no-requests r (λ q. not (is_some (held_mode st.table q.session r))) st.table.requests k.1 i)

  -- the lines of the listing on a resource are its own lines
  lines-of : (r : List ℕ) → filter (is_on r) (listing_of st) ≡ listed_on st r
  lines-of r = on-all r (listed_resources st) ∙ (on-one r (listed_resources st) (rise-resources (st.table.held ++ st.table.requests)) ∙ go (is_among r (listed_resources st)) refl)
    where
      go : (b : Bool) → is_among r (listed_resources st) ≡ b → cond b (listed_on st r) [] ≡ listed_on st r
      go true e = refl
      go false e = sym (no-lines r e)

  -- a line is in the listing exactly if it is one of its resource
  listing-line : (l : ListedClaim) → Contains (listing_of st) l → Member l (listed_on st l.resource)
  listing-line l h = subst (Member l) (lines-of l.resource) (member-kept (is_on l.resource) l (listing_of st) (contains-member l (listing_of st) h) (same_path-refl l.resource))

  line-listing : (l : ListedClaim) → Member l (listed_on st l.resource) → Contains (listing_of st) l
  line-listing l h = member-contains l (listing_of st) (kept-member (is_on l.resource) l (listing_of st) (subst (Member l) (sym (lines-of l.resource)) h))

  -- a request that is listed in this kind, and that has this kind
  asked : (r : List ℕ) (f : Claim → Bool) (kind : ClaimKind) → ((q : Claim) → q.resource ≡ r → f q ≡ true → kind_of_request st q ≡ kind)
      → (q : Claim) (l : ListedClaim) → Member q (filter (λ x. same_path x.resource r && f x) st.table.requests) → listed_as st kind q ≡ l → IsRequestLine st r l
  asked r f kind each q l h is =
      let i = In-filter (λ (x : Claim). same_path x.resource r && f x) q st.table.requests (member-in q _ h) in
      let k = and_parts (same_path q.resource r) (f q) i.1 in
      let e = same_path-true q.resource r k.0 in
      record { request = q; there = i.0; resource = e; is = ap (λ (x : ClaimKind). listed_as st x q) (each q e k.1) ∙ is }

  -- the kind of a request for a resource
  kind-there : (r : List ℕ) (b : Bool) (q : Claim) → q.resource ≡ r → is_some (held_mode st.table q.session r) ≡ b → kind_of_request st q ≡ cond b Conversion Fresh
  kind-there r b q e k = ap (λ (z : List ℕ). cond (is_some (held_mode st.table q.session z)) Conversion Fresh) e ∙ ap (λ (x : Bool). cond x Conversion Fresh) k

  -- a line of a resource is a lock of a holder or a request of the queue
  line-is : (r : List ℕ) (l : ListedClaim) → Member l (listed_on st r) → IsLockLine st r l ⊎ IsRequestLine st r l
  line-is r l h = elim (member-either l (lock_lines st r ++ conversion_lines st r) (fresh_lines st r) h) [
    | inl i ↦ elim (member-either l (lock_lines st r) (conversion_lines st r) i) [
      | inl j ↦ (let p = member-from (λ (h : ℕ × Mode). lock_line st h.0 r h.1) l (holders r st.table.held) j in inl (record { holder = p.0; there = p.1; is = p.2 }))
      | inr j ↦ (let q = member-from (listed_as st Conversion) l (conversions st.table r) j in
          inr (asked r (λ x. is_some (held_mode st.table x.session r)) Conversion (kind-there r true) q.0 l q.1 q.2))
    ]
    | inr i ↦ (let q = member-from (listed_as st Fresh) l (fresh_requests st.table r) i in
        inr (asked r (λ x. not (is_some (held_mode st.table x.session r))) Fresh (λ x e k. kind-there r false x e (not-true _ k)) q.0 l q.1 q.2))
  ]

  -- a holder's lock is a line of the resource
  lock-line : (s : ℕ) (r : List ℕ) (m : Mode) → Member (s, m) (holders r st.table.held) → Member (lock_line st s r m) (listed_on st r)
  lock-line s r m h =
      member-left (lock_line st s r m) (lock_lines st r ++ conversion_lines st r) (fresh_lines st r) (member-left (lock_line st s r m) (lock_lines st r) (conversion_lines st r) (member-map (λ (h : ℕ × Mode). lock_line st h.0 r h.1) (s, m) (holders r st.table.held) h))

  -- a request is a line of its resource
  request-line : (q : Claim) → In q st.table.requests → Member (listed_as st (kind_of_request st q) q) (listed_on st q.resource)
  request-line q h = go (is_some (held_mode st.table q.session q.resource)) refl
    where
      r : List ℕ
      r = q.resource

      go : (b : Bool) → is_some (held_mode st.table q.session r) ≡ b → Member (listed_as st (cond b Conversion Fresh) q) (listed_on st r)
      go true e = member-left _ (lock_lines st r ++ conversion_lines st r) (fresh_lines st r) (member-right _ (lock_lines st r) (conversion_lines st r) (member-map (listed_as st Conversion) q (conversions st.table r)
          (member-kept (λ x. same_path x.resource r && is_some (held_mode st.table x.session r)) q st.table.requests (in-member q st.table.requests h) (and_from (same_path r r) (is_some (held_mode st.table q.session r)) (same_path-refl r) e))))
      go false e = member-right _ (lock_lines st r ++ conversion_lines st r) (fresh_lines st r) (member-map (listed_as st Fresh) q (fresh_requests st.table r)
          (member-kept (λ x. same_path x.resource r && not (is_some (held_mode st.table x.session r))) q st.table.requests (in-member q st.table.requests h) (and_from (same_path r r) (not (is_some (held_mode st.table q.session r))) (same_path-refl r) (ap not e))))

  -- an open transaction is what a listing shows of its session
  open-shown : (s : ℕ) → is_open st s ≡ true → st.begun s ≡ Some (transaction_of st s)
  open-shown s h = go (st.begun s) refl
    where
      go : (o : Option Transaction) → st.begun s ≡ o → st.begun s ≡ Some (transaction_of st s)
      go None e = absurd (contrary (is_open st s) h (ap is_some e))
      go (Some x) e = e ∙ sym (ap (λ (o : Option Transaction). Some (record { number = number_in o; doomed = doomed_in o })) e)

  module _ (once : IsOnce st.table.requests) (holding : AreHoldersListed st) (owners : AreOwnersOpen st) where
    -- a request in the list is its session's
    own-request : (q : Claim) → In q st.table.requests → request_of q.session st.table.requests ≡ Some q
    own-request q h = In-request q st.table.requests (once q.session) h

    -- a resource is listed exactly if somebody holds it or waits for it
    listed-claim : (r : List ℕ) → Contains (listed_resources st) r → (s : ℕ) × HasClaimOn st s r
    listed-claim r h = go (list_any (λ c. same_path c.resource r) st.table.held) refl
        (sym (list_any-append (λ (c : Claim). same_path c.resource r) st.table.held st.table.requests) ∙ (sym (among-resources r (st.table.held ++ st.table.requests)) ∙ member-among r (listed_resources st) (contains-member r (listed_resources st) h)))
      where
        go : (b : Bool) → list_any (λ c. same_path c.resource r) st.table.held ≡ b → (list_any (λ c. same_path c.resource r) st.table.held || list_any (λ c. same_path c.resource r) st.table.requests) ≡ true → (s : ℕ) × HasClaimOn st s r
        go true e k = let f = lock-held r st.table.held e in (f.0, inl (f.1, f.2))
        go false e k =
            let f = request-there r st.table.requests (sym (ap (λ (b : Bool). b || list_any (λ c. same_path c.resource r) st.table.requests) e) ∙ k) in
            (f.0.session, inr (f.0, own-request f.0 f.1, f.2))

    claim-listed : (r : List ℕ) → (s : ℕ) × HasClaimOn st s r → Contains (listed_resources st) r
    claim-listed r h = member-contains r (listed_resources st) (among-member r (listed_resources st) (among-resources r (st.table.held ++ st.table.requests)
        ∙ (list_any-append (λ (c : Claim). same_path c.resource r) st.table.held st.table.requests ∙ elim h.1 [
          | inl k ↦ ap (λ (b : Bool). b || list_any (λ c. same_path c.resource r) st.table.requests) (held-lock h.0 r k.0 st.table.held k.1)
          | inr k ↦ (let i = request-in h.0 st.table.requests k.0 k.1 in
              let e = ap (λ (z : List ℕ). list_any (λ c. same_path c.resource z) st.table.requests) (sym k.2) ∙ there-request k.0 st.table.requests i in
              ap (λ (b : Bool). list_any (λ c. same_path c.resource r) st.table.held || b) e ∙ or-true (list_any (λ c. same_path c.resource r) st.table.held))
        ])))

    -- a lock is listed exactly if it is held
    listed-lock : (s : ℕ) (r : List ℕ) (m : Mode) → Contains (listing_of st) (lock_line st s r m) → held_mode st.table s r ≡ Some m
    listed-lock s r m h = elim (line-is r (lock_line st s r m) (listing-line (lock_line st s r m) h)) [
      | inl k ↦ (let session = ap (λ (l : ListedClaim). l.session) k.is in
          let mode = ap (λ (l : ListedClaim). l.mode) k.is in
          (holding.listed s r m).0 (member-contains (s, m) (holders r st.table.held) (subst (λ (h : ℕ × Mode). Member h (holders r st.table.held)) (λ i. (session i, mode i)) k.there)))
      | inr k ↦ absurd (no-lock (is_some (held_mode st.table k.request.session k.request.resource)) (ap (λ (l : ListedClaim). l.kind) k.is))
    ]

    lock-listed : (s : ℕ) (r : List ℕ) (m : Mode) → held_mode st.table s r ≡ Some m → Contains (listing_of st) (lock_line st s r m)
    lock-listed s r m h = line-listing (lock_line st s r m) (lock-line s r m (contains-member (s, m) (holders r st.table.held) ((holding.listed s r m).1 h)))

    -- any other line is listed exactly if it is the waiting request of its session
    listed-request_line : (l : ListedClaim) → l.kind ≢ Held → Contains (listing_of st) l → waiting_line st l.session ≡ Some l
    listed-request_line l n h = elim (line-is l.resource l (listing-line l h)) [
      | inl k ↦ absurd (n (sym (ap (λ (x : ListedClaim). x.kind) k.is)))
      | inr k ↦ subst (λ (x : ListedClaim). waiting_line st x.session ≡ Some x) k.is (ap (listed_request st) (own-request k.request k.there))
    ]

    request-listed : (l : ListedClaim) → waiting_line st l.session ≡ Some l → Contains (listing_of st) l
    request-listed l h = go (request_of l.session st.table.requests) refl h
      where
        go : (o : Option Claim) → request_of l.session st.table.requests ≡ o → listed_request st o ≡ Some l → Contains (listing_of st) l
        go None e k = absurd (cc)
        go (Some q) e k =
            let same : listed_as st (kind_of_request st q) q ≡ l = cc in
            subst (Contains (listing_of st)) same (line-listing (listed_as st (kind_of_request st q) q) (request-line q (request-in l.session st.table.requests q e)))

    -- each line has the open transaction of its session
    line-open : (l : ListedClaim) → Contains (listing_of st) l → st.begun l.session ≡ Some l.transaction
    line-open l h = elim (line-is l.resource l (listing-line l h)) [
      | inl k ↦ subst (λ (x : ListedClaim). st.begun x.session ≡ Some x.transaction) k.is
          (open-shown k.holder.0 (owners k.holder.0 (inl (l.resource, k.holder.1, (holding.listed k.holder.0 l.resource k.holder.1).0 (member-contains k.holder (holders l.resource st.table.held) k.there)))))
      | inr k ↦ subst (λ (x : ListedClaim). st.begun x.session ≡ Some x.transaction) k.is
          (open-shown k.request.session (owners k.request.session (inr (k.request, own-request k.request k.there))))
    ]

-- the listing of each state that a history leads to shows its lock table
pub listing-shows : (es : List Entry) → DoesListingShow (state_of es)
listing-shows es =
    let st = state_of es in
    let once = (state-lawful es).sound.once in
    let holding = (lawful es).holders_listed in
    let owners = (lawful es).owners_open in
    record {
      rising = sorted-rising (listed_resources st) (rise-resources (st.table.held ++ st.table.requests));
      listed = λ r. (listed-claim st once holding owners r, claim-listed st once holding owners r);
      lines = lines-of st;
      locks = λ s r m. (listed-lock st once holding owners s r m, lock-listed st once holding owners s r m);
      requests = λ l n. (listed-request_line st once holding owners l n, request-listed st once holding owners l);
      transactions = line-open st once holding owners;
    }
