-- The resources of a jam in a listing that is made resource by resource: of each the lines on it.
use Rattle.std.proofs.Common.{◌≡◌, ℕ, Bool, true, false, cond, not, ◌&&◌, ◌||◌, inl, inr, List, [], ◌∷◌, ◌++◌, map, filter, Option, Some, is_some, refl, sym, ◌∙◌, ap, append-nil}
use Rattle.std.specs.Prelude.{find}
use Rattle.std.specs.List.{flat_map, list_all}
use Rattle.std.proofs.lemmas.Bool.{and_parts, and_from}
use Rattle.std.proofs.lemmas.Grind.{flat_map-append}
use Rattle.std.proofs.lemmas.List.Folds.{list_all-append}
use Rattle.std.proofs.lemmas.List.Sums.{take_while-cons}
use Rattle.lock_modes.specs.declared.Mode.{Mode}
use Rattle.lock_tree.specs.Paths.{same_path}
use Rattle.lock_rules.specs.declared.listing.Claim.{Claim as ListedClaim}
use Rattle.lock_rules.specs.declared.listing.ClaimKind.{ClaimKind}
use Rattle.lock_rules.specs.declared.listing.ClaimKind.TheVariants.{Held, Conversion, Fresh}
use Rattle.lock_rules.specs.State.{Claim, State, held_mode, holders}
use Rattle.lock_rules.specs.Queue.{conversions, fresh_requests}
use Rattle.lock_rules.specs.Listing.{listed_as, listed_on}
use Rattle.lock_rules.proofs.Lists.{same_path-refl, same_path-true, same_path_tells}
use Rattle.lock_rules.proofs.ResourceOrder.{contrary, is_among, not-behind, precedes, rise}
use Rattle.lock_report.specs.Claims.{is_last}
use Rattle.lock_report.specs.LocksDot.{claims_on, has_request}
use Rattle.lock_report.specs.Blockers.{is_request}
use Rattle.lock_report.specs.Jam.{claims_but, granted_by_abort, granted_of, granted_on, is_holder, jammed_at, jammed_behind, locks_among}

-- the claims are all on the resource
abbrev are_on : List ℕ → List ListedClaim → Bool
are_on r cs = list_all (λ (c : ListedClaim). same_path c.resource r) cs

-- none of them is
abbrev are_off : List ℕ → List ListedClaim → Bool
are_off r cs = list_all (λ (c : ListedClaim). not (same_path c.resource r)) cs

-- the lines of a resource are on it

held-on : (st : State) (r : List ℕ) (hs : List (ℕ × Mode)) → are_on r (map (λ (h : ℕ × Mode). listed_as st Held (record { session = h.0; resource = r; mode = h.1 })) hs) ≡ true
held-on st r [] = refl
held-on st r (h ∷ hs) = and_from (same_path r r) _ (same_path-refl r) (held-on st r hs)

queued-on : (st : State) (r : List ℕ) (kind : ClaimKind) (p : Claim → Bool) (qs : List Claim) → are_on r (map (listed_as st kind) (filter (λ (q : Claim). same_path q.resource r && p q) qs)) ≡ true
queued-on st r kind p [] = refl
queued-on st r kind p (q ∷ qs) = go (same_path q.resource r) (p q) refl (queued-on st r kind p qs)
  where
    go : (a b : Bool) → same_path q.resource r ≡ a → are_on r (map (listed_as st kind) (filter (λ (x : Claim). same_path x.resource r && p x) qs)) ≡ true
        → are_on r (map (listed_as st kind) (cond (a && b) (q ∷ filter (λ (x : Claim). same_path x.resource r && p x) qs) (filter (λ (x : Claim). same_path x.resource r && p x) qs))) ≡ true
    go true true e rest = and_from (same_path q.resource r) _ e rest
    go true false e rest = rest
    go false b e rest = rest

pub lines-on : (st : State) (r : List ℕ) → are_on r (listed_on st r) ≡ true
lines-on st r =
    let on = λ (c : ListedClaim). same_path c.resource r in
    let held = map (λ (h : ℕ × Mode). listed_as st Held (record { session = h.0; resource = r; mode = h.1 })) (holders r st.table.held) in
    let converting = map (listed_as st Conversion) (conversions st.table r) in
    let fresh = map (listed_as st Fresh) (fresh_requests st.table r) in
    let a = held-on st r (holders r st.table.held) in
    let b = queued-on st r Conversion (λ (q : Claim). is_some (held_mode st.table q.session r)) st.table.requests in
    let c = queued-on st r Fresh (λ (q : Claim). not (is_some (held_mode st.table q.session r))) st.table.requests in
    list_all-append on (held ++ converting) fresh
    ∙ and_from (list_all on (held ++ converting)) (list_all on fresh) (list_all-append on held converting ∙ and_from (list_all on held) (list_all on converting) a b) c

-- lines from the front on

-- no line from the front on is on a resource that none is on
off-none : (r : List ℕ) (cs : List ListedClaim) → are_off r cs ≡ true → claims_on r cs ≡ []
off-none r [] h = refl
off-none r (c ∷ cs) h = take_while-cons (λ (x : ListedClaim). same_path x.resource r) c cs ∙ go (same_path c.resource r) h
  where
    go : (b : Bool) → (not b && are_off r cs) ≡ true → cond b (c ∷ claims_on r cs) [] ≡ []
    go true h = absurd (cc)
    go false h = refl

-- lines on a resource, ahead of lines that aren't
on-front : (r : List ℕ) (cs rest : List ListedClaim) → are_on r cs ≡ true → are_off r rest ≡ true → claims_on r (cs ++ rest) ≡ cs
on-front r [] rest h k = off-none r rest k
on-front r (c ∷ cs) rest h k =
    let p = and_parts (same_path c.resource r) (are_on r cs) h in
    take_while-cons (λ (x : ListedClaim). same_path x.resource r) c (cs ++ rest) ∙ ap (λ (b : Bool). cond b (c ∷ claims_on r (cs ++ rest)) []) p.0 ∙ ap (λ (l : List ListedClaim). c ∷ l) (on-front r cs rest p.1 k)

-- lines on one resource aren't on another
on-off : (r x : List ℕ) (cs : List ListedClaim) → same_path x r ≡ false → are_on x cs ≡ true → are_off r cs ≡ true
on-off r x [] n h = refl
on-off r x (c ∷ cs) n h =
    let p = and_parts (same_path c.resource x) (are_on x cs) h in
    and_from (not (same_path c.resource r)) (are_off r cs) (ap not (ap (λ (y : List ℕ). same_path y r) (same_path-true c.resource x p.0) ∙ n)) (on-off r x cs n p.1)

-- behind a resource, more lines on it begin no queue
on-skipped : (r : List ℕ) (cs rest : List ListedClaim) → are_on r cs ≡ true → jammed_behind (Some r) (cs ++ rest) ≡ jammed_behind (Some r) rest
on-skipped r [] rest h = refl
on-skipped r (c ∷ cs) rest h =
    let p = and_parts (same_path c.resource r) (are_on r cs) h in
    let e : c.resource ≡ r = same_path-true c.resource r p.0 in
    (λ i. cond (not (p.0 i) && has_request (claims_on c.resource (c ∷ cs ++ rest))) (claims_on c.resource (c ∷ cs ++ rest) ∷ []) [] ++ jammed_behind (Some (e i)) (cs ++ rest))
    ∙ on-skipped r cs rest p.1

-- nobody waits: nothing is granted
none-found : (p : ListedClaim → Bool) (cs : List ListedClaim) → is_some (find p cs) ≡ false → filter p cs ≡ []
none-found p [] h = refl
none-found p (c ∷ cs) h = go (p c) h (none-found p cs)
  where
    go : (b : Bool) → is_some (cond b (Some c) (find p cs)) ≡ false → (is_some (find p cs) ≡ false → filter p cs ≡ []) → cond b (c ∷ filter p cs) (filter p cs) ≡ []
    go true h next = absurd (cc)
    go false h next = next h

unasked-none : (s : ℕ) (cs : List ListedClaim) → has_request cs ≡ false → granted_on s cs ≡ []
unasked-none s cs h =
    ap (λ (l : List ListedClaim). cond (is_holder s (locks_among cs)) (granted_of (claims_but s (locks_among cs)) l) []) (none-found is_request cs h)
    ∙ both (is_holder s (locks_among cs))
  where
    both : (b : Bool) → cond {A = List ℕ} b [] [] ≡ []
    both true = refl
    both false = refl

-- so resources that nobody waits for may be left in
asked-only : (s : ℕ) (cs : List ListedClaim) → flat_map (granted_on s) (cond (has_request cs) (cs ∷ []) []) ≡ granted_on s cs
asked-only s cs = go (has_request cs) refl
  where
    go : (b : Bool) → has_request cs ≡ b → flat_map (granted_on s) (cond b (cs ∷ []) []) ≡ granted_on s cs
    go true e = append-nil (granted_on s cs)
    go false e = sym (unasked-none s cs e)

module _ (lines : List ℕ → List ListedClaim) (on : (r : List ℕ) → are_on r (lines r) ≡ true) where
  -- the lines of other resources
  all-off : (r : List ℕ) (rs : List (List ℕ)) → is_among r rs ≡ false → are_off r (flat_map lines rs) ≡ true
  all-off r [] h = refl
  all-off r (x ∷ rs) h = go (same_path x r) refl h (all-off r rs)
    where
      go : (b : Bool) → same_path x r ≡ b → (b || is_among r rs) ≡ false → (is_among r rs ≡ false → are_off r (flat_map lines rs) ≡ true) → are_off r (lines x ++ flat_map lines rs) ≡ true
      go true e k next = absurd (cc)
      go false e k next =
          list_all-append (λ (c : ListedClaim). not (same_path c.resource r)) (lines x) (flat_map lines rs)
          ∙ and_from (are_off r (lines x)) (are_off r (flat_map lines rs)) (on-off r x (lines x) e (on x)) (next k)

  -- the resource ahead isn't one of these
  abbrev IsApart : Option (List ℕ) → List (List ℕ) → Type 0
  IsApart last rs = (x : List ℕ) → is_among x rs ≡ true → is_last last x ≡ false

  apart-rest : (last : Option (List ℕ)) (r : List ℕ) (rs : List (List ℕ)) → IsApart last (r ∷ rs) → IsApart last rs
  apart-rest last r rs h x k = h x (go (same_path r x) k)
    where
      go : (b : Bool) → is_among x rs ≡ true → (b || is_among x rs) ≡ true
      go true k = refl
      go false k = k

  apart-next : (r : List ℕ) (rs : List (List ℕ)) → is_among r rs ≡ false → IsApart (Some r) rs
  apart-next r rs h x k = elim (same_path_tells x r) [
    | inl p ↦ absurd (contrary (is_among r rs) (ap (λ (y : List ℕ). is_among y rs) (sym p.1) ∙ k) h)
    | inr n ↦ n
  ]

  -- what an abort grants is what it grants on each resource
  pub granted-by-lines : (s : ℕ) (last : Option (List ℕ)) (rs : List (List ℕ)) → rise rs ≡ true → IsApart last rs
      → granted_by_abort s (jammed_behind last (flat_map lines rs)) ≡ flat_map (λ (r : List ℕ). granted_on s (lines r)) rs
  granted-by-lines s last [] h apart = refl
  granted-by-lines s last (r ∷ rs) h apart = go (lines r) (on r) (λ l a. granted-by-lines s l rs (and_parts (precedes r rs) (rise rs) h).1 a)
    where
      risen : (precedes r rs ≡ true) × (rise rs ≡ true)
      risen = and_parts (precedes r rs) (rise rs) h

      behind : is_among r rs ≡ false
      behind = not-behind r rs risen.0 risen.1

      rest : List ListedClaim
      rest = flat_map lines rs

      go : (cs : List ListedClaim) → are_on r cs ≡ true
          → ((l : Option (List ℕ)) → IsApart l rs → granted_by_abort s (jammed_behind l rest) ≡ flat_map (λ (x : List ℕ). granted_on s (lines x)) rs)
          → flat_map (granted_on s) (jammed_behind last (cs ++ rest)) ≡ granted_on s cs ++ flat_map (λ (x : List ℕ). granted_on s (lines x)) rs
      go [] k next = next last (apart-rest last r rs apart)
      go (c ∷ cs) k next =
          let p = and_parts (same_path c.resource r) (are_on r cs) k in
          let same : c.resource ≡ r = same_path-true c.resource r p.0 in
          let new : is_last last r ≡ false = apart r (ap (λ (b : Bool). b || is_among r rs) (same_path-refl r)) in
          let front : claims_on r (c ∷ cs ++ rest) ≡ c ∷ cs = on-front r (c ∷ cs) rest k (all-off r rs behind) in
          (λ i. flat_map (granted_on s) (jammed_at last (same i) (c ∷ cs ++ rest) ++ jammed_behind (Some (same i)) (cs ++ rest)))
          ∙ ((λ i. flat_map (granted_on s) (cond (not (new i) && has_request (front i)) (front i ∷ []) [] ++ on-skipped r cs rest p.1 i))
          ∙ (flat_map-append (granted_on s) (cond (has_request (c ∷ cs)) ((c ∷ cs) ∷ []) []) (jammed_behind (Some r) rest)
          ∙ (λ i. asked-only s (c ∷ cs) i ++ next (Some r) (apart-next r rs behind) i)))
