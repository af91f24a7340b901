-- The request of a session in a listing, and the first that blocks it.
use Rattle.std.proofs.Common.{◌≡◌, ◌≢◌, ℕ, Bool, true, false, cond, eqb, ◌&&◌, inl, inr, List, [], ◌∷◌, ◌++◌, map, filter, Option, Some, None, is_some, append_assoc, refl, sym, ◌∙◌, ap, ap₂}
use Rattle.std.proofs.lemmas.Bool.Decides.{Decides-eqb}
use Rattle.std.proofs.lemmas.List.{map-append}
use Rattle.lock_modes.specs.declared.Mode.{Mode}
use Rattle.lock_tree.specs.Paths.{same_path}
use Rattle.lock_rules.specs.declared.listing.Claim.{Claim as ListedClaim}
use Rattle.lock_rules.specs.declared.listing.ClaimKind.{ClaimKind}
use Rattle.lock_rules.specs.declared.listing.ClaimKind.TheVariants.{Held, Conversion, Fresh}
use Rattle.lock_rules.specs.Entries.{Entry}
use Rattle.lock_rules.specs.State.{Claim, State, held_mode, holders, request_of}
use Rattle.lock_rules.specs.Queue.{conversions, fresh_requests}
use Rattle.lock_rules.specs.Legal.{state_of}
use Rattle.lock_rules.specs.Listing.{kind_of_request, listed_as, listed_on, listing_of, listed_request, waiting_line}
use Rattle.lock_rules.proofs.Alters.{true≢false}
use Rattle.lock_rules.proofs.Listings.{listing-shows}
use Rattle.lock_rules.proofs.Lists.{request_of-session}
use Rattle.sequential.proofs.Members.{Member, contains-member, member-contains}
use Rattle.lock_report.specs.Claims.{is_request_kind}
use Rattle.lock_report.specs.declared.snapshot.WaitFor.{WaitFor}
use Rattle.lock_report.specs.Blockers.{first_blocker as first_listed, is_request, is_waited_for, request_of as request_listed, requests_among}
use Rattle.history_commands.specs.Waits.{claimants, first_passing}

-- a request that is found is listed
line-in : (s : ℕ) (cs : List ListedClaim) (l : ListedClaim) → request_listed s (filter is_request cs) ≡ Some l → Member l cs × (is_request l ≡ true) × (l.session ≡ s)
line-in s [] l e = absurd (cc)
line-in s (c ∷ cs) l e = go (line-in s cs l) (is_request c) refl e
  where
    Rest : Type 0
    Rest = request_listed s (filter is_request cs) ≡ Some l → Member l cs × (is_request l ≡ true) × (l.session ≡ s)

    further : Rest → request_listed s (filter is_request cs) ≡ Some l → Member l (c ∷ cs) × (is_request l ≡ true) × (l.session ≡ s)
    further next h = let r = next h in (inr r.0, r.1, r.2)

    here : Rest → is_request c ≡ true → (b : Bool) → eqb c.session s ≡ b → cond b (Some c) (request_listed s (filter is_request cs)) ≡ Some l → Member l (c ∷ cs) × (is_request l ≡ true) × (l.session ≡ s)
    here next f true g h =
        let same : c ≡ l = cc in
        (inl same, ap is_request (sym same) ∙ f, ap (λ (x : ListedClaim). x.session) (sym same) ∙ (Decides-eqb c.session s).0 g)
    here next f false g h = further next h

    go : Rest → (a : Bool) → is_request c ≡ a → request_listed s (cond a (c ∷ filter is_request cs) (filter is_request cs)) ≡ Some l → Member l (c ∷ cs) × (is_request l ≡ true) × (l.session ≡ s)
    go next true f h = here next f (eqb c.session s) refl h
    go next false f h = further next h

-- a request that is listed is found, or one of the same session
line-found : (s : ℕ) (cs : List ListedClaim) (l : ListedClaim) → Member l cs → is_request l ≡ true → l.session ≡ s → request_listed s (filter is_request cs) ≢ None
line-found s [] l m f g e = absurd m
line-found s (c ∷ cs) l m f g e = go (λ k. line-found s cs l k f g) (is_request c) refl e
  where
    here : (Member l cs → request_listed s (filter is_request cs) ≢ None) → (b : Bool) → eqb c.session s ≡ b → cond b (Some c) (request_listed s (filter is_request cs)) ≡ None → ⊥
    here next true k h = absurd (cc)
    here next false k h = elim m [
      | inl same ↦ absurd (true≢false ((Decides-eqb c.session s).1 (ap (λ (x : ListedClaim). x.session) same ∙ g)) k)
      | inr r ↦ next r h
    ]

    go : (Member l cs → request_listed s (filter is_request cs) ≢ None) → (a : Bool) → is_request c ≡ a → request_listed s (cond a (c ∷ filter is_request cs) (filter is_request cs)) ≡ None → ⊥
    go next true k h = here next (eqb c.session s) refl h
    go next false k h = elim m [
      | inl same ↦ absurd (true≢false (ap is_request same ∙ f) k)
      | inr r ↦ next r h
    ]

-- a request is no lock
request-kind : (b : Bool) → is_request_kind (cond b Conversion Fresh) ≡ true
request-kind true = refl
request-kind false = refl

not-held : (k : ClaimKind) → is_request_kind k ≡ true → k ≢ Held
not-held k f e = absurd (true≢false f (ap is_request_kind e))

-- the request of a session in the listing is its waiting request
pub request-told : (es : List Entry) (s : ℕ) → request_listed s (requests_among (listing_of (state_of es))) ≡ waiting_line (state_of es) s
request-told es s = found (request_listed s (requests_among (listing_of (state_of es)))) refl
  where
    none : request_listed s (requests_among (listing_of (state_of es))) ≡ None → (q : Option Claim) → request_of s (state_of es).table.requests ≡ q → None ≡ listed_request (state_of es) q
    none e None f = refl
    none e (Some q) f =
        let l = listed_as (state_of es) (kind_of_request (state_of es) q) q in
        let own : q.session ≡ s = request_of-session s (state_of es).table.requests q f in
        let is : is_request l ≡ true = request-kind (is_some (held_mode (state_of es).table q.session q.resource)) in
        let line : waiting_line (state_of es) l.session ≡ Some l = ap (waiting_line (state_of es)) own ∙ ap (listed_request (state_of es)) f in
        absurd (line-found s (listing_of (state_of es)) l (contains-member l (listing_of (state_of es)) (((listing-shows es).requests l (not-held l.kind is)).1 line)) is own e)

    found : (o : Option ListedClaim) → request_listed s (requests_among (listing_of (state_of es))) ≡ o → request_listed s (requests_among (listing_of (state_of es))) ≡ waiting_line (state_of es) s
    found None e = e ∙ none e (request_of s (state_of es).table.requests) refl
    found (Some l) e =
        let i = line-in s (listing_of (state_of es)) l e in
        e ∙ (sym (((listing-shows es).requests l (not-held l.kind i.1)).0 (member-contains l (listing_of (state_of es)) i.0)) ∙ ap (waiting_line (state_of es)) i.2)

-- the first blocker in a listing is the first of those with a claim on the resource
first-listed : (own : List WaitFor) (r : List ℕ) (cs : List ListedClaim)
    → first_listed own r cs ≡ first_passing (λ u. is_waited_for u own) (map (λ (c : ListedClaim). c.session) (filter (λ (c : ListedClaim). same_path c.resource r) cs))
first-listed own r [] = refl
first-listed own r (c ∷ cs) = go (same_path c.resource r) (first-listed own r cs)
  where
    go : (b : Bool) → first_listed own r cs ≡ first_passing (λ u. is_waited_for u own) (map (λ (c : ListedClaim). c.session) (filter (λ (c : ListedClaim). same_path c.resource r) cs))
        → cond (b && is_waited_for c.session own) (Some c.session) (first_listed own r cs)
        ≡ first_passing (λ u. is_waited_for u own) (map (λ (c : ListedClaim). c.session) (cond b (c ∷ filter (λ (c : ListedClaim). same_path c.resource r) cs) (filter (λ (c : ListedClaim). same_path c.resource r) cs)))
    go true e = ap (cond (is_waited_for c.session own) (Some c.session)) e
    go false e = e

-- the sessions of lines
holders-told : (st : State) (r : List ℕ) (hs : List (ℕ × Mode)) → map (λ (c : ListedClaim). c.session) (map (λ h. listed_as st Held (record { session = h.0; resource = r; mode = h.1 })) hs) ≡ map (λ h. h.0) hs
holders-told st r [] = refl
holders-told st r (h ∷ hs) = ap (λ (l : List ℕ). h.0 ∷ l) (holders-told st r hs)

requests-told : (st : State) (k : ClaimKind) (qs : List Claim) → map (λ (c : ListedClaim). c.session) (map (listed_as st k) qs) ≡ map (λ (q : Claim). q.session) qs
requests-told st k [] = refl
requests-told st k (q ∷ qs) = ap (λ (l : List ℕ). q.session ∷ l) (requests-told st k qs)

-- the lines of a resource are of those who have a claim on it, in their order
claimants-told : (st : State) (r : List ℕ) → map (λ (c : ListedClaim). c.session) (listed_on st r) ≡ claimants st.table r
claimants-told st r =
    let held = map (λ h. listed_as st Held (record { session = h.0; resource = r; mode = h.1 })) (holders r st.table.held) in
    let converting = map (listed_as st Conversion) (conversions st.table r) in
    let fresh = map (listed_as st Fresh) (fresh_requests st.table r) in
    let holding : List ℕ = map (λ (h : ℕ × Mode). h.0) (holders r st.table.held) in
    let first : List ℕ = map (λ (q : Claim). q.session) (conversions st.table r) in
    let then : List ℕ = map (λ (q : Claim). q.session) (fresh_requests st.table r) in
    map-append (λ (c : ListedClaim). c.session) (held ++ converting) fresh
    ∙ (ap₂ (λ (a b : List ℕ). a ++ b)
    (map-append (λ (c : ListedClaim). c.session) held converting ∙ ap₂ (λ (a b : List ℕ). a ++ b) (holders-told st r (holders r st.table.held)) (requests-told st Conversion (conversions st.table r)))
    (requests-told st Fresh (fresh_requests st.table r))
    ∙ (append_assoc holding first then
    ∙ ap (λ (l : List ℕ). holding ++ l) (sym (map-append (λ (q : Claim). q.session) (conversions st.table r) (fresh_requests st.table r)))))

-- the first blocker by a state's listing, if these waits are for whom the test says
pub first-told : (es : List Entry) (own : List WaitFor) (r : List ℕ) (test : ℕ → Bool) → ((u : ℕ) → is_waited_for u own ≡ test u)
    → first_listed own r (listing_of (state_of es)) ≡ first_passing test (claimants (state_of es).table r)
first-told es own r test same =
    first-listed own r (listing_of (state_of es))
    ∙ ((λ i. first_passing (λ u. same u i) (map (λ (c : ListedClaim). c.session) ((listing-shows es).lines r i)))
    ∙ ap (first_passing test) (claimants-told (state_of es) r))
