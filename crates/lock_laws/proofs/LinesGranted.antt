-- What an abort grants on the lines of one resource is what a promotion grants on its holders and its queue.
use Rattle.std.proofs.Common.{◌≡◌, ℕ, ◌+◌, ◌≤◌, ◌<◌, Bool, true, false, cond, not, eqb, ltb, ◌&&◌, ◌||◌, inl, inr, List, [], ◌∷◌, ◌++◌, map, filter, refl, sym, ◌∙◌, ap, arith, append-nil}
use Rattle.std.specs.List.{list_all}
use Rattle.std.proofs.lemmas.Bool.{and_parts}
use Rattle.std.proofs.lemmas.Bool.Decides.{nat_tests}
use Rattle.std.proofs.lemmas.List.{map-append}
use Rattle.std.proofs.lemmas.List.Elements.{filter-append}
use Rattle.std.proofs.lemmas.List.Folds.{list_all-append}
use Rattle.lock_modes.specs.declared.Mode.{Mode}
use Rattle.lock_modes.specs.Compatibility.{are_compatible}
use Rattle.lock_rules.specs.declared.listing.Claim.{Claim as ListedClaim}
use Rattle.lock_rules.specs.declared.listing.ClaimKind.{ClaimKind}
use Rattle.lock_rules.specs.declared.listing.ClaimKind.TheVariants.{Held, Conversion, Fresh}
use Rattle.lock_rules.specs.State.{Claim, State, holders}
use Rattle.lock_rules.specs.Queue.{conversions, fresh_requests, queue}
use Rattle.lock_rules.specs.Listing.{listed_as, listed_on}
use Rattle.lock_rules.specs.Sound.{after, IsSound}
use Rattle.lock_rules.proofs.Lists.{after-trans}
use Rattle.lock_holders.specs.declared.session_mode.SessionMode.{SessionMode}
use Rattle.lock_holders.specs.SessionModes.{Ascends, fits_among, has_session, pair_of, times, with_holder, without}
use Rattle.lock_holders.proofs.SessionModes.{has_tells}
use Rattle.lock_holders.proofs.Rising.{ascends-with, ascends-without}
use Rattle.lock_table.specs.inner.Cells.{view_after_grants}
use Rattle.lock_table.specs.Shows.{claims_on, short}
use Rattle.lock_table.proofs.AfterStep.{ascends-seen}
use Rattle.lock_table.proofs.TableViews.{pairs-seen}
use Rattle.lock_report.specs.Blockers.{is_request, requests_among}
use Rattle.lock_report.specs.Jam.{claims_but, fits_beside, granted_of, granted_on, is_holder, locks_among}

-- the sessions granted, request by request

-- the sessions of the queue that are granted beside the holders
abbrev pub grants : List SessionMode → List SessionMode → List ℕ
grants hs [] = []
grants hs (q ∷ qs) = cond (fits_among q hs) (q.session ∷ grants (with_holder q hs) qs) []

-- how often a number is in a list
abbrev pub count : ℕ → List ℕ → ℕ
count u [] = 0
count u (x ∷ xs) = cond (eqb x u) 1 0 + count u xs

or-right : (a b : Bool) → (a || b) ≡ false → b ≡ false
or-right true b h = absurd (cc)
or-right false b h = h

and-not : (b : Bool) → (b && not b) ≡ false
and-not true = refl
and-not false = refl

-- a session that isn't in a queue isn't in what a promotion leaves of it
left-none : (u : ℕ) (qs hs : List SessionMode) → has_session u qs ≡ false → has_session u (view_after_grants hs qs).waiting ≡ false
left-none u [] hs h = refl
left-none u (q ∷ qs) hs h = go (fits_among q hs) (left-none u qs (with_holder q hs) (or-right (eqb q.session u) (has_session u qs) h))
  where
    go : (b : Bool) → has_session u (view_after_grants (with_holder q hs) qs).waiting ≡ false → has_session u (cond b (view_after_grants (with_holder q hs) qs) (record { holders = hs; waiting = q ∷ qs })).waiting ≡ false
    go true e = e
    go false e = h

-- a session that is in a queue no time isn't in it
none-there : (u : ℕ) (qs : List SessionMode) → times u qs ≡ 0 → has_session u qs ≡ false
none-there u qs h = elim (has_tells u qs) [ inl p ↦ absurd (omega (arith, p.1, h)) | inr p ↦ p.0 ]

-- a session is granted once if it is in the queue and not in what a promotion leaves of it, and else not
pub grants-count : (u : ℕ) (qs hs : List SessionMode) → times u qs ≤ 1 → count u (grants hs qs) ≡ cond (has_session u qs && not (has_session u (view_after_grants hs qs).waiting)) 1 0
grants-count u [] hs o = refl
grants-count u (q ∷ qs) hs o = go (fits_among q hs) (eqb q.session u) refl o (grants-count u qs (with_holder q hs))
  where
    go : (f b : Bool) → eqb q.session u ≡ b → cond b 1 0 + times u qs ≤ 1
        → (times u qs ≤ 1 → count u (grants (with_holder q hs) qs) ≡ cond (has_session u qs && not (has_session u (view_after_grants (with_holder q hs) qs).waiting)) 1 0)
        → count u (cond f (q.session ∷ grants (with_holder q hs) qs) []) ≡ cond ((b || has_session u qs) && not (has_session u (cond f (view_after_grants (with_holder q hs) qs) (record { holders = hs; waiting = q ∷ qs })).waiting)) 1 0
    go true true e o next =
        let gone : has_session u qs ≡ false = none-there u qs (omega (arith, o)) in
        (λ i. cond (e i) 1 0 + count u (grants (with_holder q hs) qs))
        ∙ (ap (λ (k : ℕ). 1 + k) (next (omega (arith, o)) ∙ ap (λ (c : Bool). cond (c && not (has_session u (view_after_grants (with_holder q hs) qs).waiting)) 1 0) gone)
        ∙ sym (ap (λ (c : Bool). cond (not c) 1 0) (left-none u qs (with_holder q hs) gone)))
    go true false e o next = ap (λ (c : Bool). cond c 1 0 + count u (grants (with_holder q hs) qs)) e ∙ omega (arith, next (omega (arith, o)))
    go false true e o next = sym (ap (λ (c : Bool). cond (not (c || has_session u qs)) 1 0) e)
    go false false e o next = sym (ap (λ (c : Bool). cond (has_session u qs && not (c || has_session u qs)) 1 0) e ∙ ap (λ (c : Bool). cond c 1 0) (and-not (has_session u qs)))

-- locks and holders in whatever order

-- every test that all of the locks pass is one that all of the holders pass
abbrev AreAlike : List ListedClaim → List SessionMode → Type 0
AreAlike locks hs = (f : ℕ → Mode → Bool) → list_all (λ (c : ListedClaim). f c.session c.mode) locks ≡ list_all (λ (h : SessionMode). f h.session h.mode) hs

-- the session and the mode of a line
abbrev brief : ListedClaim → SessionMode
brief c = record { session = c.session; mode = c.mode }

-- all but session v pass
but-all : (v : ℕ) (f : ℕ → Mode → Bool) (cs : List ListedClaim) → list_all (λ (c : ListedClaim). f c.session c.mode) (claims_but v cs) ≡ list_all (λ (c : ListedClaim). eqb c.session v || f c.session c.mode) cs
but-all v f [] = refl
but-all v f (c ∷ cs) = go (eqb c.session v) (but-all v f cs)
  where
    go : (b : Bool) → list_all (λ (x : ListedClaim). f x.session x.mode) (claims_but v cs) ≡ list_all (λ (x : ListedClaim). eqb x.session v || f x.session x.mode) cs
        → list_all (λ (x : ListedClaim). f x.session x.mode) (cond (not b) (c ∷ claims_but v cs) (claims_but v cs)) ≡ ((b || f c.session c.mode) && list_all (λ (x : ListedClaim). eqb x.session v || f x.session x.mode) cs)
    go true e = e
    go false e = ap (λ (b : Bool). f c.session c.mode && b) e

-- no holder behind session v is session v
own-none : (v : ℕ) (f : ℕ → Mode → Bool) (hs : List SessionMode) → after v (map pair_of hs) ≡ true → list_all (λ (h : SessionMode). eqb h.session v || f h.session h.mode) hs ≡ list_all (λ (h : SessionMode). f h.session h.mode) hs
own-none v f [] a = refl
own-none v f (h ∷ hs) a =
    let p = and_parts (ltb v h.session) (after v (map pair_of hs)) a in
    let n : eqb h.session v ≡ false = grind (arith, nat_tests, p.0) in
    (λ i. (n i || f h.session h.mode) && own-none v f hs p.1 i)

swap : (a b : Bool) → (a && b) ≡ (b && a)
swap true true = refl
swap true false = refl
swap false true = refl
swap false false = refl

assoc : (a b c : Bool) → (a && (b && c)) ≡ ((a && b) && c)
assoc true b c = refl
assoc false b c = refl

-- all holders pass once a session has another mode
with-all : (f : ℕ → Mode → Bool) (q : SessionMode) (hs : List SessionMode) → Ascends hs
    → list_all (λ (h : SessionMode). f h.session h.mode) (with_holder q hs) ≡ (list_all (λ (h : SessionMode). eqb h.session q.session || f h.session h.mode) hs && f q.session q.mode)
with-all f q [] a = swap (f q.session q.mode) true
with-all f q (h ∷ hs) a = go (eqb h.session q.session) (ltb q.session h.session) refl refl (with-all f q hs (and_parts (after h.session (map pair_of hs)) _ a).1)
  where
    pass : SessionMode → Bool
    pass x = f x.session x.mode

    parts : (after h.session (map pair_of hs) ≡ true) × (Ascends hs)
    parts = and_parts (after h.session (map pair_of hs)) _ a

    go : (b c : Bool) → eqb h.session q.session ≡ b → ltb q.session h.session ≡ c
        → list_all pass (with_holder q hs) ≡ (list_all (λ (x : SessionMode). eqb x.session q.session || pass x) hs && pass q)
        → list_all pass (cond b (q ∷ hs) (cond c (q ∷ h ∷ hs) (h ∷ with_holder q hs))) ≡ (((b || pass h) && list_all (λ (x : SessionMode). eqb x.session q.session || pass x) hs) && pass q)
    go true c e l next =
        let same : h.session ≡ q.session = grind (arith, nat_tests, e) in
        let none = own-none q.session f hs (ap (λ (v : ℕ). after v (map pair_of hs)) (sym same) ∙ parts.0) in
        swap (pass q) (list_all pass hs) ∙ sym (ap (λ (b : Bool). b && pass q) none)
    go false true e l next =
        let less : q.session < h.session = grind (arith, nat_tests, l) in
        let none = own-none q.session f hs (after-trans q.session h.session (map pair_of hs) less parts.0) in
        swap (pass q) (pass h && list_all pass hs) ∙ sym (ap (λ (b : Bool). (pass h && b) && pass q) none)
    go false false e l next =
        ap (λ (b : Bool). pass h && b) next ∙ assoc (pass h) (list_all (λ (x : SessionMode). eqb x.session q.session || pass x) hs) (pass q)

-- they stay alike when a request is granted
alike-next : (q : ListedClaim) (locks : List ListedClaim) (hs : List SessionMode) → AreAlike locks hs → Ascends hs → AreAlike (claims_but q.session locks ++ q ∷ []) (with_holder (brief q) hs)
alike-next q locks hs alike rising f =
    list_all-append (λ (c : ListedClaim). f c.session c.mode) (claims_but q.session locks) (q ∷ [])
    ∙ ((λ i. (but-all q.session f locks ∙ alike (λ u m. eqb u q.session || f u m)) i && swap (f q.session q.mode) true i)
    ∙ sym (with-all f (brief q) hs rising))

-- what is granted beside locks is what is granted beside holders that are like them
granted-alike : (qs locks : List ListedClaim) (hs : List SessionMode) → AreAlike locks hs → Ascends hs → granted_of locks qs ≡ grants hs (map brief qs)
granted-alike [] locks hs alike rising = refl
granted-alike (q ∷ qs) locks hs alike rising =
    let fits : fits_beside q locks ≡ fits_among (brief q) hs = alike (λ u m. eqb u q.session || are_compatible q.mode m) in
    let rest = granted-alike qs (claims_but q.session locks ++ q ∷ []) (with_holder (brief q) hs) (alike-next q locks hs alike rising) (ascends-with (brief q) hs rising) in
    λ i. cond (fits i) (q.session ∷ rest i) []

-- the lines of a resource

-- the line of a holder
abbrev lock_line : State → List ℕ → ℕ × Mode → ListedClaim
lock_line st r h = listed_as st Held (record { session = h.0; resource = r; mode = h.1 })

locks-all : (st : State) (r : List ℕ) (hs : List (ℕ × Mode)) → filter (λ (c : ListedClaim). not (is_request c)) (map (lock_line st r) hs) ≡ map (lock_line st r) hs
locks-all st r [] = refl
locks-all st r (h ∷ hs) = ap (λ (l : List ListedClaim). lock_line st r h ∷ l) (locks-all st r hs)

locks-no-request : (st : State) (r : List ℕ) (hs : List (ℕ × Mode)) → filter is_request (map (lock_line st r) hs) ≡ []
locks-no-request st r [] = refl
locks-no-request st r (h ∷ hs) = locks-no-request st r hs

conversions-all : (st : State) (qs : List Claim) → filter is_request (map (listed_as st Conversion) qs) ≡ map (listed_as st Conversion) qs
conversions-all st [] = refl
conversions-all st (q ∷ qs) = ap (λ (l : List ListedClaim). listed_as st Conversion q ∷ l) (conversions-all st qs)

fresh-all : (st : State) (qs : List Claim) → filter is_request (map (listed_as st Fresh) qs) ≡ map (listed_as st Fresh) qs
fresh-all st [] = refl
fresh-all st (q ∷ qs) = ap (λ (l : List ListedClaim). listed_as st Fresh q ∷ l) (fresh-all st qs)

conversions-no-lock : (st : State) (qs : List Claim) → filter (λ (c : ListedClaim). not (is_request c)) (map (listed_as st Conversion) qs) ≡ []
conversions-no-lock st [] = refl
conversions-no-lock st (q ∷ qs) = conversions-no-lock st qs

fresh-no-lock : (st : State) (qs : List Claim) → filter (λ (c : ListedClaim). not (is_request c)) (map (listed_as st Fresh) qs) ≡ []
fresh-no-lock st [] = refl
fresh-no-lock st (q ∷ qs) = fresh-no-lock st qs

locks-on : (st : State) (r : List ℕ) → locks_among (listed_on st r) ≡ map (lock_line st r) (holders r st.table.held)
locks-on st r =
    let p = λ (c : ListedClaim). not (is_request c) in
    let held = map (lock_line st r) (holders r st.table.held) in
    let converting = map (listed_as st Conversion) (conversions st.table r) in
    let fresh = map (listed_as st Fresh) (fresh_requests st.table r) in
    filter-append p (held ++ converting) fresh
    ∙ ((λ i. (filter-append p held converting ∙ (λ j. locks-all st r (holders r st.table.held) j ++ conversions-no-lock st (conversions st.table r) j)) i ++ fresh-no-lock st (fresh_requests st.table r) i)
    ∙ (append-nil (held ++ []) ∙ append-nil held))

requests-on : (st : State) (r : List ℕ) → requests_among (listed_on st r) ≡ map (listed_as st Conversion) (conversions st.table r) ++ map (listed_as st Fresh) (fresh_requests st.table r)
requests-on st r =
    let held = map (lock_line st r) (holders r st.table.held) in
    let converting = map (listed_as st Conversion) (conversions st.table r) in
    let fresh = map (listed_as st Fresh) (fresh_requests st.table r) in
    filter-append is_request (held ++ converting) fresh
    ∙ (λ i. (filter-append is_request held converting ∙ (λ j. locks-no-request st r (holders r st.table.held) j ++ conversions-all st (conversions st.table r) j)) i ++ fresh-all st (fresh_requests st.table r) i)

brief-all : (st : State) (kind : ClaimKind) (qs : List Claim) → map brief (map (listed_as st kind) qs) ≡ map short qs
brief-all st kind [] = refl
brief-all st kind (q ∷ qs) = ap (λ (l : List SessionMode). short q ∷ l) (brief-all st kind qs)

brief-queue : (st : State) (r : List ℕ) → map brief (requests_among (listed_on st r)) ≡ map short (queue st.table r)
brief-queue st r =
    let converting = conversions st.table r in
    let fresh = fresh_requests st.table r in
    ap (map brief) (requests-on st r)
    ∙ (map-append brief (map (listed_as st Conversion) converting) (map (listed_as st Fresh) fresh)
    ∙ ((λ i. brief-all st Conversion converting i ++ brief-all st Fresh fresh i)
    ∙ sym (map-append short converting fresh)))

holder-seen : (st : State) (r : List ℕ) (s : ℕ) (hs : List SessionMode) → is_holder s (map (lock_line st r) (map pair_of hs)) ≡ has_session s hs
holder-seen st r s [] = refl
holder-seen st r s (h ∷ hs) = ap (λ (b : Bool). eqb h.session s || b) (holder-seen st r s hs)

others-alike : (st : State) (r : List ℕ) (s : ℕ) (hs : List SessionMode) → AreAlike (claims_but s (map (lock_line st r) (map pair_of hs))) (without s hs)
others-alike st r s [] f = refl
others-alike st r s (h ∷ hs) f = go (eqb h.session s) (others-alike st r s hs f)
  where
    go : (b : Bool) → list_all (λ (c : ListedClaim). f c.session c.mode) (claims_but s (map (lock_line st r) (map pair_of hs))) ≡ list_all (λ (x : SessionMode). f x.session x.mode) (without s hs)
        → list_all (λ (c : ListedClaim). f c.session c.mode) (cond (not b) (lock_line st r (pair_of h) ∷ claims_but s (map (lock_line st r) (map pair_of hs))) (claims_but s (map (lock_line st r) (map pair_of hs))))
        ≡ list_all (λ (x : SessionMode). f x.session x.mode) (cond (not b) (h ∷ without s hs) (without s hs))
    go true e = e
    go false e = ap (λ (b : Bool). f h.session h.mode && b) e

-- what an abort grants on the lines of a resource
pub lines-granted : (st : State) (s : ℕ) (r : List ℕ) → IsSound st.table
    → granted_on s (listed_on st r) ≡ cond (has_session s (claims_on r st.table.held)) (grants (without s (claims_on r st.table.held)) (map short (queue st.table r))) []
lines-granted st s r sound =
    let hs = claims_on r st.table.held in
    let lines : locks_among (listed_on st r) ≡ map (lock_line st r) (map pair_of hs) = locks-on st r ∙ ap (map (lock_line st r)) (sym (pairs-seen r st.table.held)) in
    (λ i. cond (is_holder s (lines i)) (granted_of (claims_but s (lines i)) (requests_among (listed_on st r))) [])
    ∙ ((λ i. cond (holder-seen st r s hs i)
    (granted-alike (requests_among (listed_on st r)) (claims_but s (map (lock_line st r) (map pair_of hs))) (without s hs) (others-alike st r s hs) (ascends-without s hs (ascends-seen st.table sound r)) i) [])
    ∙ ap (λ (qs : List SessionMode). cond (has_session s hs) (grants (without s hs) qs) []) (brief-queue st r))
