-- The waits-for graph once a request waits: the request's own waits, and how its place in the queue changes those of others.
use Rattle.std.proofs.Common.{◌≡◌, ℕ, ◌≤◌, Bool, true, false, cond, not, eqb, ◌&&◌, ◌||◌, ◌⊎◌, inl, inr, List, [], ◌∷◌, ◌++◌, Option, Some, None, is_some, refl, sym, ◌∙◌, ap, arith, subst}
use Rattle.std.specs.Prelude.{filter, option_map}
use Rattle.std.proofs.Math.Bool.{and-true, and-false, or-false}
use Rattle.std.proofs.lemmas.Bool.Decides.{nat_tests, Decides-eqb}
use Rattle.lock_modes.specs.declared.Mode.{Mode}
use Rattle.lock_tree.specs.Paths.{same_path}
use Rattle.lock_rules.specs.declared.listing.Claim.{Claim as ListedClaim}
use Rattle.lock_rules.specs.declared.listing.ClaimKind.TheVariants.{Conversion, Fresh}
use Rattle.lock_rules.specs.State.{Claim, Table, State, held_mode, request_of}
use Rattle.lock_rules.specs.Listing.{listed_as, listed_request, kind_of_request}
use Rattle.lock_rules.specs.Queue.{queue, conversions, fresh_requests, with_request}
use Rattle.lock_rules.specs.Waits.{conflicts, stands_before, keeps_waiting, waits_for}
use Rattle.lock_rules.specs.Sound.{IsOnce, times}
use Rattle.lock_rules.proofs.Lists.{In, In-append, In-filter, In-request, same_path-refl, same_path_tells, differs, request_of-push, request_of-session}
use Rattle.lock_rules.proofs.Begins.{new, queue-fresh, queue-converted, queue-beside}
use Rattle.lock_rules.proofs.Sound.{eqb-swap}
use Rattle.lock_rules.proofs.Waiting.{request_of-filter}
use Rattle.lock_rules.proofs.Listings.{request-in}
use Rattle.lock_table.proofs.WaitsOfTheState.{request-queued}
use Rattle.lock_explain.specs.Waiting.{held_in_conflict, request_ahead}
use Rattle.lock_explain.specs.inner.Graph.{is_fresh, is_fresh_on, waits_behind}

-- requests in a list

-- the session of a request in the list has a request
pub in-found : (q : Claim) (qs : List Claim) → In q qs → is_some (request_of q.session qs) ≡ true
in-found q [] k = absurd k
in-found q (p ∷ qs) k = elim k [
  | inl e ↦ let f = ap (λ (c : Claim). c.session) e in grind (arith, nat_tests)
  | inr i ↦ let r = in-found q qs i in grind (arith, nat_tests)
]

-- a session whose request stands before another has a request in the list
pub stands-in : (u s : ℕ) (qs : List Claim) → stands_before u s qs ≡ true → (q : Claim) × In q qs × (q.session ≡ u)
stands-in u s [] h = absurd (cc)
stands-in u s (q ∷ qs) h = go (eqb q.session s) (eqb q.session u) refl h (stands-in u s qs)
  where
    go : (b c : Bool) → eqb q.session u ≡ c → cond b false (c || stands_before u s qs) ≡ true → (stands_before u s qs ≡ true → (p : Claim) × In p qs × (p.session ≡ u)) → (p : Claim) × ((p ≡ q) ⊎ In p qs) × (p.session ≡ u)
    go true c e h next = absurd (cc)
    go false true e h next = (q, inl refl, (Decides-eqb q.session u).0 e)
    go false false e h next = let r = next h in (r.0, inr r.1, r.2)

-- a request in a queue is one of the table
pub queued-in : (t : Table) (r : List ℕ) (q : Claim) → In q (queue t r) → In q t.requests
queued-in t r q k = elim (In-append q (conversions t r) (fresh_requests t r) k) [
  | inl i ↦ (In-filter (λ c. same_path c.resource r && is_some (held_mode t c.session r)) q t.requests i).0
  | inr i ↦ (In-filter (λ c. same_path c.resource r && not (is_some (held_mode t c.session r))) q t.requests i).0
]

-- a session whose request stands before another in a queue has a request
pub stands-some : (t : Table) (r : List ℕ) (u s : ℕ) → stands_before u s (queue t r) ≡ true → is_some (request_of u t.requests) ≡ true
stands-some t r u s h =
    let q = stands-in u s (queue t r) h in
    subst (λ (x : ℕ). is_some (request_of x t.requests) ≡ true) q.2 (in-found q.0 t.requests (queued-in t r q.0 q.1))

-- the requests of other sessions stay when one is appended
pub push-other : (u : ℕ) (qs : List Claim) (q : Claim) → eqb q.session u ≡ false → request_of u (qs ++ q ∷ []) ≡ request_of u qs
push-other u [] q n = ap (λ (b : Bool). cond b (Some q) None) n
push-other u (c ∷ qs) q n = ap (λ (o : Option Claim). cond (eqb c.session u) (Some c) o) (push-other u qs q n)

-- what stands behind the first request of a session changes nothing before it
stands-front : (u i : ℕ) (xs ys : List Claim) (q : Claim) → request_of i xs ≡ Some q → stands_before u i (xs ++ ys) ≡ stands_before u i xs
stands-front u i [] ys q h = absurd (cc)
stands-front u i (x ∷ xs) ys q h = grind (arith, nat_tests, stands-front u i xs ys q)

-- a request that another session puts before that of a session stands before it, and changes nothing else
stands-between : (u i : ℕ) (xs ys : List Claim) (p : Claim) → request_of i xs ≡ None → eqb p.session i ≡ false → stands_before u i (xs ++ p ∷ ys) ≡ (stands_before u i (xs ++ ys) || eqb p.session u)
stands-between u i [] ys p h n = ap (λ (b : Bool). cond b false (eqb p.session u || stands_before u i ys)) n ∙ swap (eqb p.session u) (stands_before u i ys)
  where
    swap : (a b : Bool) → (a || b) ≡ (b || a)
    swap true true = refl
    swap true false = refl
    swap false true = refl
    swap false false = refl
stands-between u i (x ∷ xs) ys p h n = go (eqb x.session i) (eqb x.session u) h (λ k. stands-between u i xs ys p k n)
  where
    go : (b c : Bool) → cond b (Some x) (request_of i xs) ≡ None → (request_of i xs ≡ None → stands_before u i (xs ++ p ∷ ys) ≡ (stands_before u i (xs ++ ys) || eqb p.session u))
        → cond b false (c || stands_before u i (xs ++ p ∷ ys)) ≡ (cond b false (c || stands_before u i (xs ++ ys)) || eqb p.session u)
    go true c h next = absurd (cc)
    go false true h next = refl
    go false false h next = next h

-- a request that fails the test of a filter isn't found among those that pass it
not-filtered : (i : ℕ) (p : Claim → Bool) (qs : List Claim) (q : Claim) → times i qs ≤ 1 → request_of i qs ≡ Some q → p q ≡ false → request_of i (filter p qs) ≡ None
not-filtered i p qs q o h n = go (request_of i (filter p qs)) refl
  where
    go : (w : Option Claim) → request_of i (filter p qs) ≡ w → w ≡ None
    go None e = refl
    go (Some c) e =
        let k = In-filter p c qs (request-in i (filter p qs) c e) in
        let f = request_of-session i (filter p qs) c e in
        let g = In-request c qs (subst (λ (x : ℕ). times x qs ≤ 1) (sym f) o) k.0 in
        let same : Some c ≡ Some q = sym g ∙ (ap (λ (x : ℕ). request_of x qs) f ∙ h) in
        let is : c ≡ q = cc in
        absurd (let a = ap p is in let b = k.1 in cc)

module _ (s : ℕ) (r : List ℕ) (m : Mode) (t : Table) (idle : request_of s t.requests ≡ None) where
  -- the table in which the request waits
  abbrev pub after : Table
  after = with_request s r m t

  -- the request is its session's
  pub own : request_of s after.requests ≡ Some (new s r m)
  own = request_of-push s t.requests (new s r m) idle refl

  -- the request waits for holders in a conflicting mode, and for the requests ahead of it
  pub asker-waits : (u : ℕ) → eqb u s ≡ false → waits_for after s u ≡ (is_some (held_in_conflict m (held_mode t u r)) || is_some (request_ahead after (new s r m) u))
  asker-waits u n =
      ap (λ (b : Bool). not b && keeps_waiting after u (request_of s after.requests)) n
      ∙ (ap (keeps_waiting after u) own
      ∙ (λ i. held i || ahead i))
    where
      conflicting : (o : Option Mode) → conflicts m o ≡ is_some (held_in_conflict m o)
      conflicting None = refl
      conflicting (Some k) = go (conflicts m (Some k))
        where
          go : (b : Bool) → b ≡ is_some (cond b (Some k) None)
          go true = refl
          go false = refl

      held : conflicts m (held_mode t u r) ≡ is_some (held_in_conflict m (held_mode t u r))
      held = conflicting (held_mode t u r)

      ahead : stands_before u s (queue after r) ≡ is_some (request_ahead after (new s r m) u)
      ahead = go (stands_before u s (queue after r)) refl
        where
          told : (o : Option Claim) → is_some o ≡ true → true ≡ is_some (option_map (λ (p : Claim). p.mode) o)
          told None h = absurd (cc)
          told (Some p) h = refl

          go : (b : Bool) → stands_before u s (queue after r) ≡ b → b ≡ is_some (cond b (option_map (λ (p : Claim). p.mode) (request_of u after.requests)) None)
          go true e = told (request_of u after.requests) (stands-some after r u s e)
          go false e = refl

  -- another session without a request has none after
  pub idle-other : (i u : ℕ) → eqb i s ≡ false → request_of i t.requests ≡ None → waits_for after i u ≡ false
  idle-other i u n e = ap (λ (o : Option Claim). not (eqb u i) && keeps_waiting after u o) (push-other i t.requests (new s r m) (eqb-swap i s n) ∙ e) ∙ and-false (not (eqb u i))

  module _ (once : IsOnce t.requests) (i : ℕ) (n : eqb i s ≡ false) where
    -- the test the other way round
    flipped : eqb s i ≡ false
    flipped = eqb-swap i s n

    -- whether the request is a conversion, and another session's request a fresh one for its resource
    abbrev jumps : ℕ → Bool
    jumps v = is_some (held_mode t s r) && waits_behind t r v

    -- whether the new request stands before that of the other session in the queue of its resource
    abbrev passes : List ℕ → Bool
    passes x = is_some (held_mode t s r) && (same_path x r && not (is_some (held_mode t i x)))

    -- who stands before the other session's request on the resource of the new one
    stands-here : (q : Claim) → request_of i t.requests ≡ Some q → q.session ≡ i → q.resource ≡ r → (u : ℕ) → stands_before u i (queue after r) ≡ (stands_before u i (queue t r) || (eqb s u && passes r))
    stands-here q e own_session path u = go (is_some (held_mode t s r)) (is_some (held_mode t i r)) refl refl
      where
        p : Claim → Bool
        p c = same_path c.resource r && is_some (held_mode t c.session r)

        test : p q ≡ is_some (held_mode t i r)
        test = ap (λ (x : List ℕ). same_path x r && is_some (held_mode t q.session r)) path ∙ (ap (λ (b : Bool). b && is_some (held_mode t q.session r)) (same_path-refl r) ∙ ap (λ (v : ℕ). is_some (held_mode t v r)) own_session)

        queued : request_of i (queue t r) ≡ Some q
        queued = subst (λ (x : List ℕ). request_of i (queue t x) ≡ Some q) path (request-queued i t q (once i) e)

        none : (b : Bool) → (b || (eqb s u && false)) ≡ b
        none b = ap (λ (x : Bool). b || x) (and-false (eqb s u)) ∙ or-false b

        go : (h k : Bool) → is_some (held_mode t s r) ≡ h → is_some (held_mode t i r) ≡ k → stands_before u i (queue after r) ≡ (stands_before u i (queue t r) || (eqb s u && (h && (same_path r r && not k))))
        go false k f g =
            ap (stands_before u i) (queue-fresh s r m t f)
            ∙ (stands-front u i (queue t r) (new s r m ∷ []) q queued ∙ sym (none (stands_before u i (queue t r))))
        go true true f g =
            let there : request_of i (conversions t r) ≡ Some q = request_of-filter i p t.requests q e (test ∙ g) in
            ap (stands_before u i) (queue-converted s r m t f)
            ∙ (stands-front u i (conversions t r) (new s r m ∷ fresh_requests t r) q there
            ∙ (sym (stands-front u i (conversions t r) (fresh_requests t r) q there)
            ∙ sym (ap (λ (x : Bool). stands_before u i (queue t r) || (eqb s u && x)) (and-false (same_path r r)) ∙ none (stands_before u i (queue t r)))))
        go true false f g =
            let away : request_of i (conversions t r) ≡ None = not-filtered i p t.requests q (once i) e (test ∙ g) in
            ap (stands_before u i) (queue-converted s r m t f)
            ∙ (stands-between u i (conversions t r) (fresh_requests t r) (new s r m) away flipped
            ∙ sym (ap (λ (x : Bool). stands_before u i (queue t r) || (eqb s u && (x && true))) (same_path-refl r) ∙ ap (λ (x : Bool). stands_before u i (queue t r) || x) (and-true (eqb s u))))

    -- who stands before the other session's request
    stands-after : (q : Claim) → request_of i t.requests ≡ Some q → q.session ≡ i → (u : ℕ) → stands_before u i (queue after q.resource) ≡ (stands_before u i (queue t q.resource) || (eqb s u && passes q.resource))
    stands-after q e own_session u = elim (same_path_tells q.resource r) [
      | inl k ↦ subst (λ (x : List ℕ). stands_before u i (queue after x) ≡ (stands_before u i (queue t x) || (eqb s u && passes x))) (sym k.1) (stands-here q e own_session k.1 u)
      | inr k ↦
          let apart : same_path r q.resource ≡ false = differs q.resource r (λ f. let g = ap (λ (x : List ℕ). same_path x r) f ∙ same_path-refl r in absurd (cc)) in
          ap (stands_before u i) (queue-beside s r q.resource m t apart)
          ∙ sym (ap (λ (b : Bool). stands_before u i (queue t q.resource) || (eqb s u && (is_some (held_mode t s r) && (b && not (is_some (held_mode t i q.resource)))))) k
          ∙ (ap (λ (b : Bool). stands_before u i (queue t q.resource) || (eqb s u && b)) (and-false (is_some (held_mode t s r)))
          ∙ (ap (λ (b : Bool). stands_before u i (queue t q.resource) || b) (and-false (eqb s u)) ∙ or-false (stands_before u i (queue t q.resource)))))
    ]

    -- another session waits as before, and for the request's session if that is a conversion and its own request a fresh one
    -- for the same resource
    pub waits-other : (u : ℕ) → waits_for after i u ≡ (waits_for t i u || (eqb s u && jumps i))
    waits-other u = go (request_of i t.requests) refl
      where
        mix : (x z c b f : Bool) → (z ≡ true → x ≡ false) → (not x && (c || (b || (z && f)))) ≡ ((not x && (c || b)) || (z && f))
        mix true true c b f h = absurd (let g = h refl in cc)
        mix true false c b f h = refl
        mix false z true b f h = refl
        mix false z false b f h = refl

        nobody : (x z h : Bool) → false ≡ ((not x && false) || (z && (h && false)))
        nobody x z h = sym (ap (λ (b : Bool). b || (z && (h && false))) (and-false (not x)) ∙ (ap (λ (b : Bool). z && b) (and-false h) ∙ and-false z))

        apart : eqb s u ≡ true → eqb u i ≡ false
        apart e = ap (λ (v : ℕ). eqb v i) (sym ((Decides-eqb s u).0 e)) ∙ flipped

        go : (o : Option Claim) → request_of i t.requests ≡ o → waits_for after i u ≡ (waits_for t i u || (eqb s u && jumps i))
        go None e =
            idle-other i u n e
            ∙ (nobody (eqb u i) (eqb s u) (is_some (held_mode t s r))
            ∙ sym (ap (λ (o : Option Claim). (not (eqb u i) && keeps_waiting t u o) || (eqb s u && (is_some (held_mode t s r) && is_fresh_on t r o))) e))
        go (Some q) e =
            let own_session = request_of-session i t.requests q e in
            let c = conflicts q.mode (held_mode t u q.resource) in
            let stands : stands_before u q.session (queue after q.resource) ≡ (stands_before u q.session (queue t q.resource) || (eqb s u && (is_some (held_mode t s r) && (same_path q.resource r && not (is_some (held_mode t q.session q.resource))))))
            = subst (λ (v : ℕ). stands_before u v (queue after q.resource) ≡ (stands_before u v (queue t q.resource) || (eqb s u && (is_some (held_mode t s r) && (same_path q.resource r && not (is_some (held_mode t v q.resource))))))) (sym own_session) (stands-after q e own_session u) in
            ap (λ (o : Option Claim). not (eqb u i) && keeps_waiting after u o) (push-other i t.requests (new s r m) flipped ∙ e)
            ∙ (ap (λ (b : Bool). not (eqb u i) && (c || b)) stands
            ∙ (mix (eqb u i) (eqb s u) c (stands_before u q.session (queue t q.resource)) (is_some (held_mode t s r) && (same_path q.resource r && not (is_some (held_mode t q.session q.resource)))) apart
            ∙ sym (ap (λ (o : Option Claim). (not (eqb u i) && keeps_waiting t u o) || (eqb s u && (is_some (held_mode t s r) && is_fresh_on t r o))) e)))

    -- the same for a session that another one didn't wait for before
    pub waits-newly : (v : Bool) (u : ℕ) → false ≡ waits_for t i u → v ≡ (eqb s u && is_some (held_mode t s r)) → (v && waits_behind t r i) ≡ waits_for after i u
    waits-newly v u none e =
        ap (λ (b : Bool). b && waits_behind t r i) e
        ∙ (group (eqb s u) (is_some (held_mode t s r)) (waits_behind t r i)
        ∙ sym (waits-other u ∙ ap (λ (b : Bool). b || (eqb s u && jumps i)) (sym none)))
      where
        group : (a b c : Bool) → ((a && b) && c) ≡ (a && (b && c))
        group true b c = refl
        group false b c = refl

-- a listing's line of a request

-- the line tells whether the request is a fresh one for the resource
pub fresh-told : (st : State) (r : List ℕ) (o : Option Claim) (line : ListedClaim) → listed_request st o ≡ Some line → (same_path line.resource r && is_fresh line.kind) ≡ is_fresh_on st.table r o
fresh-told st r None line e = absurd (cc)
fresh-told st r (Some q) line e =
    let same : listed_as st (kind_of_request st q) q ≡ line = cc in
    ap (λ (l : ListedClaim). same_path l.resource r && is_fresh l.kind) (sym same)
    ∙ ap (λ (x : Bool). same_path q.resource r && x) (kind (is_some (held_mode st.table q.session q.resource)))
  where
    kind : (b : Bool) → is_fresh (cond b Conversion Fresh) ≡ not b
    kind true = refl
    kind false = refl

-- without a line there is no request
pub no-line : (st : State) (o : Option Claim) (line : Option ListedClaim) → line ≡ listed_request st o → is_some line ≡ false → o ≡ None
no-line st None line e h = refl
no-line st (Some q) line e h = absurd (let f = ap is_some e in cc)
