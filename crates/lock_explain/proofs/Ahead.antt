-- Which requests stand ahead of one that begins to wait, and what blocks it.
use Rattle.std.proofs.Common.{◌≡◌, ◌≢◌, ℕ, ◌≤◌, Bool, true, false, cond, not, eqb, ◌&&◌, ◌||◌, inl, inr, List, [], ◌∷◌, ◌++◌, Option, Some, None, refl, sym, ◌∙◌, ap, arith}
use Rattle.std.specs.Prelude.{filter, is_some, option_map}
use Rattle.std.proofs.lemmas.Bool.Decides.{nat_tests, Decides-eqb}
use Rattle.std.proofs.lemmas.Bool.{cases_Bool}
use Rattle.lock_modes.specs.declared.Mode.{Mode}
use Rattle.lock_tree.specs.Paths.{same_path}
use Rattle.lock_rules.specs.declared.listing.ClaimKind.TheVariants.{Conversion, Fresh}
use Rattle.lock_rules.specs.State.{Claim, Table, State, held_mode, request_of}
use Rattle.lock_rules.specs.Queue.{queue, conversions, fresh_requests, with_request}
use Rattle.lock_rules.specs.Waits.{conflicts, stands_before, waits_for, keeps_waiting}
use Rattle.lock_rules.specs.Sound.{IsOnce, times}
use Rattle.lock_rules.specs.Listing.{kind_of_request, listed_request, waiting_line}
use Rattle.lock_rules.specs.Effects.{request}
use Rattle.lock_rules.proofs.Lists.{same_path_tells, other, eqb-refl, none-times, request_of-push}
use Rattle.lock_rules.proofs.Begins.{queue-fresh, queue-converted}
use Rattle.lock_rules.proofs.Waiting.{request_of-front, request_of-rest}
use Rattle.lock_explain.specs.declared.explanation.Party.{Party}
use Rattle.lock_explain.specs.declared.explanation.Blocker.{Blocker}
use Rattle.lock_explain.specs.Waiting.{blocker_of, held_in_conflict, party_of, request_ahead, waiting_state}
use Rattle.lock_explain.specs.inner.Ahead.{ahead_by, is_conversion}

-- requests in lists

-- no request of a session stands before its own
before-own : (s : ℕ) (qs : List Claim) → stands_before s s qs ≡ false
before-own s [] = refl
before-own s (q ∷ qs) = grind (arith, nat_tests, before-own s qs)

-- before the first request of s stand exactly the requests of the part without one of s
before-part : (u s : ℕ) (xs ys : List Claim) (q : Claim) → request_of s xs ≡ None → q.session ≡ s → stands_before u s (xs ++ q ∷ ys) ≡ is_some (request_of u xs)
before-part u s [] ys q h e = ap (λ (b : Bool). cond b false (eqb q.session u || stands_before u s ys)) (ap (λ (x : ℕ). eqb q.session x) (sym e) ∙ eqb-refl q.session)
before-part u s (x ∷ xs) ys q h e = grind (arith, nat_tests, before-part u s xs ys q)

-- a session without a request has none in a part of the list
filter-none : (s : ℕ) (p : Claim → Bool) (qs : List Claim) → request_of s qs ≡ None → request_of s (filter p qs) ≡ None
filter-none s p [] h = refl
filter-none s p (q ∷ qs) h = grind (arith, nat_tests, cases_Bool (p q), filter-none s p qs)

-- the request of a session with one at most is in a part of the list if it passes the test of the part
filter-own : (u : ℕ) (p : Claim → Bool) (qs : List Claim) (q : Claim) → times u qs ≤ 1 → request_of u qs ≡ Some q → request_of u (filter p qs) ≡ cond (p q) (Some q) None
filter-own u p [] q o h = absurd (cc)
filter-own u p (c ∷ qs) q o h = elim (cases_Bool (eqb c.session u)) [
  | inl e ↦
      let same : c ≡ q = grind (arith, nat_tests) in
      let behind : times u qs ≡ 0 = grind (arith, nat_tests) in
      let none : request_of u (filter p qs) ≡ None = filter-none u p qs (none-times u qs behind) in
      rw (← same) (elim (cases_Bool (p c)) [ inl k ↦ grind (arith, nat_tests, none) | inr k ↦ grind (arith, nat_tests, none) ])
  | inr n ↦
      let rest : request_of u (filter p qs) ≡ cond (p q) (Some q) None = filter-own u p qs q (grind (arith, nat_tests)) (grind (arith, nat_tests)) in
      elim (cases_Bool (p c)) [ inl k ↦ grind (arith, nat_tests, rest) | inr k ↦ grind (arith, nat_tests, rest) ]
]

-- an appended request of another session makes no difference
push-other : (u s : ℕ) (qs : List Claim) (q : Claim) → q.session ≡ s → eqb u s ≡ false → request_of u (qs ++ q ∷ []) ≡ request_of u qs
push-other u s [] q e n = grind (arith, nat_tests)
push-other u s (c ∷ qs) q e n = grind (arith, nat_tests, push-other u s qs q)

-- requests ahead

-- the request is among the conversions of the resource
abbrev converts-on : Table → List ℕ → Claim → Bool
converts-on t r q = same_path q.resource r && is_some (held_mode t q.session r)

-- the request is among the fresh requests of the resource
abbrev is-fresh-on : Table → List ℕ → Claim → Bool
is-fresh-on t r q = same_path q.resource r && not (is_some (held_mode t q.session r))

-- the part of the queue that stands ahead of a request of s for r that begins to wait
abbrev front-of : Bool → Table → List ℕ → List Claim
front-of b t r = cond b (conversions t r) (queue t r)

-- whether the request q stands there
abbrev is-ahead : Bool → Table → List ℕ → Claim → Bool
is-ahead b t r q = same_path q.resource r && (not b || is_some (held_mode t q.session r))

-- a session without a request has none in the queue
queue-none : (s : ℕ) (t : Table) (r : List ℕ) → request_of s t.requests ≡ None → request_of s (queue t r) ≡ None
queue-none s t r h = request_of-rest s (conversions t r) (fresh_requests t r) (filter-none s (converts-on t r) t.requests h) ∙ filter-none s (is-fresh-on t r) t.requests h

-- and none in the part in front
front-none : (s : ℕ) (b : Bool) (t : Table) (r : List ℕ) → request_of s t.requests ≡ None → request_of s (front-of b t r) ≡ None
front-none s true t r h = filter-none s (converts-on t r) t.requests h
front-none s false t r h = queue-none s t r h

-- a session's request is in the queue of its resource, and in no other
queue-own : (u : ℕ) (t : Table) (r : List ℕ) (q : Claim) → times u t.requests ≤ 1 → request_of u t.requests ≡ Some q → is_some (request_of u (queue t r)) ≡ same_path q.resource r
queue-own u t r q o h =
    let a : request_of u (conversions t r) ≡ cond (converts-on t r q) (Some q) None = filter-own u (converts-on t r) t.requests q o h in
    let b : request_of u (fresh_requests t r) ≡ cond (is-fresh-on t r q) (Some q) None = filter-own u (is-fresh-on t r) t.requests q o h in
    go (same_path q.resource r) (is_some (held_mode t q.session r)) a b
  where
    go : (x y : Bool) → request_of u (conversions t r) ≡ cond (x && y) (Some q) None → request_of u (fresh_requests t r) ≡ cond (x && not y) (Some q) None → is_some (request_of u (queue t r)) ≡ x
    go true true a b = ap (λ (o : Option Claim). is_some o) (request_of-front u (conversions t r) (fresh_requests t r) q a)
    go true false a b = ap (λ (o : Option Claim). is_some o) (request_of-rest u (conversions t r) (fresh_requests t r) a ∙ b)
    go false y a b = ap (λ (o : Option Claim). is_some o) (request_of-rest u (conversions t r) (fresh_requests t r) a ∙ b)

-- a session's request is in the part in front exactly if it is for the resource, and a conversion if only these are in front
front-own : (u : ℕ) (b : Bool) (t : Table) (r : List ℕ) (q : Claim) → times u t.requests ≤ 1 → request_of u t.requests ≡ Some q → is_some (request_of u (front-of b t r)) ≡ is-ahead b t r q
front-own u true t r q o h = ap (λ (x : Option Claim). is_some x) (filter-own u (converts-on t r) t.requests q o h) ∙ some-cond (converts-on t r q)
  where
    some-cond : (x : Bool) → is_some (cond x (Some q) None) ≡ x
    some-cond true = refl
    some-cond false = refl
front-own u false t r q o h = queue-own u t r q o h ∙ and-true (same_path q.resource r)
  where
    and-true : (x : Bool) → x ≡ x && true
    and-true true = refl
    and-true false = refl

-- before a request of s that begins to wait stands what is in front
begun-before : (u s : ℕ) (b : Bool) (r : List ℕ) (m : Mode) (t : Table) → is_some (held_mode t s r) ≡ b → request_of s t.requests ≡ None
    → stands_before u s (queue (with_request s r m t) r) ≡ is_some (request_of u (front-of b t r))
begun-before u s true r m t h n = ap (stands_before u s) (queue-converted s r m t h) ∙ before-part u s (conversions t r) (fresh_requests t r) (request s r m) (front-none s true t r n) refl
begun-before u s false r m t h n = ap (stands_before u s) (queue-fresh s r m t h) ∙ before-part u s (queue t r) [] (request s r m) (front-none s false t r n) refl

-- a line of a request is of a conversion exactly if its session holds the resource
converts-told : (b : Bool) → is_conversion (cond b Conversion Fresh) ≡ b
converts-told true = refl
converts-told false = refl

-- the line of a request tells whether it stands in front
line-ahead : (b : Bool) (st : State) (r : List ℕ) (q : Claim) → ahead_by b r (listed_request st (Some q)) ≡ cond (is-ahead b st.table r q) (Some q.mode) None
line-ahead b st r q =
    let k : is_conversion (kind_of_request st q) ≡ is_some (held_mode st.table q.session q.resource) = converts-told (is_some (held_mode st.table q.session q.resource)) in
    ap (λ (x : Bool). cond (same_path q.resource r && (not b || x)) (Some q.mode) None) k ∙ elim (same_path_tells q.resource r) [
      | inl p ↦ ap (λ (x : List ℕ). cond (same_path q.resource r && (not b || is_some (held_mode st.table q.session x))) (Some q.mode) None) p.1
      | inr e ↦ ap (λ (x : Bool). cond (x && (not b || is_some (held_mode st.table q.session q.resource))) (Some q.mode) None) e ∙ sym (ap (λ (x : Bool). cond (x && (not b || is_some (held_mode st.table q.session r))) (Some q.mode) None) e)
    ]

-- the target of another session's request, if it stands ahead
ahead-of-other : (u s : ℕ) (r : List ℕ) (m : Mode) (st : State) (o : Option Claim) → eqb u s ≡ false → request_of s st.table.requests ≡ None → times u st.table.requests ≤ 1 → request_of u st.table.requests ≡ o
    → request_ahead (with_request s r m st.table) (request s r m) u ≡ ahead_by (is_some (held_mode st.table s r)) r (listed_request st o)
ahead-of-other u s r m st None n idle once h =
    let b = is_some (held_mode st.table s r) in
    let before = begun-before u s b r m st.table refl idle ∙ ap (λ (x : Option Claim). is_some x) (front-none u b st.table r h) in
    ap (λ (x : Bool). cond x (option_map (λ (p : Claim). p.mode) (request_of u (with_request s r m st.table).requests)) None) before
ahead-of-other u s r m st (Some q) n idle once h =
    let b = is_some (held_mode st.table s r) in
    let before = begun-before u s b r m st.table refl idle ∙ front-own u b st.table r q once h in
    let own = push-other u s st.table.requests (request s r m) refl n ∙ h in
    ap (λ (x : Bool). cond x (option_map (λ (p : Claim). p.mode) (request_of u (with_request s r m st.table).requests)) None) before
    ∙ ap (λ (x : Option Claim). cond (is-ahead b st.table r q) (option_map (λ (p : Claim). p.mode) x) None) own
    ∙ sym (line-ahead b st r q)

-- the target of a session's request, if it stands ahead of one that begins to wait, follows from its line
pub ahead-told : (u s : ℕ) (r : List ℕ) (m : Mode) (st : State) → IsOnce st.table.requests → request_of s st.table.requests ≡ None
    → ahead_by (is_some (held_mode st.table s r)) r (waiting_line st u) ≡ request_ahead (with_request s r m st.table) (request s r m) u
ahead-told u s r m st once idle = elim (cases_Bool (eqb u s)) [
  | inl e ↦ rw ((Decides-eqb u s).0 e) (ap (λ (o : Option Claim). ahead_by (is_some (held_mode st.table s r)) r (listed_request st o)) idle
      ∙ sym (ap (λ (x : Bool). cond x (option_map (λ (p : Claim). p.mode) (request_of s (with_request s r m st.table).requests)) None) (before-own s (queue (with_request s r m st.table) r))))
  | inr n ↦ sym (ahead-of-other u s r m st (request_of u st.table.requests) n idle (once u) refl)
]

-- blockers

-- a mode held in conflict is there exactly if there is a conflict
conflict-some : (m : Mode) (o : Option Mode) → is_some (held_in_conflict m o) ≡ conflicts m o
conflict-some m None = refl
conflict-some m (Some k) = go (conflicts m (Some k))
  where
    go : (b : Bool) → is_some (cond b (Some k) None) ≡ b
    go true = refl
    go false = refl

-- another session's request stands before exactly if there is its target ahead
ahead-some : (u s : ℕ) (r : List ℕ) (m : Mode) (st : State) (o : Option Claim) → eqb u s ≡ false → request_of s st.table.requests ≡ None → times u st.table.requests ≤ 1 → request_of u st.table.requests ≡ o
    → stands_before u s (queue (with_request s r m st.table) r) ≡ is_some (request_ahead (with_request s r m st.table) (request s r m) u)
ahead-some u s r m st None n idle once h =
    let b = is_some (held_mode st.table s r) in
    let before = begun-before u s b r m st.table refl idle ∙ ap (λ (x : Option Claim). is_some x) (front-none u b st.table r h) in
    before ∙ sym (ap (λ (x : Bool). is_some (cond x (option_map (λ (p : Claim). p.mode) (request_of u (with_request s r m st.table).requests)) None)) before)
ahead-some u s r m st (Some q) n idle once h =
    let own = push-other u s st.table.requests (request s r m) refl n ∙ h in
    sym (ap (λ (x : Option Claim). is_some (cond (stands_before u s (queue (with_request s r m st.table) r)) (option_map (λ (p : Claim). p.mode) x) None)) own
    ∙ go (stands_before u s (queue (with_request s r m st.table) r)))
  where
    go : (b : Bool) → is_some (cond b (Some q.mode) None) ≡ b
    go true = refl
    go false = refl

-- a blocker in a list
abbrev pub one-blocker : Party → Option Mode → Option Mode → List Blocker
one-blocker p held ahead = record { party = p; held = held; ahead = ahead } ∷ []

-- another session is in the list of blockers exactly if it holds the resource in conflict or has a request ahead
pub blocker-told : (u s : ℕ) (r : List ℕ) (m : Mode) (st : State) (held ahead : Option Mode) → IsOnce st.table.requests → request_of s st.table.requests ≡ None → u ≢ s
    → held ≡ held_in_conflict m (held_mode st.table u r) → ahead ≡ request_ahead (with_request s r m st.table) (request s r m) u
    → blocker_of (waiting_state st (request s r m)) (request s r m) u ≡ cond (is_some held || is_some ahead) (one-blocker (party_of st u) held ahead) []
blocker-told u s r m st held ahead once idle apart h a =
    let n : eqb u s ≡ false = other s u apart in
    let own : request_of s (with_request s r m st.table).requests ≡ Some (request s r m) = request_of-push s st.table.requests (request s r m) idle refl in
    let conflict : conflicts m (held_mode st.table u r) ≡ is_some held = sym (conflict-some m (held_mode st.table u r)) ∙ sym (ap (λ (o : Option Mode). is_some o) h) in
    let before : stands_before u s (queue (with_request s r m st.table) r) ≡ is_some ahead = ahead-some u s r m st (request_of u st.table.requests) n idle (once u) refl ∙ sym (ap (λ (o : Option Mode). is_some o) a) in
    let waits : waits_for (with_request s r m st.table) s u ≡ (is_some held || is_some ahead) =
    ap (λ (b : Bool). not b && keeps_waiting (with_request s r m st.table) u (request_of s (with_request s r m st.table).requests)) n
    ∙ ap (keeps_waiting (with_request s r m st.table) u) own
    ∙ ap (λ (b : Bool). b || stands_before u s (queue (with_request s r m st.table) r)) conflict
    ∙ ap (λ (b : Bool). is_some held || b) before in
    ap (λ (b : Bool). cond b (one-blocker (party_of st u) (held_in_conflict m (held_mode st.table u r)) (request_ahead (with_request s r m st.table) (request s r m) u)) []) waits
    ∙ ap (λ (o : Option Mode). cond (is_some held || is_some ahead) (one-blocker (party_of st u) o (request_ahead (with_request s r m st.table) (request s r m) u)) []) (sym h)
    ∙ ap (λ (o : Option Mode). cond (is_some held || is_some ahead) (one-blocker (party_of st u) held o) []) (sym a)
