-- What the lists of a state tell is what the definitions of its roots and waits say.
use Rattle.std.proofs.Common.{◌≡◌, ℕ, suc, ◌≤◌, Bool, true, false, cond, not, eqb, ltb, ◌&&◌, List, [], ◌∷◌, ◌++◌, length, map, filter, Option, Some, None, is_some, append-nil, refl, sym, ◌∙◌, ap, subst, arith}
use Rattle.std.specs.Prelude.{All}
use Rattle.std.specs.List.{flat_map, list_any, range_with_len}
use Rattle.std.proofs.Math.Bool.{and-false}
use Rattle.std.proofs.lemmas.List.Elements.{All-cons, All-nil}
use Rattle.lock_rules.specs.declared.calls.Transaction.{Transaction}
use Rattle.lock_rules.specs.declared.listing.Claim.{Claim as ListedClaim}
use Rattle.lock_rules.specs.Entries.{Entry}
use Rattle.lock_rules.specs.State.{Claim, State, request_of}
use Rattle.lock_rules.specs.Legal.{state_of}
use Rattle.lock_rules.specs.Listing.{listed_request, listing_of}
use Rattle.lock_rules.specs.Waits.{reaches, waits_for}
use Rattle.lock_rules.proofs.Lists.{eqb-refl, request_of-session}
use Rattle.lock_rules.proofs.Settle.{reached-walk, reaches-walk}
use Rattle.lock_rules.proofs.Walks.{found, walk-found}
use Rattle.waits_for.specs.Walks.{IsWalk}
use Rattle.lock_report.specs.ReadRows.{IsSession, IsWait}
use Rattle.lock_report.specs.declared.snapshot.OpenTransaction.{OpenTransaction}
use Rattle.lock_report.specs.declared.snapshot.WaitLine.{WaitLine}
use Rattle.lock_report.specs.declared.snapshot.WaitFor.{WaitFor}
use Rattle.lock_report.specs.Blockers.{first_blocker as first_listed, is_waited_for, other_wait as other_listed, request_of as request_listed, requests_among, told_behind, told_of, told_waits, waits_by as waits_among}
use Rattle.lock_report.specs.Jam.{does_wait, is_blocked, is_root as is_root_listed, jammed_behind, root_of as root_listed, roots_of as roots_listed, waiters}
use Rattle.lock_report.proofs.Walks.{all-listed}
use Rattle.history_commands.specs.Roots.{is_root, root_of, roots_of}
use Rattle.history_commands.specs.Showing.{open_of, opens_of, wait_of, waits_by, waits_of}
use Rattle.history_commands.specs.Waits.{first_blocker_of, other_wait, waits_behind, waits_since, waits_told, with_since}
use Rattle.history_commands.specs.Waits.{waits_of as waits_told_of}
use Rattle.history_commands.proofs.Flats.{all-range, any-flat, any-one, any-some, filter-flat, flat-flat, map-flat, none-any, none-flat, picked, picked-flat}
use Rattle.history_commands.proofs.Requests.{first-told, request-told}
use Rattle.lock_rules.proofs.Ranges.{both-ways}

-- a session has a line of a waiting request exactly if it waits
line-told : (st : State) (q : Option Claim) → is_some (listed_request st q) ≡ is_some q
line-told st None = refl
line-told st (Some q) = refl

-- the waits of one session among a list of one under a test
kept : (s : ℕ) (b c : Bool) (w : WaitFor) → eqb w.session s ≡ c → filter (λ (x : WaitFor). eqb x.session s) (cond b (w ∷ []) []) ≡ cond c (cond b (w ∷ []) []) []
kept s true c w e = ap (λ (d : Bool). cond d (w ∷ []) []) e
kept s false true w e = refl
kept s false false w e = refl

-- a test moved out of a join
moved : {X : Type 0} (c : Bool) (f : ℕ → List X) (us : List ℕ) → flat_map (λ u. cond c (f u) []) us ≡ cond c (flat_map f us) []
moved true f us = refl
moved false f us = none-flat us

-- the list of a wait for another, with places
told-other : (history : List Entry) (first s u : ℕ) (b c : Bool) → eqb u first ≡ c
    → map (with_since history) (flat_map (other_listed first) (cond b (record { session = s; other = u } ∷ []) []))
    ≡ cond (not c && b) (record { wait = record { session = s; other = u }; first = false; since = None } ∷ []) []
told-other history first s u true c e =
    ap (λ (d : Bool). map (with_since history) (cond d [] (record { wait = record { session = s; other = u }; first = false; since = None } ∷ []) ++ [])) e ∙ both c
  where
    both : (d : Bool) → map (with_since history) (cond d [] (record { wait = record { session = s; other = u }; first = false; since = None } ∷ []) ++ [])
        ≡ cond (not d && true) (record { wait = record { session = s; other = u }; first = false; since = None } ∷ []) []
    both true = refl
    both false = refl
told-other history first s u false true e = refl
told-other history first s u false false e = refl

module _ (n : ℕ) (es : List Entry)
    (within : (i u : ℕ) → waits_for (state_of es).table i u ≡ true → ((1 ≤ i) × (i ≤ n)) × ((1 ≤ u) × (u ≤ n)))
    (asker : (s : ℕ) (q : Claim) → request_of s (state_of es).table.requests ≡ Some q → ((1 ≤ s) × (s ≤ n)) × (is_some ((state_of es).begun s) ≡ true)) where
  -- for whom a session waits, by its list
  other-told : (s u : ℕ) → is_waited_for u (waits_by n (state_of es) s) ≡ waits_for (state_of es).table s u
  other-told s u =
      let t = (state_of es).table in
      any-flat (λ (w : WaitFor). eqb w.other u) (wait_of (state_of es) s) (range_with_len 1 n)
      ∙ ((λ i. list_any (λ v. any-one (λ (w : WaitFor). eqb w.other u) (waits_for t s v) (record { session = s; other = v }) i) (range_with_len 1 n))
      ∙ picked (waits_for t s) n u (λ h. (within s u h).1))

  -- who waits for whom, by the whole list
  pair-told : (a b v : ℕ) (c : Bool) → eqb v a ≡ c → list_any (λ (w : WaitFor). eqb w.session a && eqb w.other b) (waits_by n (state_of es) v) ≡ (waits_for (state_of es).table v b && c)
  pair-told a b v c e =
      let t = (state_of es).table in
      any-flat (λ (w : WaitFor). eqb w.session a && eqb w.other b) (wait_of (state_of es) v) (range_with_len 1 n)
      ∙ ((λ i. list_any (λ x. any-one (λ (w : WaitFor). eqb w.session a && eqb w.other b) (waits_for t v x) (record { session = v; other = x }) i) (range_with_len 1 n))
      ∙ (ap (λ (d : Bool). list_any (λ x. waits_for t v x && (d && eqb x b)) (range_with_len 1 n)) e ∙ go c))
    where
      go : (d : Bool) → list_any (λ x. waits_for (state_of es).table v x && (d && eqb x b)) (range_with_len 1 n) ≡ (waits_for (state_of es).table v b && d)
      go true = picked (waits_for (state_of es).table v) n b (λ h. (within v b h).1) ∙ sym (and-true (waits_for (state_of es).table v b))
        where
          and-true : (x : Bool) → (x && true) ≡ x
          and-true true = refl
          and-true false = refl
      go false = none-any (waits_for (state_of es).table v) (range_with_len 1 n) ∙ sym (and-false (waits_for (state_of es).table v b))

  does-told : (a b : ℕ) → does_wait (waits_of n (state_of es)) a b ≡ waits_for (state_of es).table a b
  does-told a b =
      let t = (state_of es).table in
      any-flat (λ (w : WaitFor). eqb w.session a && eqb w.other b) (waits_by n (state_of es)) (range_with_len 1 n)
      ∙ ((λ i. list_any (λ v. pair-told a b v (eqb v a) refl i) (range_with_len 1 n))
      ∙ picked (λ v. waits_for t v b) n a (λ h. (within a b h).0))

  -- who is reached, by the whole list
  blocked-told : (u s : ℕ) → is_blocked (waits_of n (state_of es)) u s ≡ reaches (state_of es).table u s
  blocked-told u s = both-ways (is_blocked (waits_of n (state_of es)) u s) (reaches (state_of es).table u s) there back
    where
      ws : List WaitFor
      ws = waits_of n (state_of es)

      same : does_wait (waits_of n (state_of es)) ≡ waits_for (state_of es).table
      same = λ i a b. does-told a b i

      there : is_blocked (waits_of n (state_of es)) u s ≡ true → reaches (state_of es).table u s ≡ true
      there h =
          let w = walk-found (does_wait (waits_of n (state_of es))) (suc (length (waiters (waits_of n (state_of es))))) (waiters (waits_of n (state_of es))) u s h in
          reaches-walk (state_of es).table u s (record { others = w.0; walk = subst (λ (p : ℕ → ℕ → Bool). IsWalk p u w.0 s) same w.1 })

      back : reaches (state_of es).table u s ≡ true → is_blocked (waits_of n (state_of es)) u s ≡ true
      back h =
          let r = reached-walk (state_of es).table u s h in
          let walk = subst (λ (p : ℕ → ℕ → Bool). IsWalk p u r.others s) (sym same) r.walk in
          found (does_wait (waits_of n (state_of es))) (length (waiters (waits_of n (state_of es)))) (waiters (waits_of n (state_of es))) u s r.others (omega arith) walk
          (all-listed (waits_of n (state_of es)) r.others u s walk)

  -- a root by the lists is one of the state
  is-root-told : (s : ℕ) → is_root_listed (requests_among (listing_of (state_of es))) (waits_of n (state_of es)) s ≡ is_root n (state_of es) s
  is-root-told s =
      let t = (state_of es).table in
      let waited : is_waited_for s (waits_of n (state_of es)) ≡ ltb 0 (length (filter (λ u. waits_for t u s) (range_with_len 1 n))) =
      any-flat (λ (w : WaitFor). eqb w.other s) (waits_by n (state_of es)) (range_with_len 1 n)
      ∙ ((λ i. list_any (λ u. other-told u s i) (range_with_len 1 n)) ∙ any-some (λ u. waits_for t u s) (range_with_len 1 n)) in
      (λ i. not (is_some (request-told es s i)) && waited i) ∙ ap (λ (b : Bool). not b && ltb 0 (length (filter (λ u. waits_for t u s) (range_with_len 1 n)))) (line-told (state_of es) (request_of s t.requests))

  root-told : (s : ℕ) (o : Option Transaction)
      → flat_map (root_listed n (requests_among (listing_of (state_of es))) (jammed_behind None (listing_of (state_of es))) (waits_of n (state_of es))) (open_of s o) ≡ root_of n (state_of es) s o
  root-told s None = refl
  root-told s (Some x) = append-nil (root_listed n (requests_among (listing_of (state_of es))) (jammed_behind None (listing_of (state_of es))) (waits_of n (state_of es)) (record { session = s; transaction = x }))
      ∙ (λ i. cond (is-root-told s i) (record { begun = record { session = s; transaction = x }; blocks = length (filter (λ u. blocked-told u s i) (range_with_len 1 n)); grants = (root_listed-grants s) } ∷ []) [])
    where
      root_listed-grants : ℕ → ℕ
      root_listed-grants v = length (Rattle.lock_report.specs.Jam.granted_by_abort v (jammed_behind None (listing_of (state_of es))))

  pub roots-told : roots_listed n (opens_of n (state_of es)) (listing_of (state_of es)) (waits_of n (state_of es)) ≡ roots_of n (state_of es)
  roots-told =
      flat-flat (root_listed n (requests_among (listing_of (state_of es))) (jammed_behind None (listing_of (state_of es))) (waits_of n (state_of es))) (λ s. open_of s ((state_of es).begun s)) (range_with_len 1 n)
      ∙ (λ i. flat_map (λ s. root-told s ((state_of es).begun s) i) (range_with_len 1 n))

  -- the waits of a session for others than its first blocker
  others-told : (history : List Entry) (s first : ℕ)
      → map (with_since history) (flat_map (other_listed first) (waits_by n (state_of es) s)) ≡ flat_map (other_wait (state_of es).table s first) (range_with_len 1 n)
  others-told history s first =
      let t = (state_of es).table in
      ap (map (with_since history)) (flat-flat (other_listed first) (wait_of (state_of es) s) (range_with_len 1 n))
      ∙ (map-flat (with_since history) (λ u. flat_map (other_listed first) (wait_of (state_of es) s u)) (range_with_len 1 n)
      ∙ (λ i. flat_map (λ u. told-other history first s u (waits_for t s u) (eqb u first) refl i) (range_with_len 1 n)))

  -- all its waits
  behind-told : (history : List Entry) (s : ℕ) (o : Option ℕ)
      → map (with_since history) (told_behind s (waits_by n (state_of es) s) o) ≡ waits_behind n (state_of es).table s (waits_since s history) o
  behind-told history s None = refl
  behind-told history s (Some first) =
      ap (λ (l : List WaitLine). record { wait = record { session = s; other = first }; first = true; since = Some (waits_since s history) } ∷ l) (others-told history s first)

  -- the waits of a session with this transaction and this request, of a list in which its own are those of the state
  told-by : (history : List Entry) (ws : List WaitFor) (s : ℕ) (x : Option Transaction) (q : Option Claim) → request_of s (state_of es).table.requests ≡ q → (is_some q ≡ true → is_some x ≡ true)
      → (is_some q ≡ true → waits_among s ws ≡ waits_by n (state_of es) s)
      → map (with_since history) (told_waits (open_of s x) (listing_of (state_of es)) ws) ≡ waits_behind n (state_of es).table s (waits_since s history) (first_blocker_of (state_of es).table s q)
  told-by history ws s None None wants begun own = refl
  told-by history ws s None (Some q) wants begun own = let bad : false ≡ true = begun refl in absurd (cc)
  told-by history ws s (Some x) q wants begun own =
      ap (λ (o : Option ListedClaim). map (with_since history) (told_of (listing_of (state_of es)) ws o ++ [])) (request-told es s ∙ ap (listed_request (state_of es)) wants) ∙ go q wants own
    where
      go : (p : Option Claim) → request_of s (state_of es).table.requests ≡ p → (is_some p ≡ true → waits_among s ws ≡ waits_by n (state_of es) s)
          → map (with_since history) (told_of (listing_of (state_of es)) ws (listed_request (state_of es) p) ++ []) ≡ waits_behind n (state_of es).table s (waits_since s history) (first_blocker_of (state_of es).table s p)
      go None f g = refl
      go (Some p) f g =
          let st = state_of es in
          let mine : p.session ≡ s = request_of-session s st.table.requests p f in
          let all : waits_among p.session ws ≡ waits_by n st s = ap (λ (k : ℕ). waits_among k ws) mine ∙ g refl in
          ap (map (with_since history)) (append-nil (told_behind p.session (waits_among p.session ws) (first_listed (waits_among p.session ws) p.resource (listing_of st))))
          ∙ ((λ i. map (with_since history) (told_behind (mine i) (all i) (first_listed (all i) p.resource (listing_of st))))
          ∙ (ap (λ (o : Option ℕ). map (with_since history) (told_behind s (waits_by n st s) o)) (first-told es (waits_by n st s) p.resource (waits_for st.table s) (other-told s))
          ∙ behind-told history s (first_blocker_of st.table s (Some p))))

  -- of its own list
  own-kept : (s v : ℕ) → filter (λ (w : WaitFor). eqb w.session s) (waits_by n (state_of es) v) ≡ cond (eqb v s) (waits_by n (state_of es) v) []
  own-kept s v =
      filter-flat (λ (w : WaitFor). eqb w.session s) (wait_of (state_of es) v) (range_with_len 1 n)
      ∙ ((λ i. flat_map (λ u. kept s (waits_for (state_of es).table v u) (eqb v s) (record { session = v; other = u }) refl i) (range_with_len 1 n))
      ∙ moved (eqb v s) (wait_of (state_of es) v) (range_with_len 1 n))

  -- of the whole list
  all-kept : (s : ℕ) → 1 ≤ s → s ≤ n → waits_among s (waits_of n (state_of es)) ≡ waits_by n (state_of es) s
  all-kept s some most =
      filter-flat (λ (w : WaitFor). eqb w.session s) (waits_by n (state_of es)) (range_with_len 1 n)
      ∙ ((λ i. flat_map (λ v. own-kept s v i) (range_with_len 1 n)) ∙ picked-flat (waits_by n (state_of es)) s 1 n some (omega (arith, most)))

  -- who waits has a transaction
  asker-open : (s : ℕ) (q : Option Claim) → request_of s (state_of es).table.requests ≡ q → is_some q ≡ true → is_some ((state_of es).begun s) ≡ true
  asker-open s None f e = absurd (cc)
  asker-open s (Some q) f e = (asker s q f).1

  asker-within : (s : ℕ) (q : Option Claim) → request_of s (state_of es).table.requests ≡ q → is_some q ≡ true → waits_among s (waits_of n (state_of es)) ≡ waits_by n (state_of es) s
  asker-within s None f e = absurd (cc)
  asker-within s (Some q) f e = let k = (asker s q f).0 in all-kept s k.0 k.1

  -- the waits of one session
  pub session-told : (history : List Entry) (s : ℕ)
      → map (with_since history) (told_waits (open_of s ((state_of es).begun s)) (listing_of (state_of es)) (waits_by n (state_of es) s)) ≡ waits_told_of n (state_of es).table history s
  session-told history s =
      let q = request_of s (state_of es).table.requests in
      told-by history (waits_by n (state_of es) s) s ((state_of es).begun s) q refl (asker-open s q refl)
      (λ e. own-kept s s ∙ ap (λ (b : Bool). cond b (waits_by n (state_of es) s) []) (eqb-refl s))

  -- the waits of all sessions
  pub waits-told : (history : List Entry)
      → map (with_since history) (told_waits (opens_of n (state_of es)) (listing_of (state_of es)) (waits_of n (state_of es))) ≡ waits_told n (state_of es) history
  waits-told history =
      let row = λ (o : OpenTransaction). told_of (listing_of (state_of es)) (waits_of n (state_of es)) (request_listed o.session (requests_among (listing_of (state_of es)))) in
      ap (map (with_since history)) (flat-flat row (λ s. open_of s ((state_of es).begun s)) (range_with_len 1 n))
      ∙ (map-flat (with_since history) (λ s. flat_map row (open_of s ((state_of es).begun s))) (range_with_len 1 n)
      ∙ (λ i. flat_map (λ s. told-by history (waits_of n (state_of es)) s ((state_of es).begun s) (request_of s (state_of es).table.requests) refl (asker-open s (request_of s (state_of es).table.requests) refl) (asker-within s (request_of s (state_of es).table.requests) refl) i) (range_with_len 1 n)))

  -- the sessions of the lists

  pub opens-within : All (λ o. IsSession n o.session) (opens_of n (state_of es))
  opens-within = all-range (λ o. IsSession n o.session) (λ s. open_of s ((state_of es).begun s)) 1 n (λ s from below. one s ((state_of es).begun s) (omega (arith, from), omega (arith, below)))
    where
      one : (s : ℕ) (x : Option Transaction) → IsSession n s → All (λ o. IsSession n o.session) (open_of s x)
      one s None is = All-nil (λ o. IsSession n o.session)
      one s (Some x) is = All-cons (λ o. IsSession n o.session) (record { session = s; transaction = x }) [] is (All-nil (λ o. IsSession n o.session))

  pub waits-within : All (IsWait n) (waits_of n (state_of es))
  waits-within = all-range (IsWait n) (waits_by n (state_of es)) 1 n (λ s from below.
      all-range (IsWait n) (wait_of (state_of es) s) 1 n (λ u some most. one s u (waits_for (state_of es).table s u) (omega (arith, from), omega (arith, below)) (omega (arith, some), omega (arith, most))))
    where
      one : (s u : ℕ) (b : Bool) → IsSession n s → IsSession n u → All (IsWait n) (cond b (record { session = s; other = u } ∷ []) [])
      one s u true is so = All-cons (IsWait n) (record { session = s; other = u }) [] (is, so) (All-nil (IsWait n))
      one s u false is so = All-nil (IsWait n)
