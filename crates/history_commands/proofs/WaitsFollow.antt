-- Who waits for whom follows from the locks and requests of a state's listing.
use Rattle.std.proofs.Common.{◌≡◌, ℕ, Bool, true, false, cond, not, eqb, ◌&&◌, ◌||◌, ◌⊎◌, inl, inr, List, [], ◌∷◌, ◌++◌, map, filter, Option, Some, None, is_some, append-nil, append_assoc, refl, sym, ◌∙◌, ap, subst, arith}
use Rattle.std.specs.List.{flat_map, list_any, range_with_len}
use Rattle.std.proofs.Math.Bool.{and-false, and_comm, or-false, or_assoc}
use Rattle.std.proofs.lemmas.Bool.{and_parts, cases_Bool}
use Rattle.std.proofs.lemmas.Bool.Decides.{nat_tests, Decides-eqb}
use Rattle.lock_modes.specs.declared.Mode.{Mode}
use Rattle.lock_modes.specs.Compatibility.{are_compatible}
use Rattle.lock_rules.specs.declared.calls.Transaction.{Transaction}
use Rattle.lock_rules.specs.declared.listing.Claim.{Claim as ListedClaim}
use Rattle.lock_rules.specs.declared.listing.ClaimKind.{ClaimKind}
use Rattle.lock_rules.specs.declared.listing.ClaimKind.TheVariants.{Held, Conversion, Fresh}
use Rattle.lock_rules.specs.Entries.{Entry}
use Rattle.lock_rules.specs.State.{Claim, State, held_mode, holders, request_of}
use Rattle.lock_rules.specs.Queue.{conversions, fresh_requests, queue}
use Rattle.lock_rules.specs.Legal.{state_of}
use Rattle.lock_rules.specs.Listing.{kind_of_request, listed_as, listed_request, listing_of}
use Rattle.lock_rules.specs.Sound.{after, ascend}
use Rattle.lock_rules.specs.Waits.{conflicts, keeps_waiting, stands_before, waits_for}
use Rattle.lock_rules.proofs.Listings.{listing-shows}
use Rattle.lock_rules.proofs.Lists.{mode_in-seek, request_of-session, seek}
use Rattle.lock_rules.proofs.Steps.{state-lawful}
use Rattle.lock_report.specs.Claims.{is_request_kind}
use Rattle.lock_report.specs.declared.snapshot.OpenTransaction.{OpenTransaction}
use Rattle.lock_report.specs.declared.snapshot.WaitFor.{WaitFor}
use Rattle.lock_report.specs.Blockers.{requests_among, request_of as request_listed}
use Rattle.lock_report.specs.Blocking.{claims_on, is_ahead, waits_among, waits_of as waits_of_request}
use Rattle.history_commands.specs.Showing.{open_of, opens_of, waits_by, waits_of}
use Rattle.history_commands.proofs.Flats.{flat-flat}
use Rattle.history_commands.proofs.Requests.{request-told}
use Rattle.history_commands.proofs.WithoutRequest.{no-waits}

-- what is kept of the images of a list
kept-flat : {X : Type 0} (p : X → Bool) (f : ℕ → X) (us : List ℕ) → filter p (map f us) ≡ flat_map (λ u. cond (p (f u)) (f u ∷ []) []) us
kept-flat p f [] = refl
kept-flat {X} p f (u ∷ us) = go (p (f u)) (kept-flat p f us)
  where
    go : (b : Bool) → filter p (map f us) ≡ flat_map (λ v. cond (p (f v)) (f v ∷ []) []) us
        → cond b (f u ∷ filter p (map f us)) (filter p (map f us)) ≡ cond b (f u ∷ []) [] ++ flat_map (λ v. cond (p (f v)) (f v ∷ []) []) us
    go true e = ap (λ (l : List X). f u ∷ l) e
    go false e = e

-- no session is ahead of itself
stands-self : (s : ℕ) (qs : List Claim) → stands_before s s qs ≡ false
stands-self s [] = refl
stands-self s (q ∷ qs) = go (eqb q.session s) (stands-self s qs)
  where
    go : (b : Bool) → stands_before s s qs ≡ false → cond b false (b || stands_before s s qs) ≡ false
    go true n = refl
    go false n = n

-- of the holders in order the one of a session decides whether it conflicts
none-after : (m : Mode) (s u : ℕ) (hs : List (ℕ × Mode)) → after u hs ≡ true → list_any (λ h. eqb h.0 u && (not (eqb h.0 s) && not (are_compatible m h.1))) hs ≡ false
none-after m s u [] h = refl
none-after m s u (k ∷ hs) h = grind (arith, nat_tests, none-after m s u hs)

holder-told : (m : Mode) (s u : ℕ) (hs : List (ℕ × Mode)) → ascend hs ≡ true
    → list_any (λ h. eqb h.0 u && (not (eqb h.0 s) && not (are_compatible m h.1))) hs ≡ (not (eqb u s) && conflicts m (seek u hs))
holder-told m s u [] h = sym (and-false (not (eqb u s)))
holder-told m s u (k ∷ hs) h =
    let p = and_parts (after k.0 hs) (ascend hs) h in
    go (cases_Bool (eqb k.0 u)) p.0 (holder-told m s u hs p.1)
  where
    rest : Bool
    rest = list_any (λ (j : ℕ × Mode). eqb j.0 u && (not (eqb j.0 s) && not (are_compatible m j.1))) hs

    go : (eqb k.0 u ≡ true) ⊎ (eqb k.0 u ≡ false) → after k.0 hs ≡ true → rest ≡ (not (eqb u s) && conflicts m (seek u hs))
        → ((eqb k.0 u && (not (eqb k.0 s) && not (are_compatible m k.1))) || rest) ≡ (not (eqb u s) && conflicts m (cond (eqb k.0 u) (Some k.1) (seek u hs)))
    go (inl e) f next =
        let g = (Decides-eqb k.0 u).0 e in
        let none = none-after m s u hs (subst (λ (i : ℕ). after i hs ≡ true) g f) in
        (λ i. (e i && (not (eqb (g i) s) && not (are_compatible m k.1))) || none i)
        ∙ (or-false (not (eqb u s) && not (are_compatible m k.1)) ∙ sym (ap (λ (b : Bool). not (eqb u s) && conflicts m (cond b (Some k.1) (seek u hs))) e))
    go (inr e) f next =
        ap (λ (b : Bool). (b && (not (eqb k.0 s) && not (are_compatible m k.1))) || rest) e
        ∙ (next ∙ sym (ap (λ (b : Bool). not (eqb u s) && conflicts m (cond b (Some k.1) (seek u hs))) e))

module _ (st : State) (l : ListedClaim) (u : ℕ) where
  -- the queue
  queue-told : (k : ClaimKind) (qs ys : List Claim) (xs : List ListedClaim) → is_request_kind k ≡ true → is_ahead l u xs ≡ stands_before u l.session ys
      → is_ahead l u (map (listed_as st k) qs ++ xs) ≡ stands_before u l.session (qs ++ ys)
  queue-told k [] ys xs is h = h
  queue-told k (q ∷ qs) ys xs is h =
      ap (λ (d : Bool). cond (d && eqb q.session l.session) false (((not (eqb q.session l.session) && (d || not (are_compatible l.mode q.mode))) && eqb q.session u) || is_ahead l u (map (listed_as st k) qs ++ xs))) is
      ∙ go (eqb q.session l.session) (queue-told k qs ys xs is h)
    where
      go : (b : Bool) → is_ahead l u (map (listed_as st k) qs ++ xs) ≡ stands_before u l.session (qs ++ ys)
          → cond (true && b) false (((not b && (true || not (are_compatible l.mode q.mode))) && eqb q.session u) || is_ahead l u (map (listed_as st k) qs ++ xs))
          ≡ cond b false (eqb q.session u || stands_before u l.session (qs ++ ys))
      go true e = refl
      go false e = ap (λ (b : Bool). eqb q.session u || b) e

  fresh-told : (qs : List Claim) → is_ahead l u (map (listed_as st Fresh) qs) ≡ stands_before u l.session qs
  fresh-told qs = ap (is_ahead l u) (sym (append-nil (map (listed_as st Fresh) qs))) ∙ (queue-told Fresh qs [] [] refl refl ∙ ap (stands_before u l.session) (append-nil qs))

  -- the holders
  holders-told : (r : List ℕ) (hs : List (ℕ × Mode)) (xs : List ListedClaim) → is_ahead l u (map (λ h. listed_as st Held (record { session = h.0; resource = r; mode = h.1 })) hs ++ xs)
      ≡ (list_any (λ h. eqb h.0 u && (not (eqb h.0 l.session) && not (are_compatible l.mode h.1))) hs || is_ahead l u xs)
  holders-told r [] xs = refl
  holders-told r (h ∷ hs) xs =
      let here = not (eqb h.0 l.session) && not (are_compatible l.mode h.1) in
      let others = list_any (λ (j : ℕ × Mode). eqb j.0 u && (not (eqb j.0 l.session) && not (are_compatible l.mode j.1))) hs in
      (λ i. and_comm here (eqb h.0 u) i || holders-told r hs xs i) ∙ sym (or_assoc (eqb h.0 u && here) others (is_ahead l u xs))

module _ (es : List Entry) where
  -- who is ahead of a request is who keeps it waiting
  ahead-told : (s u : ℕ) (q : Claim) → request_of s (state_of es).table.requests ≡ Some q
      → is_ahead (listed_as (state_of es) (kind_of_request (state_of es) q) q) u (claims_on q.resource (listing_of (state_of es))) ≡ waits_for (state_of es).table s u
  ahead-told s u q e =
      let st = state_of es in
      let t = st.table in
      let l = listed_as st (kind_of_request st q) q in
      let r = q.resource in
      let held = map (λ h. listed_as st Held (record { session = h.0; resource = r; mode = h.1 })) (holders r t.held) in
      let converting = map (listed_as st Conversion) (conversions t r) in
      let fresh = map (listed_as st Fresh) (fresh_requests t r) in
      let mode : seek u (holders r t.held) ≡ held_mode t u r = sym (mode_in-seek u r t.held) in
      ap (is_ahead l u) ((listing-shows es).lines r ∙ append_assoc held converting fresh)
      ∙ (holders-told st l u r (holders r t.held) (converting ++ fresh)
      ∙ ((λ i. holder-told q.mode q.session u (holders r t.held) ((state-lawful es).sound.order r) i || queue-told st l u Conversion (conversions t r) (fresh_requests t r) fresh refl (fresh-told st l u (fresh_requests t r)) i)
      ∙ (ap (λ (o : Option Mode). (not (eqb u q.session) && conflicts q.mode o) || stands_before u q.session (queue t r)) mode
      ∙ (both q.session (queue t r) (eqb u q.session) refl (conflicts q.mode (held_mode t u r))
      ∙ (ap (λ (j : ℕ). not (eqb u j) && keeps_waiting t u (Some q)) (request_of-session s t.requests q e)
      ∙ ap (λ (o : Option Claim). not (eqb u s) && keeps_waiting t u o) (sym e))))))
    where
      both : (j : ℕ) (qs : List Claim) (x : Bool) → eqb u j ≡ x → (c : Bool) → ((not x && c) || stands_before u j qs) ≡ (not x && (c || stands_before u j qs))
      both j qs true f c = let g = (Decides-eqb u j).0 f in ap (λ (k : ℕ). stands_before k j qs) g ∙ stands-self j qs
      both j qs false f c = refl

  module _ (n : ℕ) (asker : (s : ℕ) (q : Claim) → request_of s (state_of es).table.requests ≡ Some q → is_some ((state_of es).begun s) ≡ true) where
    -- the waits of one session
    by-told : (s : ℕ) (x : Option Transaction) (q : Option Claim) → request_of s (state_of es).table.requests ≡ q → (is_some q ≡ true → is_some x ≡ true)
        → flat_map (λ (o : OpenTransaction). waits_of_request n (listing_of (state_of es)) (request_listed o.session (requests_among (listing_of (state_of es))))) (open_of s x) ≡ waits_by n (state_of es) s
    by-told s None None e begun = sym (no-waits (state_of es) s n e)
    by-told s None (Some q) e begun = let bad : false ≡ true = begun refl in absurd (cc)
    by-told s (Some x) o e begun =
        append-nil (waits_of_request n (listing_of (state_of es)) (request_listed s (requests_among (listing_of (state_of es)))))
        ∙ (ap (waits_of_request n (listing_of (state_of es))) (request-told es s ∙ ap (listed_request (state_of es)) e) ∙ go o e)
      where
        go : (p : Option Claim) → request_of s (state_of es).table.requests ≡ p → waits_of_request n (listing_of (state_of es)) (listed_request (state_of es) p) ≡ waits_by n (state_of es) s
        go None f = sym (no-waits (state_of es) s n f)
        go (Some p) f =
            let st = state_of es in
            let l = listed_as st (kind_of_request st p) p in
            let made : ℕ → WaitFor = λ u. record { session = p.session; other = u } in
            kept-flat (λ (w : WaitFor). is_ahead l w.other (claims_on p.resource (listing_of st))) made (range_with_len 1 n)
            ∙ (λ i. flat_map (λ u. cond (ahead-told s u p f i) (record { session = request_of-session s st.table.requests p f i; other = u } ∷ []) []) (range_with_len 1 n))

    asked : (s : ℕ) (q : Option Claim) → request_of s (state_of es).table.requests ≡ q → is_some q ≡ true → is_some ((state_of es).begun s) ≡ true
    asked s None e h = absurd (cc)
    asked s (Some q) e h = asker s q e

    -- the waits of all sessions
    pub waits-follow : waits_among n (opens_of n (state_of es)) (listing_of (state_of es)) ≡ waits_of n (state_of es)
    waits-follow =
        let row = λ (o : OpenTransaction). waits_of_request n (listing_of (state_of es)) (request_listed o.session (requests_among (listing_of (state_of es)))) in
        flat-flat row (λ s. open_of s ((state_of es).begun s)) (range_with_len 1 n)
        ∙ (λ i. flat_map (λ s. by-told s ((state_of es).begun s) (request_of s (state_of es).table.requests) refl (asked s (request_of s (state_of es).table.requests) refl) i) (range_with_len 1 n))
