-- The sessions of a dump.
use Rattle.std.proofs.Common.{◌≡◌, ℕ, ◌+◌, ◌<◌, Bool, true, false, cond, eqb, List, [], ◌∷◌, ◌++◌, Option, Some, None, map, subst, refl, sym, ap, ◌∙◌, arith}
use Rattle.std.specs.Prelude.{All}
use Rattle.std.specs.List.{range_with_len}
use Rattle.std.proofs.lemmas.Bool.Decides.{Decides-eqb}
use Rattle.std.proofs.lemmas.List.Elements.{All-append, All-cons, All-filter, All-head, All-nil, All-tail}
use Rattle.std.proofs.lemmas.List.FromFn.{get_or-map-range_with_len, length-map-range_with_len}
use Rattle.lock_rules.specs.declared.listing.Claim.{Claim}
use Rattle.lock_report.specs.declared.snapshot.OpenTransaction.{OpenTransaction}
use Rattle.lock_report.specs.declared.snapshot.WaitFor.{WaitFor}
use Rattle.lock_report.specs.declared.reading.row.StateRow.TheVariants as row
use Rattle.lock_report.specs.declared.reading.state.StateLists.{StateLists}
use Rattle.lock_report.specs.ReadRows.{IsOpen, IsRow, IsSession, IsWait}
use Rattle.lock_report.specs.ReadStates.{AreLists}
use Rattle.lock_report.specs.Blockers.{request_of, requests_among}
use Rattle.lock_report.specs.Blocking.{claims_on, is_ahead, waits_among, waits_of}

-- what holds of a list holds of its front
front : {X : Type 0} (P : X → Type 0) (xs ys : List X) → All P (xs ++ ys) → All P xs
front P [] ys all = All-nil P
front P (x ∷ xs) ys all = All-cons P x xs (All-head P x (xs ++ ys) all) (front P xs ys (All-tail P x (xs ++ ys) all))

-- what holds of the images of a list
unmapped : {X Y : Type 0} (P : X → Type 0) (f : Y → X) (ys : List Y) → All P (map f ys) → All (λ y. P (f y)) ys
unmapped P f [] all = All-nil (λ y. P (f y))
unmapped P f (y ∷ ys) all = All-cons (λ y. P (f y)) y ys (All-head P (f y) (map f ys) all) (unmapped P f ys (All-tail P (f y) (map f ys) all))

-- the sessions of a dump's open transactions are its sessions
pub opens_within : (n : ℕ) (l : StateLists) → AreLists n l → All (λ o. IsSession n o.session) l.opens.items
opens_within n l all =
    let is : All (IsOpen n) l.opens.items =
    unmapped (IsRow n) row.Transaction l.opens.items (front (IsRow n) (map row.Transaction l.opens.items) (map row.Claim l.claims.items ++ map row.Wait l.waits.items) all.rows) in
    λ i d lt. (is i d lt).0

-- a request that is found is of the session
own-request : (s : ℕ) (qs : List Claim) (q : Claim) → request_of s qs ≡ Some q → q.session ≡ s
own-request s [] q e = absurd (cc)
own-request s (c ∷ qs) q e = go (eqb c.session s) refl e (own-request s qs q)
  where
    go : (b : Bool) → eqb c.session s ≡ b → cond b (Some c) (request_of s qs) ≡ Some q → (request_of s qs ≡ Some q → q.session ≡ s) → q.session ≡ s
    go true is h next = let same : c ≡ q = cc in ap (λ (x : Claim). x.session) (sym same) ∙ (Decides-eqb c.session s).0 is
    go false is h next = next h

-- so are the sessions of the waits that follow
one-within : (n : ℕ) (claims : List Claim) (s : ℕ) (o : Option Claim) → IsSession n s → request_of s (requests_among claims) ≡ o → All (IsWait n) (waits_of n claims o)
one-within n claims s None is e = All-nil (IsWait n)
one-within n claims s (Some q) is e =
    let f : ℕ → WaitFor = λ u. record { session = q.session; other = u } in
    All-filter (λ (w : WaitFor). is_ahead q w.other (claims_on q.resource claims)) (IsWait n) (map f (range_with_len 1 n)) (λ i d lt.
    let below : i < n = subst (λ (k : ℕ). i < k) (length-map-range_with_len f 1 n) lt in
    subst (IsWait n) (sym (get_or-map-range_with_len f 1 n i (i + 1) d below (omega arith)))
    (subst (IsSession n) (sym (own-request s (requests_among claims) q e)) is, (omega arith, omega (arith, below))))

pub waits_within : (n : ℕ) (opens : List OpenTransaction) (claims : List Claim) → All (λ o. IsSession n o.session) opens → All (IsWait n) (waits_among n opens claims)
waits_within n [] claims is = All-nil (IsWait n)
waits_within n (o ∷ os) claims is =
    All-append (IsWait n) (waits_of n claims (request_of o.session (requests_among claims))) (waits_among n os claims)
    (one-within n claims o.session (request_of o.session (requests_among claims)) (All-head (λ p. IsSession n p.session) o os is) refl) (waits_within n os claims (All-tail (λ p. IsSession n p.session) o os is))
