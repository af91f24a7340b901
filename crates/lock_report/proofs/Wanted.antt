-- The claims on resources that somebody waits for: who waits is told of by them as by all claims.
use Rattle.std.proofs.Common.{◌≡◌, ℕ, ◌+◌, ◌<◌, Bool, true, false, cond, eqb, ◌&&◌, ◌||◌, List, [], ◌∷◌, ◌++◌, Option, Some, None, filter, map, take, get_or, length, append-nil, refl, sym, ◌∙◌, ap, ap₂}
use Rattle.std.proofs.Math.Bool.{or-false}
use Rattle.std.proofs.lemmas.List.Folds.{list_any-append}
use Rattle.std.specs.List.{flat_map, list_any, range_with_len}
use Rattle.std.proofs.lemmas.Bool.{or_left, or_right}
use Rattle.std.proofs.lemmas.List.{flat_map_more, take_more}
use Rattle.std.proofs.lemmas.List.Elements.{filter-append}
use Rattle.lock_tree.specs.Paths.{same_path}
use Rattle.lock_report.proofs.Pieces.{with_next}
use Rattle.lock_rules.specs.declared.listing.Claim.{Claim}
use Rattle.lock_rules.proofs.Lists.{same_path-refl, same_path-true}
use Rattle.lock_report.specs.declared.snapshot.OpenTransaction.{OpenTransaction}
use Rattle.lock_report.specs.declared.snapshot.WaitFor.{WaitFor}
use Rattle.lock_report.specs.Blockers.{first_blocker, is_waited_for, request_of, requests_among, told_behind, told_of, waits_by}
use Rattle.lock_report.specs.Blocking.{claims_on, is_ahead, waits_of}
use Rattle.lock_report.specs.inner.Contended.{is_wanted}

-- a set of resources

-- a resource that is the same as one of them is among them
same-there : (r x : List ℕ) (ks : List (List ℕ)) → list_any (same_path x) ks ≡ true → list_any (same_path r) ks ≡ (list_any (same_path r) ks || same_path r x)
same-there r x ks there = go (same_path r x) refl
  where
    go : (b : Bool) → same_path r x ≡ b → list_any (same_path r) ks ≡ (list_any (same_path r) ks || b)
    go true is =
        let same : r ≡ x = same_path-true r x is in
        let has : list_any (same_path r) ks ≡ true = ap (λ (y : List ℕ). list_any (same_path y) ks) same ∙ there in
        has ∙ sym (ap (λ (b : Bool). b || true) has)
    go false is = sym (or-false (list_any (same_path r) ks))

-- with one resource more
one-more : (r x : List ℕ) (ks : List (List ℕ)) (b : Bool) → list_any (same_path x) ks ≡ b → list_any (same_path r) (cond b ks (ks ++ x ∷ [])) ≡ (list_any (same_path r) ks || same_path r x)
one-more r x ks true is = same-there r x ks is
one-more r x ks false is = list_any-append (same_path r) ks (x ∷ []) ∙ ap (λ (b : Bool). list_any (same_path r) ks || b) (or-false (same_path r x))

-- with that of the next request, the resources are those of one request more; `eq` is how the set compares them
pub next_wanted : (eq : List ℕ → List ℕ → Bool) → ((a b : List ℕ) → eq a b ≡ same_path a b) → (qs : List Claim) (i : ℕ) (q : Claim) (ks news : List (List ℕ)) → i < length qs → q ≡ get_or qs i q
    → ((r : List ℕ) → list_any (same_path r) ks ≡ is_wanted (take i qs) r) → news ≡ cond (list_any (eq q.resource) ks) ks (ks ++ q.resource ∷ [])
    → (r : List ℕ) → list_any (same_path r) news ≡ is_wanted (take (i + 1) qs) r
next_wanted eq same qs i q ks news lt at so_far more r =
    let x : List ℕ = q.resource in
    let is : list_any (same_path x) ks ≡ list_any (eq x) ks = (λ j. list_any (λ y. sym (same x y) j) ks) in
    ap (list_any (same_path r)) more
    ∙ (one-more r x ks (list_any (eq x) ks) is
    ∙ (ap₂ (λ (a b : Bool). a || b) (so_far r) (sym (or-false (same_path r x)))
    ∙ (sym (list_any-append (λ (k : Claim). same_path r k.resource) (take i qs) (q ∷ []))
    ∙ ap (λ (xs : List Claim). is_wanted xs r) (sym (with_next qs i q lt at)))))

-- one claim more, kept if it passes
pub kept_more : (p : Claim → Bool) (cs : List Claim) (i : ℕ) (c : Claim) (b : Bool) (out out2 : List Claim) → i < length cs → c ≡ get_or cs i c → b ≡ p c
    → out ≡ filter p (take i cs) → out2 ≡ cond b (out ++ c ∷ []) out → out2 ≡ filter p (take (i + 1) cs)
kept_more p cs i c b out out2 lt at is so_far more =
    more ∙ both b is so_far ∙ sym (ap (filter p) (with_next cs i c lt at) ∙ filter-append p (take i cs) (c ∷ []))
  where
    both : (d : Bool) → d ≡ p c → out ≡ filter p (take i cs) → cond d (out ++ c ∷ []) out ≡ filter p (take i cs) ++ filter p (c ∷ [])
    both true e f = (λ j. f j ++ cond (e j) (c ∷ []) [])
    both false e f = f ∙ (sym (append-nil (filter p (take i cs))) ∙ (λ j. filter p (take i cs) ++ cond (e j) (c ∷ []) []))

-- who waits

-- the first blocker is on the resource that is waited for, so other claims don't tell of it
blocker-kept : (waits : List WaitFor) (r : List ℕ) (p : Claim → Bool) → ((c : Claim) → same_path c.resource r ≡ true → p c ≡ true) → (cs : List Claim) → first_blocker waits r (filter p cs) ≡ first_blocker waits r cs
blocker-kept waits r p on [] = refl
blocker-kept waits r p on (c ∷ cs) = go (p c) (same_path c.resource r) (on c) (blocker-kept waits r p on cs) refl
  where
    go : (a b : Bool) → (b ≡ true → a ≡ true) → first_blocker waits r (filter p cs) ≡ first_blocker waits r cs → same_path c.resource r ≡ b
        → first_blocker waits r (cond a (c ∷ filter p cs) (filter p cs)) ≡ cond (b && is_waited_for c.session waits) (Some c.session) (first_blocker waits r cs)
    go true b on e is =
        ap (λ (k : Bool). cond (k && is_waited_for c.session waits) (Some c.session) (first_blocker waits r (filter p cs))) is
        ∙ ap (cond (b && is_waited_for c.session waits) (Some c.session)) e
    go false true on e is = let bad : false ≡ true = on refl in absurd (cc)
    go false false on e is = e

-- a request that is found is for a resource that is waited for
found-wanted : (s : ℕ) (qs : List Claim) (q : Claim) → request_of s qs ≡ Some q → is_wanted qs q.resource ≡ true
found-wanted s [] q e = absurd (cc)
found-wanted s (x ∷ qs) q e = go (found-wanted s qs q) (eqb x.session s) e
  where
    go : (request_of s qs ≡ Some q → is_wanted qs q.resource ≡ true) → (b : Bool) → cond b (Some x) (request_of s qs) ≡ Some q → (same_path q.resource x.resource || is_wanted qs q.resource) ≡ true
    go next true h = let same : x ≡ q = cc in or_left (same_path q.resource x.resource) (is_wanted qs q.resource) (ap (same_path q.resource) (ap (λ (y : Claim). y.resource) same) ∙ same_path-refl q.resource)
    go next false h = or_right (same_path q.resource x.resource) (is_wanted qs q.resource) (next h)

-- nor do other claims tell who stands ahead on it
on-kept : (r : List ℕ) (p : Claim → Bool) → ((c : Claim) → same_path c.resource r ≡ true → p c ≡ true) → (cs : List Claim) → claims_on r (filter p cs) ≡ claims_on r cs
on-kept r p on [] = refl
on-kept r p on (c ∷ cs) = go (p c) (same_path c.resource r) (on c) (on-kept r p on cs) refl
  where
    go : (a b : Bool) → (b ≡ true → a ≡ true) → claims_on r (filter p cs) ≡ claims_on r cs → same_path c.resource r ≡ b → claims_on r (cond a (c ∷ filter p cs) (filter p cs)) ≡ cond b (c ∷ claims_on r cs) (claims_on r cs)
    go true b on e is = ap (λ (k : Bool). cond k (c ∷ claims_on r (filter p cs)) (claims_on r (filter p cs))) is ∙ ap (λ (l : List Claim). cond b (c ∷ l) l) e
    go false true on e is = let bad : false ≡ true = on refl in absurd (cc)
    go false false on e is = e

-- the claims on the resource of a request that is found are wanted
wanted-on : (qs : List Claim) (s : ℕ) (q : Claim) → request_of s qs ≡ Some q → (c : Claim) → same_path c.resource q.resource ≡ true → is_wanted qs c.resource ≡ true
wanted-on qs s q is c on = let same : c.resource ≡ q.resource = same_path-true c.resource q.resource on in ap (is_wanted qs) same ∙ found-wanted s qs q is

-- the waits of a request that is found
pub told-kept : (waits : List WaitFor) (claims qs : List Claim) (s : ℕ) (o : Option Claim) → request_of s qs ≡ o
    → told_of (filter (λ (c : Claim). is_wanted qs c.resource) claims) waits o ≡ told_of claims waits o
told-kept waits claims qs s None is = refl
told-kept waits claims qs s (Some q) is =
    let own = waits_by q.session waits in
    ap (told_behind q.session own) (blocker-kept own q.resource (λ (c : Claim). is_wanted qs c.resource) (wanted-on qs s q is) claims)

pub waits-kept : (n : ℕ) (claims qs : List Claim) (s : ℕ) (o : Option Claim) → request_of s qs ≡ o → waits_of n (filter (λ (c : Claim). is_wanted qs c.resource) claims) o ≡ waits_of n claims o
waits-kept n claims qs s None is = refl
waits-kept n claims qs s (Some q) is =
    ap (λ (l : List Claim). filter (λ (w : WaitFor). is_ahead q w.other l) (map (λ u. record { session = q.session; other = u }) (range_with_len 1 n))) (on-kept q.resource (λ (c : Claim). is_wanted qs c.resource) (wanted-on qs s q is) claims)

-- with what is listed of the next session, it is listed of one session more; the requests are looked through in two places
pub next_listed : {X : Type 0} (f : List Claim → Option Claim → List X)
    → ((claims qs : List Claim) (s : ℕ) (o : Option Claim) → request_of s qs ≡ o → f (filter (λ (c : Claim). is_wanted qs c.resource) claims) o ≡ f claims o)
    → (claims kept qs rs : List Claim) (opens : List OpenTransaction) (i : ℕ) (d : OpenTransaction) (r : Option Claim) (out out2 : List X)
    → i < length opens → qs ≡ requests_among claims → rs ≡ requests_among claims → kept ≡ filter (λ (c : Claim). is_wanted qs c.resource) claims
    → r ≡ request_of (get_or opens i d).session rs
    → out ≡ flat_map (λ o. f claims (request_of o.session (requests_among claims))) (take i opens) → out2 ≡ out ++ f kept r
    → out2 ≡ flat_map (λ o. f claims (request_of o.session (requests_among claims))) (take (i + 1) opens)
next_listed {X} f alike claims kept qs rs opens i d r out out2 lt are all keeps asked so_far more =
    let o : OpenTransaction = get_or opens i d in
    let row = λ (x : OpenTransaction). f claims (request_of x.session (requests_among claims)) in
    more
    ∙ ((λ j. so_far j ++ f (keeps j) (asked j))
    ∙ ((λ j. flat_map row (take i opens) ++ f (filter (λ (c : Claim). is_wanted (are j) c.resource) claims) (request_of o.session (all j)))
    ∙ (ap (λ (t : List X). flat_map row (take i opens) ++ t) (alike claims (requests_among claims) o.session (request_of o.session (requests_among claims)) refl)
    ∙ (flat_map_more row [] (take i opens) o
    ∙ ap (flat_map row) (sym (take_more opens i d lt))))))
