-- The claims of a session in a list that ascends by session, and in one that it was sorted from.
use Rattle.std.proofs.Common.{◌≡◌, ℕ, suc, ◌+◌, ◌<◌, ◌≤◌, Bool, true, false, cond, not, ◌&&◌, ◌==◌, ltb, leb, ltb-true, ltb-false, leb-true, leb-false, List, [], ◌∷◌, ◌++◌, filter, get_or, take, drop, length, length-take, length-drop, take_all, ◌-◌, refl, ap, sym, subst, ◌∙◌, arith}
use Rattle.std.specs.List.Sorted.{IsPartitionPoint, IsStableByKey}
use Rattle.std.specs.Ordering.{nat_cmp, is_lt}
use Rattle.std.specs.declared.cmp.Ordering.TheVariants.{Less, Equal, Greater}
use Rattle.std.proofs.Math.Path.{fun_ext}
use Rattle.std.proofs.lemmas.Bool.Decides.{nat_tests}
use Rattle.std.proofs.lemmas.List.{get_or-take, get_or-drop, take-append-drop, append-nil}
use Rattle.std.proofs.lemmas.List.Sorted.{IsNonDecreasingBy-drop}
use Rattle.std.proofs.lemmas.List.Elements.{filter-append}
use Rattle.lock_modes.specs.declared.Mode.TheVariants.{NL}
use Rattle.lock_rules.specs.declared.listing.Claim.{Claim}
use Rattle.lock_rules.specs.declared.listing.ClaimKind.TheVariants.{Held}
use Rattle.lock_report.specs.StateText.{claims_of}
use Rattle.lock_report.specs.inner.BySession.{Ascends, session_of}

-- Sorted by session.

-- A claim of the session.
claim_of : ℕ → Claim
claim_of s = record { resource = []; session = s; transaction = record { number = 0; doomed = false }; mode = NL; kind = Held }

-- The test for less than, from the two tests that an order of numbers makes.
less_is : (below same : Bool) → is_lt (cond below Less (cond same Equal Greater)) ≡ below
less_is true same = refl
less_is false true = refl
less_is false false = refl

-- Two numbers are equal exactly if neither is less.
neither_is : (s n : ℕ) → (not (ltb s n) && not (ltb n s)) ≡ (n == s)
neither_is s n = grind (arith, nat_tests)

-- Two sessions tie in the order of numbers exactly if they are equal.
tie_is : (s n : ℕ) → (not (is_lt (nat_cmp s n)) && not (is_lt (nat_cmp n s))) ≡ (n == s)
tie_is s n =
    ap (λ (b : Bool). not b && not (is_lt (nat_cmp n s))) (less_is (ltb s n) (s == n))
    ∙ ap (λ (b : Bool). not (ltb s n) && not b) (less_is (ltb n s) (n == s)) ∙ neither_is s n

-- A stable sort by session keeps the claims of each session in their order.
pub stable_keeps : (claims sorted : List Claim) (s : ℕ) → IsStableByKey session_of nat_cmp claims sorted → claims_of s sorted ≡ claims_of s claims
unfolding claim_of
stable_keeps claims sorted s stable =
    let same : (λ (c : Claim). not (is_lt (nat_cmp s c.session)) && not (is_lt (nat_cmp c.session s))) ≡ (λ (c : Claim). c.session == s) = fun_ext (λ c. tie_is s c.session) in
    sym (ap (λ (p : Claim → Bool). filter p sorted) same) ∙ stable (claim_of s) ∙ ap (λ (p : Claim → Bool). filter p claims) same

-- Found by two binary searches.

-- A list of claims of other sessions has none of the session.
none_of : (s : ℕ) (cs : List Claim) → ((k : ℕ) (d : Claim) → k < length cs → ((get_or cs k d).session == s) ≡ false) → claims_of s cs ≡ []
none_of s [] other = refl
none_of s (c ∷ cs) other = rw (other 0 c (omega arith)) (none_of s cs (λ k d lt. other (suc k) d (omega arith)))

-- Of a list of claims of the session, all are the session's.
all_of : (s : ℕ) (cs : List Claim) → ((k : ℕ) (d : Claim) → k < length cs → ((get_or cs k d).session == s) ≡ true) → claims_of s cs ≡ cs
all_of s [] own = refl
all_of s (c ∷ cs) own = rw (own 0 c (omega arith)) (ap (λ (t : List Claim). c ∷ t) (all_of s cs (λ k d lt. own (suc k) d (omega arith))))

-- The claims of a list in two parts.
in_parts : (s : ℕ) (i : ℕ) (cs : List Claim) → claims_of s cs ≡ claims_of s (take i cs) ++ claims_of s (drop i cs)
in_parts s i cs = ap (λ (xs : List Claim). claims_of s xs) (sym (take-append-drop i cs)) ∙ filter-append (λ (c : Claim). c.session == s) (take i cs) (drop i cs)

-- A lower session, an equal one, and a higher one.
lower_differs : (n s : ℕ) → ltb n s ≡ true → (n == s) ≡ false
lower_differs n s below = let lt = ltb-true n s below in grind (arith, nat_tests)

between_is : (n s : ℕ) → ltb n s ≡ false → leb n s ≡ true → (n == s) ≡ true
between_is n s least most = let ge = ltb-false n s least in let le = leb-true n s most in grind (arith, nat_tests)

higher_differs : (n s : ℕ) → leb n s ≡ false → (n == s) ≡ false
higher_differs n s above = let gt = leb-false n s above in grind (arith, nat_tests)

-- Between the first claim that isn't of a lower session, and the first after it that is of a higher one.
found : (s first count : ℕ) (cs : List Claim) → first ≤ length cs → count ≤ length (drop first cs)
    → IsPartitionPoint (λ (c : Claim). ltb c.session s ≡ true) (λ (c : Claim). ltb c.session s ≡ false) cs first
    → IsPartitionPoint (λ (c : Claim). leb c.session s ≡ true) (λ (c : Claim). leb c.session s ≡ false) (drop first cs) count
    → take count (drop first cs) ≡ claims_of s cs
found s first count cs first_in count_in lower upper =
    let from : List Claim = drop first cs in
    let before : claims_of s (take first cs) ≡ [] =
    none_of s (take first cs) (λ k d lt. let low : k < first = omega (arith, length-take first cs) in rw (get_or-take first cs k d low) (lower_differs _ s (lower.0 k d (omega arith) low))) in
    let own : claims_of s (take count from) ≡ take count from =
    all_of s (take count from) (λ k d lt.
    let low : k < count = omega (arith, length-take count from) in
    let there : first + k < length cs = omega (arith, length-drop first cs) in
    rw (get_or-take count from k d low) (between_is _ s (rw (get_or-drop first cs k d) (lower.1 (first + k) d (omega arith) there)) (upper.0 k d (omega arith) low))) in
    let after : claims_of s (drop count from) ≡ [] =
    none_of s (drop count from) (λ k d lt. let there : count + k < length from = omega (arith, length-drop count from) in rw (get_or-drop count from k d) (higher_differs _ s (upper.1 (count + k) d (omega arith) there))) in
    sym (in_parts s first cs ∙ ap (λ (t : List Claim). t ++ claims_of s from) before
    ∙ in_parts s count from ∙ ap (λ (t : List Claim). t ++ claims_of s (drop count from)) own ∙ ap (λ (t : List Claim). take count from ++ t) after ∙ append-nil (take count from))

-- The rest of a list, as a slice from a place to the end.
pub rest_is : (first : ℕ) (cs : List Claim) → drop first cs ≡ take (length cs - first) (drop first cs)
rest_is first cs = sym (take_all (length cs - first) (drop first cs) (omega (arith, length-drop first cs)))

-- The claims behind a place ascend, if all do.
pub rest_ascends : (first : ℕ) (cs rest : List Claim) → drop first cs ≡ rest → Ascends cs → Ascends rest
rest_ascends first cs rest is up = subst Ascends is (IsNonDecreasingBy-drop session_of first cs up)

-- The same for the rest by its name.
pub found_in_rest : (s first count : ℕ) (cs rest : List Claim) → drop first cs ≡ rest → first ≤ length cs → count ≤ length rest
    → IsPartitionPoint (λ (c : Claim). ltb c.session s ≡ true) (λ (c : Claim). ltb c.session s ≡ false) cs first
    → IsPartitionPoint (λ (c : Claim). leb c.session s ≡ true) (λ (c : Claim). leb c.session s ≡ false) rest count
    → take count rest ≡ claims_of s cs
found_in_rest s first count cs rest is first_in count_in lower upper =
    let P : List Claim → Type 0 = λ xs. count ≤ length xs → IsPartitionPoint (λ (c : Claim). leb c.session s ≡ true) (λ (c : Claim). leb c.session s ≡ false) xs count → take count xs ≡ claims_of s cs in
    subst P is (λ inside higher. found s first count cs first_in inside lower higher) count_in upper
