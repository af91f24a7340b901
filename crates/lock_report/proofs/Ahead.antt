-- Who stands ahead of a request, claim by claim.
use Rattle.std.proofs.Common.{◌≡◌, ℕ, ◌+◌, ◌<◌, ◌≤◌, Bool, true, false, cond, eqb, ◌&&◌, ◌||◌, List, [], ◌∷◌, ◌++◌, Some, drop, filter, map, get_or, length, sym, ap, ◌∙◌, arith, append_assoc}
use Rattle.std.specs.List.{range_with_len}
use Rattle.std.proofs.Math.Bool.{or-false, or_assoc}
use Rattle.std.proofs.lemmas.List.{drop_all, drop_more}
use Rattle.std.proofs.lemmas.List.FromFn.{filter_of_map_range_with_len_more}
use Rattle.lock_tree.specs.Paths.{same_path}
use Rattle.lock_rules.specs.declared.listing.Claim.{Claim}
use Rattle.lock_report.specs.declared.snapshot.WaitFor.{WaitFor}
use Rattle.lock_report.specs.Blocking.{claims_on, is_ahead, is_in_the_way, is_own, waits_of}
use Rattle.lock_report.specs.inner.Blocking.{wait_if}
use Rattle.lock_report.specs.inner.Contended.{is_wanted}

module _ (q : Claim) (u : ℕ) (cs : List Claim) (i : ℕ) (c : Claim) where
  -- what the claim tells, and those behind it
  at-item : i < length cs → c ≡ get_or cs i c → is_ahead q u (drop i cs) ≡ cond (is_own q c) false ((is_in_the_way q c && eqb c.session u) || is_ahead q u (drop (i + 1) cs))
  at-item lt is = ap (is_ahead q u) (drop_more cs i c lt ∙ ap (λ (d : Claim). d ∷ drop (i + 1) cs) (sym is))

  -- nobody is ahead from the request itself on
  pub at-own : (a : Bool) → i < length cs → c ≡ get_or cs i c → is_own q c ≡ true → (a || is_ahead q u (drop i cs)) ≡ is_ahead q u cs → a ≡ is_ahead q u cs
  at-own a lt is own so_far =
      let rest = (is_in_the_way q c && eqb c.session u) || is_ahead q u (drop (i + 1) cs) in
      sym (or-false a) ∙ (ap (λ (b : Bool). a || b) (sym (at-item lt is ∙ ap (λ (b : Bool). cond b false rest) own)) ∙ so_far)

  -- with one claim more
  pub at-other : (a more : Bool) → i < length cs → c ≡ get_or cs i c → is_own q c ≡ false → more ≡ (a || (is_in_the_way q c && eqb c.session u))
      → (a || is_ahead q u (drop i cs)) ≡ is_ahead q u cs → (more || is_ahead q u (drop (i + 1) cs)) ≡ is_ahead q u cs
  at-other a more lt is own with-it so_far =
      let here = is_in_the_way q c && eqb c.session u in
      let rest = is_ahead q u (drop (i + 1) cs) in
      ap (λ (b : Bool). b || rest) with-it
      ∙ (or_assoc a here rest
      ∙ (ap (λ (b : Bool). a || b) (sym (at-item lt is ∙ ap (λ (b : Bool). cond b false (here || rest)) own)) ∙ so_far))

-- behind the last claim nobody is ahead
pub at-end : (q : Claim) (u : ℕ) (cs : List Claim) (i : ℕ) (a : Bool) → length cs ≤ i → (a || is_ahead q u (drop i cs)) ≡ is_ahead q u cs → a ≡ is_ahead q u cs
at-end q u cs i a end so_far = sym (or-false a) ∙ (ap (λ (l : List Claim). a || is_ahead q u l) (sym (drop_all i cs end)) ∙ so_far)

-- the claims that are wanted by one request
pub one-wanted : (q : Claim) (claims : List Claim) → filter (λ (c : Claim). is_wanted (q ∷ []) c.resource) claims ≡ claims_on q.resource claims
one-wanted q claims = λ i. filter (λ (c : Claim). or-false (same_path c.resource q.resource) i) claims

-- with the wait for the next session
pub next-wait : (n : ℕ) (claims queue : List Claim) (q : Claim) (b : Bool) (start out out2 : List WaitFor) → queue ≡ claims_on q.resource claims → b ≡ is_ahead q (n + 1) queue
    → out ≡ start ++ waits_of n claims (Some q) → out2 ≡ out ++ wait_if b q.session (n + 1) → out2 ≡ start ++ waits_of (n + 1) claims (Some q)
next-wait n claims queue q b start out out2 on is so_far more =
    let p = λ (w : WaitFor). is_ahead q w.other (claims_on q.resource claims) in
    let f : ℕ → WaitFor = λ u. record { session = q.session; other = u } in
    let told : b ≡ p (f (n + 1)) = is ∙ ap (is_ahead q (n + 1)) on in
    more
    ∙ ((λ i. so_far i ++ wait_if (told i) q.session (n + 1))
    ∙ (append_assoc start (filter p (map f (range_with_len 1 n))) (wait_if (p (f (n + 1))) q.session (n + 1))
    ∙ ap (λ (l : List WaitFor). start ++ l) (sym (filter_of_map_range_with_len_more p f 1 n (n + 1) (omega arith)))))
