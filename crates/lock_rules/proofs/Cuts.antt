-- What is left after a release, the end of a transaction or a cancelled request: the removal, and the promotion of the
-- resources that it frees.
use Rattle.std.proofs.Common.{◌≡◌, ℕ, ◌<◌, Bool, true, false, not, eqb, ◌&&◌, ◌||◌, ◌⊎◌, inl, inr, List, [], ◌∷◌, ◌++◌, length, Option, Some, None, refl, sym, ◌∙◌, ap, arith, map}
use Rattle.std.proofs.lemmas.Bool.Decides.{nat_tests}
use Rattle.std.proofs.lemmas.Bool.{cases_Bool}
use Rattle.lock_modes.specs.declared.Mode.{Mode}
use Rattle.lock_modes.specs.Order.{at_or_below}
use Rattle.lock_modes.proofs.Order.{at_or_below-refl}
use Rattle.lock_tree.specs.Paths.{same_path, is_ancestor, parent_of, has_parent}
use Rattle.lock_tree.proofs.Ancestors.{parent-ancestor}
use Rattle.lock_rules.specs.State.{Claim, Table, mode_in, held_mode, mode_or_nothing, request_of, claims_of, claims_but}
use Rattle.lock_rules.specs.Queue.{locks_but}
use Rattle.lock_rules.specs.Waits.{waits_for, resource_of_request, without_request, after_cancel}
use Rattle.lock_rules.specs.Step.{without_claims, after_end, lacks_parent, holds_child, after_release}
use Rattle.lock_rules.specs.Sound.{IsSound, Stands}
use Rattle.lock_rules.proofs.Lists.{ordered-filter, same_path_tells, claims_but-none, mode_in-locks_but, mode_in-locks_but_path, mode_in-locks_but_other, mode_in-claims_but, mode_in-claims_but_other}
use Rattle.lock_rules.proofs.Alters.{Alters, NoCircle, circle-alters, circle-alters_beside, true≢false}
use Rattle.lock_rules.proofs.Sound.{UnfitAt, eqb-swap, altered-sound, lacks-same, same-rises, unfit_at-alters, none-below, no_more-alters}
use Rattle.lock_rules.proofs.Promote.{Follows, follows-trans, ArePromoted, all-promoted, promoted-promoted, all-fewer, among, length-claims_but, length-claims_but_some, request-fewer}

-- what holds of the table between two calls: the invariant, no cycle, and no head of a queue that fits
pub record IsQuiescent (t : Table) : Type 0 where
  pub sound : IsSound t
  pub no_circle : NoCircle (waits_for t)
  pub unfit : (x : List ℕ) → UnfitAt t x

-- a release

-- the test for a held descendant finds a lock on one
pub child-held : (s : ℕ) (r x : List ℕ) (k : Mode) (cs : List Claim) → mode_in s x cs ≡ Some k → is_ancestor r x ≡ true → holds_child (record { held = cs; requests = [] }) s r ≡ true
child-held s r x k [] h a = absurd (cc)
child-held s r x k (c ∷ cs) h a = grind (arith, nat_tests, same_path_tells, child-held s r x k cs)

-- the table without the session's lock on r
abbrev pub one_less : ℕ → List ℕ → Table → Table
one_less s r t = record { held = locks_but s r t.held; requests = t.requests }

-- the removal of a lock of a session that doesn't wait is an `Alters`
pub less-alters : (s : ℕ) (r : List ℕ) (t : Table) → request_of s t.requests ≡ None → Alters s t (one_less s r t)
less-alters s r t n = record { requests = sym (claims_but-none s t.requests n); others = λ u x m. mode_in-locks_but_other u s x r t.held m; order = ordered-filter (λ c. not (eqb c.session s && same_path c.resource r)) t.held }

-- a lock left after the removal was there before, on another resource
pub less-held : (s : ℕ) (r x : List ℕ) (t : Table) (k : Mode) → mode_in s x (locks_but s r t.held) ≡ Some k → (same_path r x ≡ false) × (mode_in s x t.held ≡ Some k)
less-held s r x t k h = elim (same_path_tells r x) [
  | inr n ↦ (n, sym (mode_in-locks_but_path s s x r t.held n) ∙ h)
  | inl p ↦ let g = rw (← p.1) at h in let z = mode_in-locks_but s r t.held in absurd (cc)
]

-- the session's other locks keep their parents, if it holds no descendant of r
less-lacks : (s : ℕ) (r : List ℕ) (t : Table) → IsSound t → holds_child t s r ≡ false → (x : List ℕ) (k : Mode) → mode_in s x (locks_but s r t.held) ≡ Some k → lacks_parent (one_less s r t) s x k ≡ false
less-lacks s r t i c x k h = go (cases_Bool (has_parent x)) (same_path_tells r (parent_of x))
  where
    old : mode_in s x t.held ≡ Some k
    old = (less-held s r x t k h).1

    go : (has_parent x ≡ true) ⊎ (has_parent x ≡ false) → ((same_path r (parent_of x) ≡ true) × (r ≡ parent_of x)) ⊎ (same_path r (parent_of x) ≡ false) → lacks_parent (one_less s r t) s x k ≡ false
    go (inr n) p = rw n refl
    go (inl y) (inl p) = absurd (true≢false (child-held s r x k t.held old (rw p.1 (parent-ancestor x y))) c)
    go (inl y) (inr n) = lacks-same t (one_less s r t) s x k (mode_in-locks_but_path s s (parent_of x) r t.held n) (i.held_under s x k old).0

-- the session's other locks keep `Stands`, if it holds no descendant of r
less-under : (s : ℕ) (r : List ℕ) (t : Table) → IsSound t → holds_child t s r ≡ false → (x : List ℕ) (k : Mode) → mode_in s x (locks_but s r t.held) ≡ Some k → Stands (one_less s r t) s x k
less-under s r t i c x k h = (less-lacks s r t i c x k h, (i.held_under s x k (less-held s r x t k h).1).1)

-- the table without the lock is sound
pub less-sound : (s : ℕ) (r : List ℕ) (t : Table) → IsSound t → request_of s t.requests ≡ None → holds_child t s r ≡ false → IsSound (one_less s r t)
less-sound s r t i n c = altered-sound s t (one_less s r t) (less-alters s r t n) i (less-under s r t i c) (λ u x k l m e f. i.agree s u x k l (eqb-swap u s m) (less-held s r x t k e).1 f)

-- a release keeps what holds between two calls
pub released-lawful : (s : ℕ) (r : List ℕ) (t : Table) → IsQuiescent t → request_of s t.requests ≡ None → holds_child t s r ≡ false → IsQuiescent (after_release s r t)
released-lawful s r t i n c =
    let a = less-alters s r t n in
    let p = promoted-promoted r (one_less s r t) (less-sound s r t i.sound n c) in
    record {
      sound = p.follows.sound;
      no_circle = p.follows.circle (circle-alters s t (one_less s r t) a i.no_circle);
      unfit = λ x. elim (same_path_tells r x) [
        | inl q ↦ rw (← q.1) p.there
        | inr m ↦ p.elsewhere x m (unfit_at-alters s t (one_less s r t) x a (same-rises _ _ (mode_in-locks_but_path s s x r t.held m)) (λ q e. absurd (cc)) i.sound (i.unfit x))
      ];
    }

-- a release lowers no other lock
pub released-rises : (s : ℕ) (r : List ℕ) (t : Table) → IsSound t → request_of s t.requests ≡ None → holds_child t s r ≡ false → (u : ℕ) (x : List ℕ) → (eqb u s ≡ false) ⊎ (same_path r x ≡ false) → at_or_below (mode_or_nothing (held_mode t u x)) (mode_or_nothing (held_mode (after_release s r t) u x)) ≡ true
released-rises s r t i n c u x d =
    ap (λ (o : Option Mode). at_or_below (mode_or_nothing o) (mode_or_nothing (held_mode (after_release s r t) u x))) (sym (same d))
    ∙ (promoted-promoted r (one_less s r t) (less-sound s r t i n c)).follows.rises u x
  where
    same : (eqb u s ≡ false) ⊎ (same_path r x ≡ false) → mode_in u x (locks_but s r t.held) ≡ mode_in u x t.held
    same (inl m) = mode_in-locks_but_other u s x r t.held m
    same (inr m) = mode_in-locks_but_path u s x r t.held m

-- the end of a transaction

-- the removal of all claims of a session is an `Alters`
pub left-alters : (s : ℕ) (t : Table) → Alters s t (without_claims s t)
left-alters s t = record { requests = refl; others = λ u x m. mode_in-claims_but_other u s x t.held m; order = ordered-filter (λ c. not (eqb c.session s)) t.held }

-- a session holds nothing after its claims are removed
pub left-none : (s : ℕ) (t : Table) (x : List ℕ) (k : Mode) → mode_in s x (claims_but s t.held) ≡ Some k → ⊥
left-none s t x k h = let e = mode_in-claims_but s x t.held in cc

-- the table without the session's claims is sound
pub left-sound : (s : ℕ) (t : Table) → IsSound t → IsSound (without_claims s t)
left-sound s t i = altered-sound s t (without_claims s t) (left-alters s t) i (λ x k e. absurd (left-none s t x k e)) (λ u x k l m e f. absurd (left-none s t x k e))

-- a resource that isn't among those of the session's locks isn't held by it
unlisted : (s : ℕ) (x : List ℕ) (cs : List Claim) → among (map (λ (c : Claim). c.resource) (claims_of s cs)) x ≡ false → mode_in s x cs ≡ None
unlisted s x [] h = refl
unlisted s x (c ∷ cs) h = grind (arith, nat_tests, cases_Bool (same_path c.resource x), unlisted s x cs)

-- a resource that isn't in a concatenation is in neither list
among-append : (xs ys : List (List ℕ)) (x : List ℕ) → among (xs ++ ys) x ≡ false → (among xs x ≡ false) × (among ys x ≡ false)
among-append [] ys x h = (refl, h)
among-append (z ∷ xs) ys x h = go (same_path z x) (among-append xs ys x) h
  where
    go : (b : Bool) → (among (xs ++ ys) x ≡ false → (among xs x ≡ false) × (among ys x ≡ false)) → (b || among (xs ++ ys) x) ≡ false → ((b || among xs x) ≡ false) × (among ys x ≡ false)
    go true next h = absurd (cc)
    go false next h = next h

-- if x isn't the resource of a request, the request is for another
wanted-apart : (o : Option Claim) (x : List ℕ) → among (resource_of_request o) x ≡ false → (q : Claim) → o ≡ Some q → same_path q.resource x ≡ false
wanted-apart None x h q e = absurd (cc)
wanted-apart (Some p) x h q e = go (same_path p.resource x) h refl
  where
    go : (b : Bool) → (b || false) ≡ false → same_path p.resource x ≡ b → same_path q.resource x ≡ false
    go true h k = absurd (cc)
    go false h k = let same : p ≡ q = cc in ap (λ (c : Claim). same_path c.resource x) (sym same) ∙ k

-- the end of a transaction keeps what holds between two calls
pub ended-lawful : (s : ℕ) (t : Table) → IsQuiescent t → IsQuiescent (after_end s t)
ended-lawful s t i =
    let a = left-alters s t in
    let p = all-promoted (resource_of_request (request_of s t.requests) ++ map (λ (c : Claim). c.resource) (claims_of s t.held)) (without_claims s t) (left-sound s t i.sound) in
    record {
      sound = p.follows.sound;
      no_circle = p.follows.circle (circle-alters s t (without_claims s t) a i.no_circle);
      unfit = p.unfit (λ x n.
          let m = among-append (resource_of_request (request_of s t.requests)) (map (λ (c : Claim). c.resource) (claims_of s t.held)) x n in
          unfit_at-alters s t (without_claims s t) x a (none-below _ _ (unlisted s x t.held m.1)) (wanted-apart (request_of s t.requests) x m.0) i.sound (i.unfit x));
    }

-- the end of a transaction lowers no lock of another session
pub ended-rises : (s : ℕ) (t : Table) → IsSound t → (u : ℕ) (x : List ℕ) → eqb u s ≡ false → at_or_below (mode_or_nothing (held_mode t u x)) (mode_or_nothing (held_mode (after_end s t) u x)) ≡ true
ended-rises s t i u x n =
    ap (λ (o : Option Mode). at_or_below (mode_or_nothing o) (mode_or_nothing (held_mode (after_end s t) u x))) (sym (mode_in-claims_but_other u s x t.held n))
    ∙ (all-promoted (resource_of_request (request_of s t.requests) ++ map (λ (c : Claim). c.resource) (claims_of s t.held)) (without_claims s t) (left-sound s t i)).follows.rises u x

-- a victim

-- `Follows` holds of the removal of a request
no_more-follows : (v : ℕ) (t : Table) → IsSound t → Follows t (without_request v t)
no_more-follows v t i =
    let a = no_more-alters v t in
    record {
      sound = altered-sound v t (without_request v t) a i (λ x k e. i.held_under v x k e) (λ u x k l m e f. i.agree v u x k l (eqb-swap u v m) e f);
      rises = λ s x. at_or_below-refl (mode_or_nothing (held_mode t s x));
      circle = circle-alters v t (without_request v t) a;
      circle_beside = λ b. circle-alters_beside v b t (without_request v t) a;
      fewer = length-claims_but v t.requests;
      requests = λ u q h. request-fewer u v t.requests q h;
    }

-- cancelling a request promotes its resource
pub cancelled-promoted : (v : ℕ) (t : Table) → IsSound t → ArePromoted (resource_of_request (request_of v t.requests)) (without_request v t) (after_cancel v t)
cancelled-promoted v t i = all-promoted (resource_of_request (request_of v t.requests)) (without_request v t) (no_more-follows v t i).sound

-- `Follows` holds of cancelling a request
pub cancelled-follows : (v : ℕ) (t : Table) → IsSound t → Follows t (after_cancel v t)
cancelled-follows v t i = follows-trans t (without_request v t) (after_cancel v t) (no_more-follows v t i) (cancelled-promoted v t i).follows

-- after a request is cancelled no head of a queue fits, if none did before
pub cancelled-unfit : (v : ℕ) (t : Table) → IsSound t → ((x : List ℕ) → UnfitAt t x) → (x : List ℕ) → UnfitAt (after_cancel v t) x
cancelled-unfit v t i h = (cancelled-promoted v t i).unfit (λ x n. unfit_at-alters v t (without_request v t) x (no_more-alters v t) (at_or_below-refl (mode_or_nothing (held_mode t v x))) (wanted-apart (request_of v t.requests) x n) i (h x))

-- cancelling a session's request leaves fewer requests
pub victim-fewer : (v : ℕ) (t : Table) (q : Claim) → request_of v t.requests ≡ Some q → length (after_cancel v t).requests < length t.requests
victim-fewer v t q e = omega (arith, all-fewer (resource_of_request (request_of v t.requests)) (without_request v t), length-claims_but_some v t.requests q e)

-- cancelling a request of a sound table leaves fewer requests
pub cancelled-fewer : (v : ℕ) (t : Table) (q : Claim) → IsSound t → request_of v t.requests ≡ Some q → length (after_cancel v t).requests < length t.requests
cancelled-fewer v t q i e = victim-fewer v t q e
