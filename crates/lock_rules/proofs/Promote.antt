-- What promotions keep and what they bring about.
use Rattle.std.proofs.Common.{◌≡◌, ℕ, ◌<◌, ◌≤◌, Bool, true, false, cond, eqb, inl, inr, List, [], ◌∷◌, length, Some, refl, sym, ◌∙◌, ap, arith}
use Rattle.std.proofs.lemmas.Bool.{or_from, cases_Bool}
use Rattle.std.specs.List.{list_any}
use Rattle.std.proofs.lemmas.Bool.Decides.{nat_tests, Decides-eqb}
use Rattle.lock_modes.specs.declared.Mode.{Mode}
use Rattle.lock_modes.specs.Order.{at_or_below}
use Rattle.lock_modes.proofs.Order.{at_or_below-refl, at_or_below-trans}
use Rattle.lock_tree.specs.Paths.{same_path}
use Rattle.lock_rules.specs.State.{Claim, Table, held_mode, mode_or_nothing, request_of, claims_but}
use Rattle.lock_rules.specs.Queue.{queue, fits, after_grant, granted_while_fitting, after_promotion, after_promotions}
use Rattle.lock_rules.specs.Waits.{waits_for}
use Rattle.lock_rules.specs.Sound.{IsSound, Stands}
use Rattle.lock_rules.proofs.Lists.{same_path_tells, same_path-true, request_of-claims_but, request_of-claims_but_other}
use Rattle.lock_rules.proofs.Alters.{NoCircle, beside, circle-alters, circle-alters_beside}
use Rattle.lock_rules.proofs.Sound.{UnfitAt, Rises, head-request, queue-rest, unfit_at-alters, granted-alters, granted-rises, granted-sound}

-- the requests that are left

-- removing a session's claims doesn't make the list longer
pub length-claims_but : (s : ℕ) (qs : List Claim) → length (claims_but s qs) ≤ length qs
length-claims_but s [] = omega arith
length-claims_but s (q ∷ qs) = grind (arith, nat_tests, length-claims_but s qs)

-- removing the claims of a session that has one makes the list shorter
pub length-claims_but_some : (s : ℕ) (qs : List Claim) (q : Claim) → request_of s qs ≡ Some q → length (claims_but s qs) < length qs
length-claims_but_some s [] q h = absurd (cc)
length-claims_but_some s (c ∷ qs) q h = grind (arith, nat_tests, length-claims_but_some s qs q, length-claims_but s qs)

-- a request left after a removal was there before
pub request-fewer : (s v : ℕ) (qs : List Claim) (q : Claim) → request_of s (claims_but v qs) ≡ Some q → request_of s qs ≡ Some q
request-fewer s v qs q h = elim (cases_Bool (eqb s v)) [
  | inr n ↦ sym (request_of-claims_but_other s v qs n) ∙ h
  | inl e ↦ let f = (Decides-eqb s v).0 e in let g = rw f at h in let k = request_of-claims_but v qs in absurd (cc)
]

-- grants leave no more requests than there were
front-fewer : (qs : List Claim) (t : Table) → length (granted_while_fitting qs t).requests ≤ length t.requests
front-fewer [] t = omega arith
front-fewer (q ∷ qs) t = go (fits t q.session q.resource q.mode) (front-fewer qs (after_grant q.session q.resource q.mode t))
  where
    go : (b : Bool) → length (granted_while_fitting qs (after_grant q.session q.resource q.mode t)).requests ≤ length (after_grant q.session q.resource q.mode t).requests → length (cond b (granted_while_fitting qs (after_grant q.session q.resource q.mode t)) t).requests ≤ length t.requests
    go true h = omega (arith, h, length-claims_but q.session t.requests)
    go false h = omega arith

-- promotions leave no more requests than there were
pub all-fewer : (rs : List (List ℕ)) (t : Table) → length (after_promotions rs t).requests ≤ length t.requests
all-fewer [] t = omega arith
all-fewer (r ∷ rs) t = omega (arith, all-fewer rs (after_promotion r t), front-fewer (queue t r) t)

-- the table stays sound, no lock falls, no cycle is new, and no request is new
pub record Follows (t t' : Table) : Type 0 where
  pub sound : IsSound t'
  pub rises : Rises t t'
  pub circle : NoCircle (waits_for t) → NoCircle (waits_for t')
  pub circle_beside : (a : ℕ) → NoCircle (beside a (waits_for t)) → NoCircle (beside a (waits_for t'))
  pub fewer : length t'.requests ≤ length t.requests
  pub requests : (s : ℕ) (q : Claim) → request_of s t'.requests ≡ Some q → request_of s t.requests ≡ Some q

-- `Follows` holds if nothing changes
pub follows-refl : (t : Table) → IsSound t → Follows t t
follows-refl t i = record { sound = i; rises = λ s x. at_or_below-refl (mode_or_nothing (held_mode t s x)); circle = λ h. h; circle_beside = λ a h. h; fewer = omega arith; requests = λ s q h. h }

-- `Follows` holds of two changes, one after the other, if it holds of each
pub follows-trans : (t u w : Table) → Follows t u → Follows u w → Follows t w
follows-trans t u w a b = record {
  sound = b.sound;
  rises = λ s x. at_or_below-trans (mode_or_nothing (held_mode t s x)) (mode_or_nothing (held_mode u s x)) (mode_or_nothing (held_mode w s x)) (a.rises s x) (b.rises s x);
  circle = λ h. b.circle (a.circle h);
  circle_beside = λ i h. b.circle_beside i (a.circle_beside i h);
  fewer = omega (arith, a.fewer, b.fewer);
  requests = λ s q h. a.requests s q (b.requests s q h);
}

-- `Follows` holds of a grant of a target that fits and obeys the parent rule
pub granted-follows : (s : ℕ) (r : List ℕ) (m : Mode) (t : Table) → IsSound t → at_or_below (mode_or_nothing (held_mode t s r)) m ≡ true → Stands t s r m → fits t s r m ≡ true → Follows t (after_grant s r m t)
granted-follows s r m t i up under fit = record {
  sound = granted-sound s r m t i up under fit;
  rises = granted-rises s r m t up;
  circle = circle-alters s t (after_grant s r m t) (granted-alters s r m t);
  circle_beside = λ a. circle-alters_beside s a t (after_grant s r m t) (granted-alters s r m t);
  fewer = length-claims_but s t.requests;
  requests = λ u q h. request-fewer u s t.requests q h;
}

-- on other resources, a head of a queue that didn't fit still doesn't
abbrev pub Elsewhere : List ℕ → Table → Table → Type 0
Elsewhere r t t' = (x : List ℕ) → same_path r x ≡ false → UnfitAt t x → UnfitAt t' x

-- what a promotion of r brings about: `Follows`, and afterwards the head of r's queue doesn't fit
pub record IsPromoted (r : List ℕ) (t t' : Table) : Type 0 where
  pub follows : Follows t t'
  pub elsewhere : Elsewhere r t t'
  pub there : UnfitAt t' r

-- granting a queue up to the first request that doesn't fit promotes its resource
granted_front-promoted : (r : List ℕ) (qs : List Claim) (t : Table) → IsSound t → queue t r ≡ qs → IsPromoted r t (granted_while_fitting qs t)
granted_front-promoted r [] t i e = record { follows = follows-refl t i; elsewhere = λ x n h. h; there = λ q qs f. let g = sym e ∙ f in absurd (cc) }
granted_front-promoted r (q ∷ qs) t i e = go (fits t q.session q.resource q.mode) refl (λ j f. granted_front-promoted r qs (after_grant q.session q.resource q.mode t) j f)
  where
    request : (request_of q.session t.requests ≡ Some q) × (same_path q.resource r ≡ true)
    request = head-request t r q qs i.once e

    path : q.resource ≡ r
    path = same_path-true q.resource r request.1

    go : (b : Bool) → fits t q.session q.resource q.mode ≡ b
        → (IsSound (after_grant q.session q.resource q.mode t) → queue (after_grant q.session q.resource q.mode t) r ≡ qs → IsPromoted r (after_grant q.session q.resource q.mode t) (granted_while_fitting qs (after_grant q.session q.resource q.mode t)))
        → IsPromoted r t (cond b (granted_while_fitting qs (after_grant q.session q.resource q.mode t)) t)
    go false f next = record {
      follows = follows-refl t i;
      elsewhere = λ x n h. h;
      there = λ p ps g. let same : q ≡ p = let k = sym e ∙ g in cc in ap (λ (c : Claim). fits t c.session r c.mode) (sym same) ∙ (ap (λ (y : List ℕ). fits t q.session y q.mode) (sym path) ∙ f);
    }
    go true f next =
        let first = granted-follows q.session q.resource q.mode t i (i.raising q.session q request.0) (i.asked_under q.session q request.0) f in
        let rest = next first.sound (queue-rest t (after_grant q.session q.resource q.mode t) r q qs i.once e (granted-alters q.session q.resource q.mode t)) in
        record {
          follows = follows-trans t (after_grant q.session q.resource q.mode t) (granted_while_fitting qs (after_grant q.session q.resource q.mode t)) first rest.follows;
          elsewhere = λ x n h. rest.elsewhere x n
              (unfit_at-alters q.session t (after_grant q.session q.resource q.mode t) x (granted-alters q.session q.resource q.mode t) (first.rises q.session x)
              (λ p g. let same : q ≡ p = let k = sym request.0 ∙ g in cc in ap (λ (c : Claim). same_path c.resource x) (sym same) ∙ (ap (λ (y : List ℕ). same_path y x) path ∙ n)) i h);
          there = rest.there;
        }

-- a promotion does what `IsPromoted` says
pub promoted-promoted : (r : List ℕ) (t : Table) → IsSound t → IsPromoted r t (after_promotion r t)
promoted-promoted r t i = granted_front-promoted r (queue t r) t i refl

-- the resource is one of these
abbrev pub among : List (List ℕ) → List ℕ → Bool
among rs x = list_any (λ r. same_path r x) rs

-- what promotions of these resources bring about: `Follows`, and no head of a queue fits, if no other head fitted before
pub record ArePromoted (rs : List (List ℕ)) (t t' : Table) : Type 0 where
  pub follows : Follows t t'
  pub unfit : ((x : List ℕ) → among rs x ≡ false → UnfitAt t x) → (x : List ℕ) → UnfitAt t' x

-- promotions do what `ArePromoted` says
pub all-promoted : (rs : List (List ℕ)) (t : Table) → IsSound t → ArePromoted rs t (after_promotions rs t)
all-promoted [] t i = record { follows = follows-refl t i; unfit = λ h x. h x refl }
all-promoted (r ∷ rs) t i =
    let first = promoted-promoted r t i in
    let rest = all-promoted rs (after_promotion r t) first.follows.sound in
    record {
      follows = follows-trans t (after_promotion r t) (after_promotions rs (after_promotion r t)) first.follows rest.follows;
      unfit = λ h. rest.unfit (λ x n. elim (same_path_tells r x) [
        | inl p ↦ rw (← p.1) first.there
        | inr m ↦ first.elsewhere x m (h x (or_from (same_path r x) (among rs x) m n))
      ]);
    }
