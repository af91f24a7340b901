-- The locks of a session below a resource are found among the locks of the session.
use Rattle.std.proofs.Common.{◌≡◌, ◌∙◌, ◌≤◌, ℕ, Bool, true, false, cond, ◌&&◌, eqb, filter, List, [], ◌∷◌, None, length, take, take_all, refl, ap, arith}
use Rattle.lock_tree.specs.Paths.{is_ancestor}
use Rattle.lock_rules.specs.declared.listing.Claim.{Claim}
use Rattle.lock_rules.specs.declared.listing.ClaimKind.{ClaimKind}
use Rattle.lock_rules.specs.declared.listing.ClaimKind.TheVariants.{Held, Conversion, Fresh}
use Rattle.lock_rules.specs.State.{State, claims_of}
use Rattle.lock_rules.specs.Listing.{listing_of}
use Rattle.lock_desk.specs.Pages.{AreLocksTold, is_lock as is_held, is_lock_of, locks_of}
use Rattle.lock_explain.specs.Refused.{is_lock, is_lock_below}

-- of what a test has kept, a stricter one keeps the same as of all
stricter : {X : Type 0} (p q : X → Bool) → ((x : X) → (p x && q x) ≡ p x) → (xs : List X) → filter p (filter q xs) ≡ filter p xs
stricter p q h [] = refl
stricter p q h (x ∷ xs) = go (p x) (q x) refl (h x) (stricter p q h xs)
  where
    go : (b c : Bool) → p x ≡ b → (b && c) ≡ b → filter p (filter q xs) ≡ filter p xs → filter p (cond c (x ∷ filter q xs) (filter q xs)) ≡ cond b (x ∷ filter p xs) (filter p xs)
    go b true e k same = ap (λ (d : Bool). cond d (x ∷ filter p (filter q xs)) (filter p (filter q xs))) e ∙ ap (λ (l : List _). cond b (x ∷ l) l) same
    go false false e k same = same
    go true false e k same = absurd (cc)

-- a lock of the session below the resource is a lock of the session
below-held : (s : ℕ) (r : List ℕ) (l : Claim) → (is_lock_below s r l && is_lock_of s None l) ≡ is_lock_below s r l
below-held s r l = go l.kind (eqb l.session s) (is_ancestor r l.resource)
  where
    go : (k : ClaimKind) (e a : Bool) → ((is_lock k && (e && a)) && (is_held k && (e && true))) ≡ (is_lock k && (e && a))
    go Held true true = refl
    go Held true false = refl
    go Held false a = refl
    go Conversion e a = refl
    go Fresh e a = refl

-- the locks below are among all the locks of the session, which are so many
pub below-told : (st : State) (s : ℕ) (r : List ℕ) (count : ℕ) → AreLocksTold st s → count ≡ length (claims_of s st.table.held) → filter (is_lock_below s r) (take count (locks_of st s None)) ≡ filter (is_lock_below s r) (listing_of st)
below-told st s r count told is =
    let all : length (locks_of st s None) ≤ count = omega (arith, told.count, is) in
    ap (filter (is_lock_below s r)) (take_all count (locks_of st s None) all) ∙ stricter (is_lock_below s r) (is_lock_of s None) (below-held s r) (listing_of st)
