-- No two sessions have incompatible access, through locks on the resource or on its ancestors.
use Rattle.std.proofs.Common.{◌≡◌, ◌≢◌, ℕ, zero, suc, ◌≤◌, true, false, ◌⊎◌, inl, inr, eqb, List, [], ◌∷◌, length, Some, refl, arith}
use Rattle.std.proofs.lemmas.Bool.Decides.{Decides-eqb}
use Rattle.std.proofs.lemmas.Bool.{cases_Bool}
use Rattle.lock_modes.specs.declared.Mode.{Mode}
use Rattle.lock_modes.specs.declared.Mode.TheVariants.{IS, IX, S, X}
use Rattle.lock_modes.specs.Order.{at_or_below, need_of}
use Rattle.lock_modes.specs.Compatibility.{are_compatible}
use Rattle.lock_modes.proofs.Order.{order-tests, at_or_below-trans}
use Rattle.lock_tree.specs.Paths.{is_ancestor, parent_of}
use Rattle.lock_tree.proofs.Ancestors.{ancestor-parent, ancestors-meet}
use Rattle.lock_rules.specs.State.{Table, State, held_mode}
use Rattle.lock_rules.specs.Laws.{HoldsAtLeast, IsAtOrOver, IsAccessCompatible}
use Rattle.lock_rules.specs.Sound.{GoTogetherByTest, IsSound}
use Rattle.lock_rules.proofs.Alters.{true≢false}
use Rattle.lock_rules.proofs.Marks.{no_ix_s, no_x_is, need-is, need-ix}
use Rattle.lock_rules.proofs.Sound.{stands-under}
use Rattle.lock_rules.proofs.Children.{none-above, length-parent}

-- the session holds the resource in mode f or above
abbrev Has : Table → ℕ → Mode → List ℕ → Type 0
Has t s f y = (k : Mode) × (held_mode t s y ≡ Some k) × (at_or_below f k ≡ true)

-- a lock in mode f or above implies one on each ancestor, if each such mode needs f or above of the parent
module _ (f : Mode) (needs : (m : Mode) → at_or_below f m ≡ true → at_or_below f (need_of m) ≡ true) (t : Table) (i : IsSound t) (s : ℕ) where
  -- a lock in at least f implies one on the parent, if the need of such a mode is at least f
  at-parent : (b c : ℕ) (zs : List ℕ) → Has t s f (b ∷ c ∷ zs) → Has t s f (parent_of (b ∷ c ∷ zs))
  at-parent b c zs h =
      let up = stands-under t s (b ∷ c ∷ zs) h.0 (i.held_under s (b ∷ c ∷ zs) h.0 h.1) refl in
      (up.0, up.1, at_or_below-trans f (need_of h.0) up.0 (needs h.0 h.2) (order-tests up.2))

  -- a lock in at least f implies one on every ancestor
  at-ancestor : (n : ℕ) (z : List ℕ) → length z ≤ n → (y : List ℕ) → y ≢ [] → is_ancestor y z ≡ true → Has t s f z → Has t s f y
  at-ancestor n [] le [] some a h = absurd (some refl)
  at-ancestor n [] le (x ∷ y) some a h = absurd (cc)
  at-ancestor n (b ∷ []) le y some a h = elim (ancestor-parent y (b ∷ []) a) [ inl e ↦ absurd (some e) | inr m ↦ absurd (none-above y m) ]
  at-ancestor zero (b ∷ c ∷ zs) le y some a h = absurd (omega arith)
  at-ancestor (suc n) (b ∷ c ∷ zs) le y some a h = elim (ancestor-parent y (b ∷ c ∷ zs) a) [
    | inl e ↦ rw e (at-parent b c zs h)
    | inr m ↦ at-ancestor n (parent_of (b ∷ c ∷ zs)) (omega (arith, length-parent b c zs)) y some m (at-parent b c zs h)
  ]

-- of two resources at or over a third, they are the same or one is an ancestor of the other
comparable : (y z x : List ℕ) → (y ≡ x) ⊎ (is_ancestor y x ≡ true) → (z ≡ x) ⊎ (is_ancestor z x ≡ true) → (y ≡ z) ⊎ ((is_ancestor y z ≡ true) ⊎ (is_ancestor z y ≡ true))
comparable y z x (inl e) (inl f) = inl (cc)
comparable y z x (inl e) (inr k) = inr (inr (rw e k))
comparable y z x (inr h) (inl f) = inr (inl (rw f h))
comparable y z x (inr h) (inr k) = ancestors-meet y z x h k

-- modes that go together in one order don't conflict in both
clash : (k l : Mode) → GoTogetherByTest k l → (are_compatible k l ≡ false) × (are_compatible l k ≡ false) → ⊥
clash k l a n = elim a [ inl h ↦ true≢false h n.0 | inr h ↦ true≢false h n.1 ]

module _ (t : Table) (i : IsSound t) (s u : ℕ) (n : eqb s u ≡ false) where
  -- two sessions don't hold one resource in modes that always conflict
  outright : (y : List ℕ) (f g : Mode) → ((a b : Mode) → at_or_below f a ≡ true → at_or_below g b ≡ true → (are_compatible a b ≡ false) × (are_compatible b a ≡ false)) → Has t s f y → Has t u g y → ⊥
  outright y f g apart h k = clash h.0 k.0 (i.agree s u y h.0 k.0 n h.1 k.1) (apart h.0 k.0 h.2 k.2)

  -- if one session writes through y, no other reads through z
  write-read : (y z x : List ℕ) → IsAtOrOver y x → IsAtOrOver z x → Has t s X y → Has t u S z → ⊥
  write-read y z x oy oz h k = elim (comparable y z x oy.1 oz.1) [
    | inl e ↦ outright y X S (λ a b p q. no_ix_s a b (at_or_below-trans IX X a refl p) q) h (rw e k)
    | inr m ↦ elim m [
      | inl up ↦ outright y X IS no_x_is h (at-ancestor IS need-is t i u (length z) z (omega arith) y oy.0 up (k.0, k.1, at_or_below-trans IS S k.0 refl k.2))
      | inr up ↦ outright z IX S no_ix_s (at-ancestor IX need-ix t i s (length y) y (omega arith) z oz.0 up (h.0, h.1, at_or_below-trans IX X h.0 refl h.2)) k
    ]
  ]

-- HoldsAtLeast by the test of the order
has : (t : Table) (s : ℕ) (f : Mode) (y : List ℕ) → HoldsAtLeast t s y f → Has t s f y
has t s f y h = (h.0, h.1, order-tests h.2)

-- no two sessions have incompatible access in a sound table
pub access-compatible : (st : State) → IsSound st.table → IsAccessCompatible st
access-compatible st i s u x n w r = elim (cases_Bool (eqb s u)) [
  | inl e ↦ n ((Decides-eqb s u).0 e)
  | inr e ↦ elim r [
    | inl k ↦ write-read st.table i s u e w.0 k.0 x w.1 k.1 (has st.table s X w.0 w.2) (has st.table u S k.0 k.2)
    | inr k ↦ let h = has st.table u X k.0 k.2 in write-read st.table i s u e w.0 k.0 x w.1 k.1 (has st.table s X w.0 w.2) (h.0, h.1, at_or_below-trans S X h.0 refl h.2)
  ]
]
