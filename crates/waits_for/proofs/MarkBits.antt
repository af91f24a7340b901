-- The marks that the bits of a row stand for.
use Rattle.std.proofs.Common.{◌≡◌, ℕ, ◌<◌, ◌≤◌, inl, inr, Bool, false, ◌&&◌, ◌||◌, eqb, ltb, List, refl, sym, ◌∙◌, ap, arith}
use Rattle.std.proofs.lemmas.Bool.{cases_lt, lt-ltb, le-ltb, ne_eqb, and_right}
use Rattle.std.proofs.lemmas.List.FromFn.{get_or-map-range_with_len}
use Rattle.waits_for.specs.inner.Bits.{has_bit}
use Rattle.waits_for.specs.Marks.{is_marked, marked_by}

-- A position is marked exactly if it is below n and its bit is set.
marked-bits : (n : ℕ) (words : List ℕ) (t : ℕ) → is_marked (marked_by n (has_bit words)) t ≡ (ltb t n && has_bit words t)
unfolding is_marked
marked-bits n words t = elim (cases_lt t n) [
  | inr h ↦ rw (le-ltb t n h) refl
  | inl h ↦ ap (λ (b : Bool). ltb t n && b) (get_or-map-range_with_len (has_bit words) 0 n t t false h (omega arith))
]

-- A position below n is marked exactly if its bit is set.
pub marked-here : (n : ℕ) (words : List ℕ) (t : ℕ) → t < n → is_marked (marked_by n (has_bit words)) t ≡ has_bit words t
marked-here n words t h = marked-bits n words t ∙ ap (λ (b : Bool). b && has_bit words t) (lt-ltb t n h)

-- A position from n on is not marked.
marked-past : (n : ℕ) (words : List ℕ) (t : ℕ) → n ≤ t → is_marked (marked_by n (has_bit words)) t ≡ false
marked-past n words t h = marked-bits n words t ∙ ap (λ (b : Bool). b && has_bit words t) (le-ltb t n h)

-- Setting a bit marks its position and no other.
pub marked-more : (n t : ℕ) (old new : List ℕ) → t < n → ((j : ℕ) → has_bit new j ≡ (has_bit old j || eqb j t)) → (a : ℕ) → is_marked (marked_by n (has_bit new)) a ≡ (is_marked (marked_by n (has_bit old)) a || eqb a t)
marked-more n t old new lt more a = elim (cases_lt a n) [
  | inl h ↦ marked-here n new a h ∙ (more a ∙ ap (λ (b : Bool). b || eqb a t) (sym (marked-here n old a h)))
  | inr h ↦ marked-past n new a h ∙ sym (ap (λ (b : Bool). b || eqb a t) (marked-past n old a h) ∙ ne_eqb a t (λ e. absurd (omega (arith, e, h, lt))))
]

-- If no bit is set, no position is marked.
pub marked-none : (n : ℕ) (words : List ℕ) → ((j : ℕ) → has_bit words j ≡ false) → (a : ℕ) → is_marked (marked_by n (has_bit words)) a ≡ false
marked-none n words none a = marked-bits n words a ∙ and_right (ltb a n) (has_bit words a) (none a)
