-- Prefixes of a list, and a list that changes at one index or at its end.
use Rattle.std.proofs.Common.{◌≡◌, ◌≢◌, ℕ, zero, suc, ◌<◌, ◌≤◌, ◌⊎◌, inl, inr, Option, Some, None, List, [], ◌∷◌, ◌++◌, length, get_or, set, take, replicate, refl, ap, sym, subst, ◌∙◌, arith, append_assoc, get_or-set_same, get_or-set_other}
use mathlib.Core.Option as opt
use mathlib.Core.Logic.{dite}
use mathlib.Core.List.{IsPrefix}
use native.Mathlib.Decide.{ℕ_discrete}
use lib.ListN.{get_elem?}

module _ {A : Type 0} where
  -- prefixes

  -- Every list is a prefix of itself.
  pub prefix_self : (xs : List A) → IsPrefix xs xs
  prefix_self [] = ([], refl)
  prefix_self (x ∷ xs) = let r = prefix_self xs in (r.0, ap (λ ys. x ∷ ys) r.1)

  -- A prefix of a prefix is a prefix.
  pub prefix_trans : (xs ys zs : List A) → IsPrefix xs ys → IsPrefix ys zs → IsPrefix xs zs
  prefix_trans xs ys zs p q = (p.0 ++ q.0, sym (append_assoc xs p.0 q.0) ∙ (ap (λ w. w ++ q.0) p.1 ∙ q.1))

  -- Of two prefixes of a list, the shorter is a prefix of the longer.
  pub prefix_both : (xs ys zs : List A) → IsPrefix xs zs → IsPrefix ys zs → length xs ≤ length ys → IsPrefix xs ys
  prefix_both [] ys zs p q h = (ys, refl)
  prefix_both (x ∷ xs) [] zs p q h = absurd (omega arith)
  prefix_both (x ∷ xs) (y ∷ ys) [] p q h = absurd (cc (p.1))
  prefix_both (x ∷ xs) (y ∷ ys) (z ∷ zs) p q h = let r = prefix_both xs ys zs (p.0, cc (p.1)) (q.0, cc (q.1)) (omega arith) in (r.0, let e = r.1 in cc (p.1, q.1, e))

  -- A prefix as long as the list is the list.
  pub prefix_whole : (xs zs : List A) → IsPrefix xs zs → length zs ≤ length xs → xs ≡ zs
  prefix_whole [] [] p h = refl
  prefix_whole [] (z ∷ zs) p h = absurd (omega arith)
  prefix_whole (x ∷ xs) [] p h = absurd (cc (p.1))
  prefix_whole (x ∷ xs) (z ∷ zs) p h = let r = prefix_whole xs zs (p.0, cc (p.1)) (omega arith) in cc (p.1, r)

  -- The first n elements of zs, of which xs is a prefix.
  pub record IsCut (xs zs : List A) (n : ℕ) : Type 0 where
    pub longer : IsPrefix xs (take n zs)
    pub front : IsPrefix (take n zs) zs
    pub long : length (take n zs) ≡ n

  -- A list has a first part of each length from that of xs up to its own.
  pub cut : (xs zs : List A) (n : ℕ) → IsPrefix xs zs → length xs ≤ n → n ≤ length zs → IsCut xs zs n
  cut [] zs zero p a b = record { longer = ([], refl); front = (zs, refl); long = refl }
  cut [] [] (suc n) p a b = absurd (omega arith)
  cut [] (z ∷ zs) (suc n) p a b =
      let r = cut [] zs n (zs, refl) (omega arith) (omega arith) in
      record { longer = (z ∷ take n zs, refl); front = (r.front.0, ap (λ l. z ∷ l) r.front.1); long = omega (arith, r.long) }
  cut (x ∷ xs) zs zero p a b = absurd (omega arith)
  cut (x ∷ xs) [] (suc n) p a b = absurd (omega arith)
  cut (x ∷ xs) (z ∷ zs) (suc n) p a b =
      let r = cut xs zs n (p.0, cc (p.1)) (omega arith) (omega arith) in
      record { longer = (r.longer.0, let e = r.longer.1 in cc (p.1, e)); front = (r.front.0, ap (λ l. z ∷ l) r.front.1); long = omega (arith, r.long) }

  -- the element at an index

  -- A checked look-up that finds a gives the same as one with a default, and the index is in range.
  pub at_there : (l : List A) (i : ℕ) (a d : A) → get_elem? l i ≡ opt.some a → (get_or l i d ≡ a) × (i < length l)
  at_there [] i a d e = absurd (opt.some-ne-none a (sym e))
  at_there (x ∷ xs) zero a d e = (opt.some-injective x a e, omega arith)
  at_there (x ∷ xs) (suc i) a d e = let r = at_there xs i a d e in (r.0, omega (arith, r.1))

  -- An element of a list below index n is an element of its first n.
  pub at_taken : (l : List A) (n i : ℕ) (a : A) → i < n → get_elem? l i ≡ opt.some a → get_elem? (take n l) i ≡ opt.some a
  at_taken [] n i a h e = absurd (opt.some-ne-none a (sym e))
  at_taken (x ∷ xs) zero i a h e = absurd (omega arith)
  at_taken (x ∷ xs) (suc n) zero a h e = e
  at_taken (x ∷ xs) (suc n) (suc i) a h e = at_taken xs n i a (omega arith) e

  -- A value found by a look-up with default `none` is in the list.
  pub at_home : (l : List (opt.Option A)) (i : ℕ) (a : A) → get_or l i opt.none ≡ opt.some a → get_elem? l i ≡ opt.some (opt.some a)
  at_home [] i a e = absurd (opt.some-ne-none a (sym e))
  at_home (x ∷ xs) zero a e = ap opt.some e
  at_home (x ∷ xs) (suc i) a e = at_home xs i a e

  -- Every index of a list of equal elements, and every index beyond it with that default, gives the element.
  pub same_all : (n i : ℕ) (a : A) → get_or (replicate n a) i a ≡ a
  same_all zero i a = refl
  same_all (suc n) zero a = refl
  same_all (suc n) (suc i) a = same_all n i a

  -- The index right behind a list gives the default.
  pub past_end : (l : List A) (d : A) → get_or l (length l) d ≡ d
  past_end [] d = refl
  past_end (x ∷ xs) d = past_end xs d

  -- what holds at each index after a write, or after one element is appended

  -- What holds of the element written at i, and of every other index before the write, holds of every index after it.
  pub each_set : (l : List A) (i : ℕ) (a d : A) (P : ℕ → A → Type 0) → i < length l → P i a → ((k : ℕ) → k ≢ i → P k (get_or l k d)) → (k : ℕ) → P k (get_or (set l i a) k d)
  each_set l i a d P h here else k = dite (ℕ_discrete k i)
      (λ e. subst (λ (x : A). P k x) (sym (ap (λ (n : ℕ). get_or (set l i a) n d) e ∙ get_or-set_same l i a d h)) (subst (λ (n : ℕ). P n a) (sym e) here))
      (λ ne. subst (λ (x : A). P k x) (sym (get_or-set_other l i k a d ne)) (else k ne))

  -- What holds of the element appended, and of every index before, holds of every index after it.
  pub each_snoc : (l : List A) (b d : A) (P : ℕ → A → Type 0) → P (length l) b → ((k : ℕ) → P k (get_or l k d)) → (k : ℕ) → P k (get_or (l ++ b ∷ []) k d)
  each_snoc [] b d P here all zero = here
  each_snoc [] b d P here all (suc k) = all (suc k)
  each_snoc (x ∷ xs) b d P here all zero = all zero
  each_snoc (x ∷ xs) b d P here all (suc k) = each_snoc xs b d (λ j u. P (suc j) u) here (λ j. all (suc j)) k

  -- An element of a list after a push was in the list before, or is the one pushed.
  pub at_pushed : (l : List A) (x : A) (p : ℕ) (y : A) → get_elem? (l ++ x ∷ []) p ≡ opt.some y → (get_elem? l p ≡ opt.some y) ⊎ (x ≡ y)
  at_pushed [] x zero y e = inr (opt.some-injective x y e)
  at_pushed [] x (suc p) y e = absurd (opt.some-ne-none y (sym e))
  at_pushed (z ∷ zs) x zero y e = inl e
  at_pushed (z ∷ zs) x (suc p) y e = at_pushed zs x p y e

-- a look-up whose default is `none`

-- A value found by a look-up with default `None` is in the list.
pub there_at : {A : Type 0} (l : List (Option A)) (i : ℕ) (a : A) → get_or l i None ≡ Some a → get_elem? l i ≡ opt.some (Some a)
there_at [] i a e = absurd (cc e)
there_at (x ∷ xs) zero a e = ap opt.some e
there_at (x ∷ xs) (suc i) a e = there_at xs i a e

-- If a look-up with default `None` gives `None`, no value is at the index.
pub none_there : {A : Type 0} (l : List (Option A)) (i : ℕ) (a : A) → get_or l i None ≡ None → get_elem? l i ≢ opt.some (Some a)
none_there l i a none e = let t : Some a ≡ None = sym (at_there l i (Some a) None e).0 ∙ none in absurd (cc t)
