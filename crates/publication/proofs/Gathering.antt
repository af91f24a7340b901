-- The tickets handed in to close a board: whether each session's is there once, whether all are settled, and what the
-- closing seat keeps.
use Rattle.std.proofs.Common.{◌≡◌, ℕ, zero, suc, ◌+◌, ◌<◌, ◌≤◌, ◌↔◌, ◌||◌, ◌&&◌, ◌==◌, Bool, true, false, not, Option, Some, None, is_some, List, [], ◌∷◌, ◌++◌, length, map, get_or, refl, sym, ap, ◌∙◌, subst, arith}
use Rattle.std.specs.Prelude.{All, Any, IsTrue}
use Rattle.std.specs.List.{list_any, list_all}
use Rattle.std.proofs.lemmas.Bool.{not-true}
use Rattle.std.proofs.lemmas.Bool.Decides.{nat_tests}
use mathlib.Core.Option as opt
use lib.ListN.{get_elem?}
use Rattle.sequential.specs.declared.entry.Entry.{Entry}
use Rattle.publication.specs.Views.{Pending, TicketView}
use Rattle.publication.specs.Boards.{IsEachOnce, IsSettled, AccountsFor, TookPieces}
use Rattle.publication.specs.inner.Closing.{is_settled, handed_by, WereHanded, AreEnded, TookHanded}
use Rattle.sequential.specs.declared.object.Sequential.{Ghosts}

-- lists

-- What holds of each element and of a new last one holds of the longer list.
pub each_pushed : {A : Type 0} (P : ℕ → A → Type 0) (l : List A) (x : A) → ((k : ℕ) (y : A) → get_elem? l k ≡ opt.some y → P k y) → P (length l) x → (k : ℕ) (y : A) → get_elem? (l ++ x ∷ []) k ≡ opt.some y → P k y
each_pushed P [] x all last zero y e = subst (P 0) (opt.some-injective x y e) last
each_pushed P [] x all last (suc k) y e = absurd (opt.some-ne-none y (sym e))
each_pushed P (z ∷ zs) x all last zero y e = all zero y e
each_pushed P (z ∷ zs) x all last (suc k) y e = each_pushed (λ j. P (suc j)) zs x (λ j. all (suc j)) last k y e

-- The element at an index below the length.
pub stands_at : {A : Type 0} (l : List A) (k : ℕ) (d : A) → k < length l → get_elem? l k ≡ opt.some (get_or l k d)
stands_at [] k d h = absurd (omega arith)
stands_at (x ∷ xs) zero d h = refl
stands_at (x ∷ xs) (suc k) d h = stands_at xs k d (omega arith)

map_at : {A B : Type 0} (f : A → B) (l : List A) (k : ℕ) (a : A) → get_elem? l k ≡ opt.some a → get_elem? (map f l) k ≡ opt.some (f a)
map_at f [] k a e = absurd (opt.some-ne-none a (sym e))
map_at f (x ∷ xs) zero a e = ap (λ y. opt.some (f y)) (opt.some-injective x a e)
map_at f (x ∷ xs) (suc k) a e = map_at f xs k a e

-- Mapping over a list with one more element.
pub map_push : {A B : Type 0} (f : A → B) (l : List A) (x : A) → map f (l ++ x ∷ []) ≡ map f l ++ f x ∷ []
map_push f [] x = refl
map_push f (y ∷ ys) x = ap (λ l. f y ∷ l) (map_push f ys x)

-- The element right behind a first part.
pub at_middle : {A : Type 0} (xs : List A) (y : A) (zs : List A) → get_elem? (xs ++ y ∷ zs) (length xs) ≡ opt.some y
at_middle [] y zs = refl
at_middle (x ∷ xs) y zs = at_middle xs y zs

-- What holds of all elements holds of all but the last.
pub all_before : {A : Type 0} (P : A → Type 0) (xs : List A) (x : A) → All P (xs ++ x ∷ []) → All P xs
all_before P [] x all k d few = absurd (omega arith)
all_before P (y ∷ ys) x all zero d few = all 0 d (omega arith)
all_before P (y ∷ ys) x all (suc k) d few = all_before P ys x (λ j e less. all (suc j) e (omega arith)) k d (omega arith)

both : (a b : Bool) → a && b ≡ true → (a ≡ true) × (b ≡ true)
both true b e = (refl, e)
both false b e = absurd (cc e)

-- each session's ticket is there

same_number : (a b : ℕ) → a == b ≡ true → a ≡ b
same_number a b e = grind (arith, nat_tests)

equal_numbers : (a b : ℕ) → a ≡ b → a == b ≡ true
equal_numbers a b e = grind (arith, nat_tests)

module _ {C R : Type 0} where
  -- A ticket with this number is in the list.
  abbrev pub has_number : ℕ → List (TicketView C R) → Bool
  has_number number ts = list_any (λ t. t.number == number) ts

  number_found : (n : ℕ) (ts : List (TicketView C R)) → has_number n ts ≡ true → Any (λ t. t.number ≡ n) ts
  number_found n [] e = absurd (cc e)
  number_found n (t ∷ ts) e = (elim (t.number == n) as (λ b. t.number == n ≡ b → b || has_number n ts ≡ true → Any (λ u. u.number ≡ n) (t ∷ ts)) [
    | true ↦ λ is _. (0, t, omega arith, refl, same_number t.number n is)
    | false ↦ λ _ more. let r = number_found n ts more in (suc r.0, r.1, omega (arith, r.2), r.3, r.4)
  ]) refl e

  number_there : (n : ℕ) (ts : List (TicketView C R)) (k : ℕ) (d : TicketView C R) → k < length ts → (get_or ts k d).number ≡ n → has_number n ts ≡ true
  number_there n [] k d few is = absurd (omega arith)
  number_there n (t ∷ ts) zero d few is = ap (λ (b : Bool). b || has_number n ts) (equal_numbers t.number n is)
  number_there n (t ∷ ts) (suc k) d few is = ap (λ (b : Bool). (t.number == n) || b) (number_there n ts k d (omega arith) is) ∙ or_true (t.number == n)
    where
      or_true : (b : Bool) → b || true ≡ true
      or_true true = refl
      or_true false = refl

  -- A roll to which all tickets were called has each number up to n exactly if each session's ticket is there once, where the
  -- tickets are as many as the sessions.
  pub each_once_tells : (n most : ℕ) (ts : List (TicketView C R)) (called : ℕ → Bool) (answer : Bool) → length ts ≡ n → n ≤ most → ((k : ℕ) → k ≤ most → called k ≡ has_number k ts)
      → (IsTrue answer ↔ ((k : ℕ) → 0 < k → k ≤ n → called k ≡ true)) → IsTrue answer ↔ IsEachOnce n ts
  each_once_tells n most ts called answer many few same tells = (
    (λ yes. record { as_many = many; each = λ k some le. number_found k ts (sym (same k (omega (arith, le, few))) ∙ tells.0 yes k some le) }),
    (λ all. tells.1 (λ k some le. let r = all.each k some le in same k (omega (arith, le, few)) ∙ number_there k ts r.0 r.1 r.2 (ap (λ (t : TicketView C R). t.number) r.3 ∙ r.4))),
  )

module _ {C : Type 0} where
  -- all tickets are settled

  nothing_waits : (p : Option (Pending C)) → not (is_some p) ≡ true → p ≡ None
  nothing_waits None e = refl
  nothing_waits (Some p) e = absurd (cc e)

module _ {C R : Type 0} where
  settled_is : (t : TicketView C R) → is_settled t ≡ true → IsSettled t
  settled_is t e = let r = both (not (is_some t.pending)) (not t.has_object) e in record { none = nothing_waits t.pending r.0; no_object = not-true t.has_object r.1 }

  is_settled_so : (t : TicketView C R) → IsSettled t → is_settled t ≡ true
  is_settled_so t s = ap (λ (p : Option (Pending C)). not (is_some p) && not t.has_object) s.none ∙ ap not s.no_object

  -- If the test is true, all tickets are settled.
  pub all_settled : (ts : List (TicketView C R)) → list_all is_settled ts ≡ true → All IsSettled ts
  all_settled [] e k d few = absurd (omega arith)
  all_settled (t ∷ ts) e zero d few = settled_is t (both (is_settled t) (list_all is_settled ts) e).0
  all_settled (t ∷ ts) e (suc k) d few = all_settled ts (both (is_settled t) (list_all is_settled ts) e).1 k d (omega arith)

  settled_all : (ts : List (TicketView C R)) → All IsSettled ts → list_all is_settled ts ≡ true
  settled_all [] all = refl
  settled_all (t ∷ ts) all = ap (λ (b : Bool). b && list_all is_settled ts) (is_settled_so t (all 0 t (omega arith))) ∙ settled_all ts (λ k d few. all (suc k) d (omega arith))

  -- The test is true exactly if all tickets are settled.
  pub settled_tells : (ts : List (TicketView C R)) (answer : Bool) → answer ≡ list_all is_settled ts → IsTrue answer ↔ All IsSettled ts
  settled_tells ts answer is = ((λ yes. all_settled ts (sym is ∙ yes)), λ all. is ∙ settled_all ts all)

  -- what the closing seat kept of the tickets

  -- With each session's ticket there once, each session was handed in.
  pub were_handed : (n : ℕ) (ts : List (TicketView C R)) → IsEachOnce n ts → WereHanded (n + 1) (map handed_by ts)
  were_handed n ts all i some few = let r = all.each i some (omega arith) in
      (r.0, handed_by (get_or ts r.0 r.1), map_at handed_by ts r.0 (get_or ts r.0 r.1) (stands_at ts r.0 r.1 r.2), ap (λ (t : TicketView C R). t.number) r.3 ∙ r.4)

  -- If the history agrees with what was kept of the tickets, it agrees with the tickets.
  pub all_accounted : (h : List (Entry C R)) (ts : List (TicketView C R)) → AreEnded h (map handed_by ts) → All (AccountsFor h) ts
  all_accounted h ts all k d few =
      let e = all k (handed_by (get_or ts k d)) (map_at handed_by ts k (get_or ts k d) (stands_at ts k d few)) in record { front = e.begins; calls = e.calls }

module _ {O C R : Type 0} {obj : Ghosts O C R} where
  -- If what was kept of the tickets has the pieces that were taken, so have the tickets.
  pub all_took : (object : O) (ts : List (TicketView C R)) → TookHanded obj object (map handed_by ts) → TookPieces obj object ts
  all_took object ts t = record {
    all = t.all;
    within = t.within;
    each = λ k d few. t.each k (handed_by (get_or ts k d)) (map_at handed_by ts k (get_or ts k d) (stands_at ts k d few));
    in_order = t.in_order;
    in_a_row = t.in_a_row;
  }
