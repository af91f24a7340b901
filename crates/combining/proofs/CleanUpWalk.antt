-- The walk of a clean-up comes nearer to the end of the list with each record.
use Rattle.std.proofs.Common.{◌≡◌, ◌⊎◌, inl, inr, ⊎_elim, ℕ, zero, suc, ◌+◌, ◌<◌, Bool, true, cond, Some, None, List, [], ◌∷◌, ◌++◌, length, take, set, refl, sym, ap, ◌∙◌, subst, arith, eq-eqb, ne_eqb}
use Rattle.std.specs.Prelude.{All}
use Rattle.sequential.specs.declared.entry.Item.{Item}
use Rattle.sequential.specs.Batches.{IsItemWithin}
use Rattle.publication.specs.Views.{BoardView}
use Rattle.publication.specs.Boards.{IsNumber}
use Rattle.publication.specs.List.{IsOn, AreApart, first_of, behind, without}
use Rattle.publication.specs.StepKinds.{IsRoute}
use Rattle.publication.proofs.Chains.{on_right, splits, apart_front, drop_two}
use Rattle.publication.proofs.Routes.{on_behind}
use Rattle.combining.specs.inner.Passes.{AreOpened}
use Rattle.combining.specs.inner.Ages.{IsUnused, IsCleaned}
use Rattle.combining.proofs.OpenedRow.{Calls}

behind-here : (q : ℕ) (xs ys : List ℕ) → (IsOn q xs → ⊥) → behind q (xs ++ q ∷ ys) ≡ ys
behind-here q [] ys off = ap (λ (b : Bool). cond b ys (behind q ys)) (eq-eqb q q refl)
behind-here q (x ∷ xs) ys off = ap (λ (b : Bool). cond b (xs ++ q ∷ ys) (behind q (xs ++ q ∷ ys))) (ne_eqb q x (λ e. off (inl e))) ∙ behind-here q xs ys (λ on. off (inr on))

behind-second : (b w : ℕ) (xs ys : List ℕ) → AreApart (xs ++ b ∷ w ∷ ys) → behind w (xs ++ b ∷ w ∷ ys) ≡ ys
behind-second b w [] ys apart =
    ap (λ (t : Bool). cond t (w ∷ ys) (behind w (w ∷ ys))) (ne_eqb w b (λ e. apart.0 (inl (sym e)))) ∙ ap (λ (t : Bool). cond t ys (behind w ys)) (eq-eqb w w refl)
behind-second b w (x ∷ xs) ys apart =
    ap (λ (t : Bool). cond t (xs ++ b ∷ w ∷ ys) (behind w (xs ++ b ∷ w ∷ ys))) (ne_eqb w x (λ e. apart.0 (on_right x xs (b ∷ w ∷ ys) (inr (inl (sym e)))))) ∙ behind-second b w xs ys apart.1

-- If the next record was taken off, fewer records are behind `b`.
pub off-shorter : (b w : ℕ) (route : List ℕ) → AreApart route → IsOn b route → first_of (behind b route) ≡ Some w
    → IsOn b (without b route) × (length (behind b (without b route)) < length (behind b route))
off-shorter b w route apart on next =
    let t = splits b w route on next in
    let off = apart_front t.front (w ∷ t.rest) b (subst AreApart t.is apart) in
    let now : behind b (without b route) ≡ t.rest = ap (λ (r : List ℕ). behind b r) t.without_is ∙ behind-here b t.front t.rest off in
    (subst (λ (r : List ℕ). IsOn b r) (sym t.without_is) (on_right b t.front (b ∷ t.rest) (inl refl)), omega (arith, ap (λ (l : List ℕ). length l) now, ap (λ (l : List ℕ). length l) t.behind_is))

-- If it wasn't, fewer records are behind it than behind `b`.
pub on-shorter : (b w : ℕ) (route : List ℕ) → AreApart route → IsOn b route → first_of (behind b route) ≡ Some w
    → IsOn w route × (length (behind w route) < length (behind b route))
on-shorter b w route apart on next =
    let t = splits b w route on next in
    let now : behind w route ≡ t.rest = ap (λ (r : List ℕ). behind w r) t.is ∙ behind-second b w t.front t.rest (subst AreApart t.is apart) in
    (subst (λ (r : List ℕ). IsOn w r) (sym t.is) (on_right w t.front (b ∷ w ∷ t.rest) (inr (inl refl))), omega (arith, ap (λ (l : List ℕ). length l) now, ap (λ (l : List ℕ). length l) t.behind_is))

-- The next record on a route is a session's.
pub next-number : (board : BoardView) (b w : ℕ) (route : List ℕ) → IsRoute (board.sessions + 1) route → first_of (behind b route) ≡ Some w → IsNumber board w
next-number board b w route r next = let on = on_behind w b route (first_on (behind b route) next) in let t = r.within w on in record { some = t.0; few = omega (arith, t.1) }
  where
    first_on : (l : List ℕ) → first_of l ≡ Some w → IsOn w l
    first_on [] e = absurd (cc e)
    first_on (x ∷ xs) e = inl (let z : Some x ≡ Some w = e in let y : x ≡ w = cc z in sym y)

module _ {C R : Type 0} where
  -- The items of a row are of the board's sessions.
  pub row-within : (n : ℕ) (l : Calls C) (row : List (Item C R)) → AreOpened n l row → All (IsItemWithin n) row
  row-within n l [] all k d few = absurd (omega arith)
  row-within n l (i ∷ is) all zero d few = all.0
  row-within n l (i ∷ is) all (suc k) d few = row-within n (set l i.session None) is all.2 k d (omega arith)

  -- The first items of such a row are of the board's sessions too.
  pub first-within : (n k : ℕ) (row : List (Item C R)) → All (IsItemWithin n) row → All (IsItemWithin n) (take k row)
  first-within n k [] all j d few = absurd (none k few)
    where
      none : (k : ℕ) → j < length {A = (Item C R)} (take k []) → ⊥
      none zero h = absurd (omega arith)
      none (suc k) h = absurd (omega arith)
  first-within n zero (i ∷ is) all j d few = absurd (omega arith)
  first-within n (suc k) (i ∷ is) all zero d few = all 0 d (omega arith)
  first-within n (suc k) (i ∷ is) all (suc j) d few = first-within n k is (λ m e less. all (suc m) e (omega arith)) j d (omega arith)

-- The first record of a route is a session's, and on the route.
pub first-number : (board : BoardView) (w : ℕ) (route : List ℕ) → IsRoute (board.sessions + 1) route → first_of route ≡ Some w → IsNumber board w × IsOn w route
first-number board w [] r e = absurd (cc e)
first-number board w (x ∷ xs) r e =
    let z : Some x ≡ Some w = e in
    let y : x ≡ w = cc z in
    let on : IsOn w (x ∷ xs) = inl (sym y) in
    let t = r.within w on in (record { some = t.0; few = omega (arith, t.1) }, on)

-- Taking off the record behind `b` leaves all others on the list.
pub off-left : (b w : ℕ) (route : List ℕ) → IsOn b route → first_of (behind b route) ≡ Some w → (j : ℕ) → IsOn j route → IsOn j (without b route) ⊎ (j ≡ w)
off-left b w route on next j there =
    let t = splits b w route on next in
    subst (λ (r : List ℕ). IsOn j r ⊎ (j ≡ w)) (sym t.without_is) (drop_two j t.front t.rest b w (subst (λ (r : List ℕ). IsOn j r) t.is there))

-- A clean-up that takes off one unused record more.
pub cleaned-more : (ages : List ℕ) (passes w : ℕ) (unused : Bool) (from before after : List ℕ) → IsCleaned ages passes from before → first_of after ≡ first_of before
    → ((j : ℕ) → IsOn j before → IsOn j after ⊎ ((j ≡ w) × (unused ≡ true))) → (unused ≡ true → IsUnused ages passes w) → IsCleaned ages passes from after
cleaned-more ages passes w unused from before after cleaned first left is = record {
  first = first ∙ cleaned.first;
  left = λ j on. ⊎_elim
      (λ there. ⊎_elim (λ still. inl still) (λ off. inr (subst (λ (n : ℕ). IsUnused ages passes n) (sym off.0) (is off.1))) (left j there))
      (λ unused. inr unused) (cleaned.left j on);
}
