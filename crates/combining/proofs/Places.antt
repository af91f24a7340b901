-- The places of the history that a session enters, one behind another.
use Rattle.std.proofs.Common.{◌≡◌, ℕ, zero, suc, ◌+◌, List, [], ◌∷◌, ◌++◌, length, drop, sym, ap, ◌∙◌, arith, append_assoc, append-nil}
use Rattle.std.specs.List.{range_with_len}
use Rattle.std.proofs.Math.Seq.{drop-append_seam}
use Rattle.std.proofs.lemmas.List.FromFn.{length-range_with_len}
use mathlib.Core.List.{IsPrefix}
use Rattle.publication.specs.Views.{TicketView}
use Rattle.combining.specs.Woken.{entered_since}

-- One place more in front.
pub range-first : (a n : ℕ) → range_with_len a (n + 1) ≡ a ∷ range_with_len (a + 1) n
range-first a n = ap (range_with_len a) (let e : n + 1 ≡ suc n = omega arith in e)

-- Places behind places.
pub range-append : (a m n : ℕ) → range_with_len a (m + n) ≡ range_with_len a m ++ range_with_len (a + m) n
range-append a zero n = ap (range_with_len a) (let e : 0 + n ≡ n = omega arith in e) ∙ ap (λ (k : ℕ). range_with_len k n) (let e : a ≡ a + 0 = omega arith in e)
range-append a (suc m) n =
    ap (range_with_len a) (let e : suc m + n ≡ suc (m + n) = omega arith in e)
    ∙ (ap (λ (l : List ℕ). a ∷ l) (range-append (a + 1) m n) ∙ ap (λ (k : ℕ). (a ∷ range_with_len (a + 1) m) ++ range_with_len k n) (let e : a + 1 + m ≡ a + suc m = omega arith in e))

-- One place more at the end.
pub range-last : (a n j : ℕ) → a + n ≡ j → range_with_len a (n + 1) ≡ range_with_len a n ++ j ∷ []
range-last a n j e = range-append a n 1 ∙ ap (λ (k : ℕ). range_with_len a n ++ k ∷ []) e

module _ {C R : Type 0} where
  -- What a session has entered in a step, and in two steps.

  pub entered-step : (t u : TicketView C R) (places : List ℕ) → u.entered ≡ t.entered ++ places → entered_since t u ≡ places
  entered-step t u places is = ap (drop (length t.entered)) is ∙ drop-append_seam t.entered places

  pub entered-count : (t u : TicketView C R) (from n : ℕ) → u.entered ≡ t.entered ++ range_with_len from n → length (entered_since t u) ≡ n
  entered-count t u from n is = ap (λ (l : List ℕ). length l) (entered-step t u (range_with_len from n) is) ∙ length-range_with_len from n

  pub entered-none : (t u : TicketView C R) → u.entered ≡ t.entered → entered_since t u ≡ []
  entered-none t u is = entered-step t u [] (is ∙ sym (append-nil t.entered))

  pub entered-both : (t u v : TicketView C R) → IsPrefix t.entered u.entered → IsPrefix u.entered v.entered → entered_since t v ≡ entered_since t u ++ entered_since u v
  entered-both t u v first later =
      entered-step t v (first.0 ++ later.0) (sym later.1 ∙ (ap (λ (l : List ℕ). l ++ later.0) (sym first.1) ∙ append_assoc t.entered first.0 later.0))
      ∙ (ap (λ (l : List ℕ). l ++ later.0) (sym (entered-step t u first.0 (sym first.1))) ∙ ap (λ (l : List ℕ). entered_since t u ++ l) (sym (entered-step u v later.0 (sym later.1))))
