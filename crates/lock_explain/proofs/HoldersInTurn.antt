-- The holders of a resource, read beside the sessions one after another: both come by number.
use Rattle.std.proofs.Common.{◌≡◌, ℕ, zero, suc, ◌+◌, ◌<◌, ◌≤◌, Bool, true, false, cond, eqb, List, [], ◌∷◌, drop, Some, None, is_some, refl, sym, ap, subst, ◌∙◌, arith}
use Rattle.std.proofs.lemmas.Bool.{and_parts}
use Rattle.std.proofs.lemmas.Bool.Decides.{nat_tests}
use Rattle.lock_modes.specs.declared.Mode.{Mode}
use Rattle.lock_rules.specs.Sound.{after, ascend}
use Rattle.lock_rules.proofs.Lists.{seek, seek-after, after-trans}
use Rattle.lock_explain.specs.inner.Holders.{mode_of_first}

-- these are the holders behind session p
pub record AreBehind (hs : List (ℕ × Mode)) (p : ℕ) (rest : List (ℕ × Mode)) : Type 0 where
  pub later : after p rest ≡ true
  pub rising : ascend rest ≡ true
  pub same : (u : ℕ) → p < u → seek u hs ≡ seek u rest

-- the holders in order, of sessions from 1 on, are those behind 0
pub from-first : (hs : List (ℕ × Mode)) → ascend hs ≡ true → ((u : ℕ) (m : Mode) → seek u hs ≡ Some m → 1 ≤ u) → AreBehind hs 0 hs
from-first hs rising some = record { later = go hs rising some; rising = rising; same = λ u k. refl }
  where
    go : (hs : List (ℕ × Mode)) → ascend hs ≡ true → ((u : ℕ) (m : Mode) → seek u hs ≡ Some m → 1 ≤ u) → after 0 hs ≡ true
    go [] rising some = refl
    go (h ∷ hs) rising some =
        let one : 1 ≤ h.0 = some h.0 h.1 (grind (arith, nat_tests)) in
        let r = and_parts (after h.0 hs) (ascend hs) rising in
        let t = after-trans 0 h.0 hs (omega (arith, one)) r.0 in
        grind (arith, nat_tests, one, t)

-- a first holder that isn't the next session comes behind it
first-later : (p : ℕ) (h : ℕ × Mode) (hs : List (ℕ × Mode)) → after p (h ∷ hs) ≡ true → ascend (h ∷ hs) ≡ true → eqb h.0 (p + 1) ≡ false → after (p + 1) (h ∷ hs) ≡ true
first-later p h hs later rising n =
    let r = and_parts (after h.0 hs) (ascend hs) rising in
    let t = after-trans (p + 1) h.0 hs in
    grind (arith, nat_tests, r.0, t)

-- the mode of the first of them, if it is the next session, is what that session holds
pub first-told : (hs : List (ℕ × Mode)) (p : ℕ) (rest : List (ℕ × Mode)) → AreBehind hs p rest → mode_of_first (p + 1) rest ≡ seek (p + 1) hs
first-told hs p [] b = sym (b.same (p + 1) (omega arith))
first-told hs p (h ∷ rest) b = go (eqb h.0 (p + 1)) refl ∙ sym (b.same (p + 1) (omega arith))
  where
    go : (x : Bool) → eqb h.0 (p + 1) ≡ x → mode_of_first (p + 1) (h ∷ rest) ≡ seek (p + 1) (h ∷ rest)
    go true e = grind (arith, nat_tests, e)
    go false e = let none = seek-after (p + 1) (h ∷ rest) (first-later p h rest b.later b.rising e) in ap (λ (x : Bool). cond x (Some h.1) None) e ∙ sym none

-- behind the next session are these holders without the first, if that is it
pub behind-next : (hs : List (ℕ × Mode)) (p n : ℕ) (all : List (ℕ × Mode)) → AreBehind hs p (drop n all)
    → AreBehind hs (p + 1) (drop (cond (is_some (mode_of_first (p + 1) (drop n all))) (n + 1) n) all)
behind-next hs p n all b = go (drop n all) refl b
  where
    behind : (n : ℕ) (all : List (ℕ × Mode)) (h : ℕ × Mode) (rest : List (ℕ × Mode)) → drop n all ≡ h ∷ rest → drop (suc n) all ≡ rest
    behind zero [] h rest e = absurd (cc)
    behind zero (x ∷ xs) h rest e = cc
    behind (suc n) [] h rest e = absurd (cc)
    behind (suc n) (x ∷ xs) h rest e = behind n xs h rest e

    without : (n : ℕ) (all : List (ℕ × Mode)) (h : ℕ × Mode) (rest : List (ℕ × Mode)) → drop n all ≡ h ∷ rest → drop (n + 1) all ≡ rest
    without n all h rest e = let one : n + 1 ≡ suc n = omega arith in ap (λ (k : ℕ). drop k all) one ∙ behind n all h rest e

    found : (h : ℕ × Mode) (rest : List (ℕ × Mode)) → AreBehind hs p (h ∷ rest) → eqb h.0 (p + 1) ≡ true → AreBehind hs (p + 1) rest
    found h rest b e =
        let r = and_parts (after h.0 rest) (ascend rest) b.rising in
        let same : h.0 ≡ p + 1 = grind (arith, nat_tests, e) in
        record {
          later = ap (λ (k : ℕ). after k rest) (sym same) ∙ r.0;
          rising = r.1;
          same = λ u k. b.same u (omega (arith, k)) ∙ (let other : eqb h.0 u ≡ false = grind (arith, nat_tests, same, k) in ap (λ (x : Bool). cond x (Some h.1) (seek u rest)) other);
        }

    passed : (h : ℕ × Mode) (rest : List (ℕ × Mode)) → AreBehind hs p (h ∷ rest) → eqb h.0 (p + 1) ≡ false → AreBehind hs (p + 1) (h ∷ rest)
    passed h rest b e = record {
      later = first-later p h rest b.later b.rising e;
      rising = b.rising;
      same = λ u k. b.same u (omega (arith, k));
    }

    go : (rest : List (ℕ × Mode)) → drop n all ≡ rest → AreBehind hs p rest → AreBehind hs (p + 1) (drop (cond (is_some (mode_of_first (p + 1) rest)) (n + 1) n) all)
    go [] e b = subst (AreBehind hs (p + 1)) (sym e) (record { later = refl; rising = refl; same = λ u k. b.same u (omega (arith, k)) })
    go (h ∷ rest) e b = turn (eqb h.0 (p + 1)) refl
      where
        turn : (x : Bool) → eqb h.0 (p + 1) ≡ x → AreBehind hs (p + 1) (drop (cond (is_some (mode_of_first (p + 1) (h ∷ rest))) (n + 1) n) all)
        turn true k =
            subst (λ (m : ℕ). AreBehind hs (p + 1) (drop m all)) (sym (ap (λ (x : Bool). cond (is_some (cond x (Some h.1) None)) (n + 1) n) k))
            (subst (AreBehind hs (p + 1)) (sym (without n all h rest e)) (found h rest b k))
        turn false k =
            subst (λ (m : ℕ). AreBehind hs (p + 1) (drop m all)) (sym (ap (λ (x : Bool). cond (is_some (cond x (Some h.1) None)) (n + 1) n) k))
            (subst (AreBehind hs (p + 1)) (sym e) (passed h rest b k))
