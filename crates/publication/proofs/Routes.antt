-- What the head word or a link word names, as a record's number.
use Rattle.std.proofs.Common.{◌≡◌, ◌≢◌, inl, inr, ℕ, ◌<◌, ◌==◌, Bool, true, false, cond, Option, Some, None, List, [], ◌∷◌, refl, ap, ◌∙◌, arith, IfSome, IfNone}
use Rattle.publication.specs.List.{IsOn, AreApart, head_of, first_of, behind}
use Rattle.publication.specs.StepKinds.{IsRoute}

-- Each record behind q on a route is on the route.
pub on_behind : (p q : ℕ) (l : List ℕ) → IsOn p (behind q l) → IsOn p l
on_behind p q [] on = on
on_behind p q (x ∷ xs) on = by_test (q == x) (on_behind p q xs) on
  where
    by_test : (b : Bool) → (IsOn p (behind q xs) → IsOn p xs) → IsOn p (cond b xs (behind q xs)) → IsOn p (x ∷ xs)
    by_test true later on = inr on
    by_test false later on = inr (later on)

-- The rest of a route behind q repeats no record.
pub apart_behind : (q : ℕ) (l : List ℕ) → AreApart l → AreApart (behind q l)
apart_behind q [] a = a
apart_behind q (x ∷ xs) a = by_test (q == x) (apart_behind q xs a.1)
  where
    by_test : (b : Bool) → AreApart (behind q xs) → AreApart (cond b xs (behind q xs))
    by_test true later = a.1
    by_test false later = later

-- The rest of a route behind q is a route.
pub route_behind : (slots q : ℕ) (l : List ℕ) → IsRoute slots l → IsRoute slots (behind q l)
route_behind slots q l r = record { apart = apart_behind q l r.apart; within = λ p on. r.within p (on_behind p q l on) }

-- The value of the head word or of a link fits into 16 bits.
pub named_few : (slots : ℕ) (l : List ℕ) (found : ℕ) → slots < 65535 → IsRoute slots l → found ≡ head_of l → found < 65536
named_few slots [] found few r is = omega arith
named_few slots (x ∷ xs) found few r is = let t = r.within x (inl refl) in omega (arith, t.1)

-- That value read as a record's number is the route's first record.
pub named_first : (slots : ℕ) (l : List ℕ) (found : ℕ) (result : Option ℕ) → slots < 65535 → IsRoute slots l → found ≡ head_of l
    → IfNone result (found ≡ 65535) → IfSome result (λ q. (q ≡ found) × (found ≢ 65535)) → result ≡ first_of l
named_first slots [] found None few r is none some = refl
named_first slots [] found (Some q) few r is none some = absurd (some.1 is)
named_first slots (x ∷ xs) found None few r is none some = let t = r.within x (inl refl) in absurd (omega (arith, t.1, none))
named_first slots (x ∷ xs) found (Some q) few r is none some = ap (λ (n : ℕ). Some n) (some.0 ∙ is)
