-- The order of the modes and their least upper bounds agree with the tables.
use Rattle.std.proofs.Common.{◌≡◌, ◌≤◌, true, ◌||◌, eqb, leb, refl, not, Decides}
use Rattle.std.proofs.lemmas.Bool.Decides.{Decides-eqb}
use borrow.Author.Tests.{leb-true}
use Rattle.lock_modes.specs.declared.Mode.{Mode}
use Rattle.lock_modes.specs.declared.Mode.TheVariants.{NL, IS, IX, S, SIX, U, X}
use Rattle.lock_modes.specs.Order.{IsDirectlyBelow, nl_is, is_ix, is_s, ix_six, s_six, s_u, six_x, u_x, IsAtOrBelow, same, chain, at_or_below, IsLeastUpperBound, sup_of}
use Rattle.lock_modes.specs.Codes.{code_of}
use Rattle.lock_modes.proofs.Every.{every-at, every2-at, every3-at, implied}
use Rattle.lock_modes.proofs.Codes.{same_code}

-- a mode is below the modes directly above it, by the table
directly-tests : {a b : Mode} → IsDirectlyBelow a b → at_or_below a b ≡ true
directly-tests nl_is = refl
directly-tests is_ix = refl
directly-tests is_s = refl
directly-tests ix_six = refl
directly-tests s_six = refl
directly-tests s_u = refl
directly-tests six_x = refl
directly-tests u_x = refl

-- the order is reflexive
pub at_or_below-refl : (a : Mode) → at_or_below a a ≡ true
at_or_below-refl = every-at (λ a. at_or_below a a) refl

-- the order is transitive
pub at_or_below-trans : (a b c : Mode) → at_or_below a b ≡ true → at_or_below b c ≡ true → at_or_below a c ≡ true
at_or_below-trans a b c h k = implied (at_or_below b c) _ (implied (at_or_below a b) _ (every3-at (λ a b c. not (at_or_below a b) || (not (at_or_below b c) || at_or_below a c)) refl a b c) h) k

-- the order is antisymmetric
pub at_or_below-antisym : (a b : Mode) → at_or_below a b ≡ true → at_or_below b a ≡ true → a ≡ b
at_or_below-antisym a b h k = same_code a b ((Decides-eqb (code_of a) (code_of b)).0 (implied (at_or_below b a) _ (implied (at_or_below a b) _ (every2-at (λ a b. not (at_or_below a b) || (not (at_or_below b a) || eqb (code_of a) (code_of b))) refl a b) h) k))

-- modes in order are so by the table
pub order-tests : {a b : Mode} → IsAtOrBelow a b → at_or_below a b ≡ true
order-tests {a} same = at_or_below-refl a
order-tests {a} {b = c} (chain {b = b} s r) = at_or_below-trans a b c (directly-tests s) (order-tests r)

-- modes in order by the table are so: a chain leads up from one to the other
pub order-from : (a b : Mode) → at_or_below a b ≡ true → IsAtOrBelow a b
order-from NL NL h = same
order-from NL IS h = chain nl_is same
order-from NL IX h = chain nl_is (chain is_ix same)
order-from NL S h = chain nl_is (chain is_s same)
order-from NL SIX h = chain nl_is (chain is_ix (chain ix_six same))
order-from NL U h = chain nl_is (chain is_s (chain s_u same))
order-from NL X h = chain nl_is (chain is_ix (chain ix_six (chain six_x same)))
order-from IS NL h = absurd (cc)
order-from IS IS h = same
order-from IS IX h = chain is_ix same
order-from IS S h = chain is_s same
order-from IS SIX h = chain is_ix (chain ix_six same)
order-from IS U h = chain is_s (chain s_u same)
order-from IS X h = chain is_ix (chain ix_six (chain six_x same))
order-from IX IX h = same
order-from IX SIX h = chain ix_six same
order-from IX X h = chain ix_six (chain six_x same)
order-from IX _ h = absurd (cc)
order-from S S h = same
order-from S SIX h = chain s_six same
order-from S U h = chain s_u same
order-from S X h = chain s_six (chain six_x same)
order-from S _ h = absurd (cc)
order-from SIX SIX h = same
order-from SIX X h = chain six_x same
order-from SIX _ h = absurd (cc)
order-from U U h = same
order-from U X h = chain u_x same
order-from U _ h = absurd (cc)
order-from X X h = same
order-from X _ h = absurd (cc)

-- the table decides the order
pub order_decides : (a b : Mode) → Decides (at_or_below a b) (IsAtOrBelow a b)
order_decides a b = (order-from a b, order-tests)

-- the table's mode is a least upper bound
pub sup_least : (a b m : Mode) → m ≡ sup_of a b → IsLeastUpperBound a b m
sup_least a b m e = rw e (record {
  left = order-from a (sup_of a b) (every2-at (λ a b. at_or_below a (sup_of a b)) refl a b);
  right = order-from b (sup_of a b) (every2-at (λ a b. at_or_below b (sup_of a b)) refl a b);
  least = λ n h k. order-from (sup_of a b) n (implied (at_or_below b n) _ (implied (at_or_below a n) _ (every3-at (λ a b n. not (at_or_below a n) || (not (at_or_below b n) || at_or_below (sup_of a b) n)) refl a b n) (order-tests h)) (order-tests k));
})

-- no other mode is a least upper bound
pub sup_only : (a b m : Mode) → IsLeastUpperBound a b m → m ≡ sup_of a b
sup_only a b m h =
    let s = sup_least a b (sup_of a b) refl in
    at_or_below-antisym m (sup_of a b) (order-tests (h.least (sup_of a b) s.left s.right)) (order-tests (s.least m h.left h.right))

-- a higher mode has a greater code
pub order-codes : (a b : Mode) → IsAtOrBelow a b → code_of a ≤ code_of b
order-codes a b h = leb-true (code_of a) (code_of b) (implied (at_or_below a b) _ (every2-at (λ a b. not (at_or_below a b) || leb (code_of a) (code_of b)) refl a b) (order-tests h))
