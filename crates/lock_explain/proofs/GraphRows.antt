-- Rows of the waits-for graph have edges between sessions of the graph alone.
use Rattle.std.proofs.Common.{◌≡◌, ℕ, ◌+◌, ◌≤◌, Bool, true, false, ltb, ◌&&◌, refl, ◌∙◌, ap, arith}
use Rattle.std.proofs.Math.Bool.{and-false}
use Rattle.std.proofs.lemmas.Bool.Decides.{nat_tests}

-- an edge between sessions of the graph is the wait
pub edge-inside : (a b n : ℕ) (w : Bool) → (w ≡ true → (a + 1 ≤ n) × (b + 1 ≤ n)) → (ltb a n && (ltb b n && w)) ≡ w
edge-inside a b n false h = ap (λ (x : Bool). ltb a n && x) (and-false (ltb b n)) ∙ and-false (ltb a n)
edge-inside a b n true h = let k = h refl in let l = k.0 in let m = k.1 in grind (arith, nat_tests)
