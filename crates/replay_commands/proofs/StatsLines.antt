-- Texts that are written one after another.
use Rattle.std.proofs.Common.{◌≡◌, ℕ, List, ◌++◌, ◌∙◌, ap, append_assoc}

-- two texts, the second behind the first
pub followed : (a b c p q : List ℕ) → b ≡ a ++ p → c ≡ b ++ q → c ≡ a ++ (p ++ q)
followed a b c p q first next = next ∙ ap (λ (x : List ℕ). x ++ q) first ∙ append_assoc a p q
