-- Lists of words.
use Rattle.std.specs.Prelude.{ℕ, List, [], ◌∷◌, ◌++◌, codes}

-- The words with commas between them, and `or` before the last.
abbrev pub listed : List (List ℕ) → List ℕ
listed [] = []
listed (word ∷ []) = word
listed (word ∷ (last ∷ [])) = word ++ codes " or " ++ last
listed (word ∷ (next ∷ (other ∷ words))) = word ++ codes ", " ++ listed (next ∷ (other ∷ words))
