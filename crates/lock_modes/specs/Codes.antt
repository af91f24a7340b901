-- Modes as bits, for fast scans, and as names. The codes and masks are this project's own choice.
use Rattle.std.specs.Prelude.{ℕ, if◌then◌else◌, ◌==◌, List, [], ◌∷◌, codes, bit_or}
use Rattle.lock_modes.specs.declared.Mode.{Mode}
use Rattle.lock_modes.specs.declared.Mode.TheVariants.{NL, IS, IX, S, SIX, U, X}

-- the code of a mode; the bitwise or of two codes is the code of the least upper bound
abbrev pub code_of : Mode → ℕ
code_of NL = 0
code_of IS = 1
code_of IX = 3
code_of S = 5
code_of SIX = 7
code_of U = 13
code_of X = 15

-- the mode with this code, NL if no mode has it
abbrev pub mode_of_code : ℕ → Mode
mode_of_code c = if c == code_of IS then IS else (if c == code_of IX then IX else (if c == code_of S then S else (if c == code_of SIX then SIX else (if c == code_of U then U else (if c == code_of X then X else NL)))))

-- the conflict mask of a mode: it meets the codes of exactly the modes that conflict with it
abbrev pub mask_of : Mode → ℕ
mask_of NL = 0
mask_of IS = 8
mask_of IX = 4
mask_of S = 10
mask_of SIX = 6
mask_of U = 10
mask_of X = 1

-- the bitwise or of the codes of a column of modes
abbrev pub union_of : List Mode → ℕ
union_of [] = 0
union_of (m ∷ ms) = bit_or (code_of m) (union_of ms)

-- the name of a mode, as traces and histories write it
abbrev pub name_of : Mode → List ℕ
name_of NL = codes "NL"
name_of IS = codes "IS"
name_of IX = codes "IX"
name_of S = codes "S"
name_of SIX = codes "SIX"
name_of U = codes "U"
name_of X = codes "X"
