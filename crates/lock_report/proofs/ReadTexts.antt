-- Texts of resources and names of modes are UTF-8.
use Rattle.std.proofs.Common.{◌≡◌, ℕ, ◌<◌, ◌^◌, true, List, [], ◌∷◌, map, arith}
use Rattle.std.specs.Prelude.{decimal}
use Rattle.std.specs.List.{AllByRecursion, join_with_byte}
use Rattle.std.specs.Str.{is_utf8, IsAscii}
use Rattle.std.proofs.lemmas.Fmt.{IsAscii-decimal}
use Rattle.std.proofs.lemmas.List.Elements.{recursion_from_All}
use Rattle.std.proofs.lemmas.Str.{is_utf8-from_IsUtf8, IsUtf8-from_ascii, IsAscii-append}
use Rattle.std.proofs.lemmas.Str.Ascii.{IsAscii-nil, IsAscii-cons}
use Rattle.lock_modes.specs.declared.Mode.{Mode}
use Rattle.lock_modes.specs.declared.Mode.TheVariants.{NL, IS, IX, S, SIX, U, X}
use Rattle.lock_modes.specs.Codes.{name_of}
use Rattle.lock_tree.specs.Paths.{IsResource}
use Rattle.lock_tree.specs.Text.{text_of}

-- The decimals of 32-bit numbers, joined, are ASCII.
numbers-ascii : (r : List ℕ) → AllByRecursion (λ n. n < 2 ^ 32) r → IsAscii (join_with_byte 47 (map decimal r))
numbers-ascii [] small = IsAscii-nil
numbers-ascii (n ∷ []) small = IsAscii-decimal n (omega (arith, small.0))
numbers-ascii (n ∷ m ∷ ns) small =
    IsAscii-append (decimal n) (47 ∷ join_with_byte 47 (map decimal (m ∷ ns))) (IsAscii-decimal n (omega (arith, small.0))) (IsAscii-cons 47 (join_with_byte 47 (map decimal (m ∷ ns))) (omega arith) (numbers-ascii (m ∷ ns) small.1))

-- The text of a resource is UTF-8.
pub resource-utf8 : (r : List ℕ) → IsResource r → is_utf8 (text_of r) ≡ true
resource-utf8 r h = is_utf8-from_IsUtf8 (text_of r) (IsUtf8-from_ascii (text_of r) (numbers-ascii r (recursion_from_All (λ n. n < 2 ^ 32) r h.small)))

-- The name of a mode is ASCII.
mode-ascii : (m : Mode) → IsAscii (name_of m)
mode-ascii NL = IsAscii-cons 78 (76 ∷ []) (omega arith) (IsAscii-cons 76 ([]) (omega arith) IsAscii-nil)
mode-ascii IS = IsAscii-cons 73 (83 ∷ []) (omega arith) (IsAscii-cons 83 ([]) (omega arith) IsAscii-nil)
mode-ascii IX = IsAscii-cons 73 (88 ∷ []) (omega arith) (IsAscii-cons 88 ([]) (omega arith) IsAscii-nil)
mode-ascii S = IsAscii-cons 83 ([]) (omega arith) IsAscii-nil
mode-ascii SIX = IsAscii-cons 83 (73 ∷ 88 ∷ []) (omega arith) (IsAscii-cons 73 (88 ∷ []) (omega arith) (IsAscii-cons 88 ([]) (omega arith) IsAscii-nil))
mode-ascii U = IsAscii-cons 85 ([]) (omega arith) IsAscii-nil
mode-ascii X = IsAscii-cons 88 ([]) (omega arith) IsAscii-nil

-- The name of a mode is UTF-8.
pub mode-utf8 : (m : Mode) → is_utf8 (name_of m) ≡ true
mode-utf8 m = is_utf8-from_IsUtf8 (name_of m) (IsUtf8-from_ascii (name_of m) (mode-ascii m))
