-- Texts that are written in parts, one after another.
use Rattle.std.proofs.Common.{◌≡◌, ◌∙◌, ℕ, List, ◌++◌, Option, length, take, drop, sym, ap, subst, append_assoc, take-append-drop}
use lib.Seq.{take-append_seam}
use Rattle.std.specs.Io.KnownBytes.{Appends}
use Rattle.std.proofs.KnownBytes.{Appends-trans}
use Rattle.replay_commands.specs.Written.{AppendsPart}

-- what stands before the rest of a text is a part of it
pub part_of : (a b : Option (List ℕ)) (text done rest : List ℕ) → text ≡ done ++ rest → Appends a b done → AppendsPart a b text
part_of a b text done rest split before =
    (length done, subst (Appends a b) (sym (ap (take (length done)) split ∙ take-append_seam done rest)) before)

-- a text, a part of a piece behind it, and what follows the piece
split_in_piece : (text done piece rest : List ℕ) (n : ℕ) → text ≡ done ++ (piece ++ rest) → text ≡ (done ++ take n piece) ++ (drop n piece ++ rest)
split_in_piece text done piece rest n split =
    split
    ∙ ap (λ (l : List ℕ). done ++ (l ++ rest)) (sym (take-append-drop n piece))
    ∙ ap (λ (l : List ℕ). done ++ l) (append_assoc (take n piece) (drop n piece) rest)
    ∙ sym (append_assoc done (take n piece) (drop n piece ++ rest))

-- the part of a piece, written behind what stands before the piece, is a part of the whole
pub part_behind : (a b c : Option (List ℕ)) (text done piece rest : List ℕ) → text ≡ done ++ (piece ++ rest) → Appends a b done → AppendsPart b c piece
    → AppendsPart a c text
part_behind a b c text done piece rest split before part =
    let (n, after) = part in
    part_of a c text (done ++ take n piece) (drop n piece ++ rest) (split_in_piece text done piece rest n split) (Appends-trans a b c done (take n piece) before after)
