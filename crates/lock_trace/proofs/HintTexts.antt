-- Hints, line by line.
use Rattle.std.proofs.Common.{◌≡◌, inl, inr, ℕ, refl, sym, subst, ◌∙◌, ap, List, [], ◌∷◌, ◌++◌, codes, map, get_or, arith}
use Rattle.std.specs.Prelude.{Result, Ok, Err, OnOk, OnErr}
use Rattle.std.specs.List.{All}
use Rattle.std.proofs.lemmas.List.{flat_map_more}
use Rattle.std.proofs.lemmas.List.Elements.{All-nil, All-cons, All-append, All-map}
use Rattle.lock_trace.specs.HintTexts.{IsPrintable, IsHintLine, IsHintText, with_line_feed}
use Rattle.lock_trace.specs.inner.PrintableBytes.{IsStart, printable_byte}

-- A text with one line more.
one_more : (text line : List ℕ) → IsHintText text → IsHintLine line → IsHintText (text ++ with_line_feed line)
one_more text line h is = (
  h.0 ++ line ∷ [],
  ap (λ (t : List ℕ). t ++ with_line_feed line) h.1 ∙ flat_map_more with_line_feed [] h.0 line,
  All-append IsHintLine h.0 (line ∷ []) h.2 (All-cons IsHintLine line [] is (All-nil IsHintLine)),
)

-- What is shown of words is printable.
words_are_printable : (words : List ℕ) → All IsPrintable (map printable_byte words)
words_are_printable words = All-map IsPrintable printable_byte words (λ k d lt. let byte = get_or words k d in grind arith)

-- A line of words behind its start.
pub hint_line : (start words : List ℕ) → IsStart start → IsHintLine (start ++ map printable_byte words)
hint_line start words (inl e) = subst (λ (s : List ℕ). IsHintLine (s ++ map printable_byte words)) (sym e)
    (inl (map printable_byte words, refl), words_are_printable (codes "  " ++ words))
hint_line start words (inr e) = subst (λ (s : List ℕ). IsHintLine (s ++ map printable_byte words)) (sym e)
    (inr (map printable_byte words, refl), words_are_printable (codes "glm: " ++ words))

-- A text to which a line was appended, or nothing, if memory was refused.
pub after_append : {T E : Type 0} (r : Result T E) (old new line words : List ℕ) → IsHintText old → IsHintLine words → line ≡ with_line_feed words
    → OnOk r (new ≡ old ++ line) → OnErr r (new ≡ old) → IsHintText new
after_append (Ok x) old new line words h is e more same = subst IsHintText (sym (more ∙ ap (λ (t : List ℕ). old ++ t) e)) (one_more old words h is)
after_append (Err x) old new line words h is e more same = subst IsHintText (sym same) h
