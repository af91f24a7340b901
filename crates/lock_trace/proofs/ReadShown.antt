-- What one read of a text with comments consumes of the text without them.
use Rattle.std.proofs.Common.{rules, arith, ap, sym, subst, ◌≡◌, ◌∙◌, ◌++◌, ◌+◌, ◌-◌, ◌<◌, ◌≤◌, ℕ, List, Option, Some, None, length, take, drop, option_map, length-append, length-drop, length-take}
use lib.Seq.{take-append-le}
use Rattle.std.specs.Io.KnownBytes.{Consumes, IsAtEnd}
use Rattle.lock_trace.specs.declared.spot.Spot.{Spot}
use Rattle.lock_trace.specs.Comments.{spot_after, without_comments_from}
use Rattle.lock_trace.proofs.Skipped.{consumes_shown}

-- known bytes of which none is left have none left without comments
at_end_shown : (s : Spot) (bytes : Option (List ℕ)) → IsAtEnd bytes → IsAtEnd (option_map (without_comments_from s) bytes)
unfolding without_comments_from
at_end_shown s None h = search rules
at_end_shown s (Some xs) h = ap (without_comments_from s) h

-- a read whose bytes were moved to the front without comments
pub read_shown_once : (s now : Spot) (old new : Option (List ℕ)) (count kept : ℕ) (read part : List ℕ) → count ≤ length read
    → Consumes old new (take count read) × (count ≡ 0 → 0 < length read → IsAtEnd new) → length part ≡ length (take count read) → kept ≤ length part
    → take kept part ≡ without_comments_from s (take count read) → now ≡ spot_after s (take count read)
    → Consumes (option_map (without_comments_from s) old) (option_map (without_comments_from now) new) (take kept (part ++ drop count read))
    × (count ≡ 0 → 0 < length (part ++ drop count read) → IsAtEnd (option_map (without_comments_from now) new))
read_shown_once s now old new count kept read part within h same few shown behind =
    let text : take kept (part ++ drop count read) ≡ without_comments_from s (take count read) = take-append-le kept part (drop count read) few ∙ shown in (
      subst (λ (t : List ℕ). Consumes (option_map (without_comments_from s) old) (option_map (without_comments_from now) new) t) (sym text)
          (subst (λ (z : Spot). Consumes (option_map (without_comments_from s) old) (option_map (without_comments_from z) new) (without_comments_from s (take count read)))
          (sym behind) (consumes_shown s (take count read) old new h.0)),
      λ none some. at_end_shown now new (h.1 none
          (omega (arith, none, some, within, same, length-take count read, length-drop count read, length-append part (drop count read)))),
    )
