-- What a reader that skips comments has left, and what one read of it does.
use Rattle.std.specs.Prelude.{◌≡◌, ◌<◌, ℕ, Bool, List, Option, length, take, option_map, if◌then◌else◌, Result, MatchResult}
use Rattle.std.specs.Io.KnownBytes.{Consumes, IsAtEnd, Keeps}
use Rattle.lock_trace.specs.Comments.{without_comments_from}
use Rattle.lock_trace.specs.declared.comments.SkipComments.{SkipComments}

-- the bytes that are left: those of the reader below, without comments if they are skipped
abbrev pub remaining_of : {R : Type 0} → (R → Option (List ℕ)) → SkipComments R → Option (List ℕ)
remaining_of remaining it = if it.skips then option_map (without_comments_from it.spot) (remaining it.input) else remaining it.input

-- a read that gave a number of bytes, and kept those that are no comment, at the front of the buffer
abbrev pub HasReadShown : {E : Type 0} → Option (List ℕ) → Option (List ℕ) → Result (ℕ × ℕ) E → List ℕ → Type 0
HasReadShown old new result bytes =
    MatchResult result (λ counts. Consumes old new (take counts.1 bytes) × (counts.0 ≡ 0 → 0 < length bytes → IsAtEnd new)) (λ _. Keeps old new)
