-- Readers that keep the last rows of what they read.
use Rattle.lock_trace.specs.declared.hints.kept.Kept.{Kept}

-- The reader that is read from.
abbrev pub reader_of : {R : Type 0} → Kept R → R
reader_of kept = kept.input
