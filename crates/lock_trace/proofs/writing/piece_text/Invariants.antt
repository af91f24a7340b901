use Rattle.std.proofs.Common.{◌≡◌, take}
use Rattle.lock_trace.specs.Histories.{text_of_piece}
use Rattle.lock_trace.proofs.writing.piece_text.Given as goal

-- The text so far is the text of the entries before this one.
abbrev pub invariant-loop-index : goal.invariant-loop-index
invariant-loop-index l = l.out.items ≡ text_of_piece l.first (take l.index l.entries)
