use Rattle.lock_tree.specs.Text.{pieces_of}
use Rattle.lock_tree.proofs.ByPiece.{IsReadTo}
use Rattle.lock_tree.proofs.resource.Resource.read.Given as goal

-- the pieces before the rest are read
abbrev pub invariant-loop-level : goal.invariant-loop-level
invariant-loop-level l = IsReadTo l.bytes l.level l.numbers l.fault (pieces_of l.rest)
