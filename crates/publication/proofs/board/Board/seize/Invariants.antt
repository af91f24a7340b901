use Rattle.publication.specs.List.{bound_of}
use Rattle.publication.proofs.board.Board.seize.Given as goal

-- The bound is that of the board's object.
abbrev pub ghosts-seize_load : goal.ghosts-seize_load
ghosts-seize_load g a = record { bound = bound_of g.O.Sequential.bound a.shared.now.key.object.items }
