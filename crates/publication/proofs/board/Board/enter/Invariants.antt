use Rattle.std.proofs.Common.{Some}
use Rattle.publication.proofs.board.Board.enter.Given as goal

-- The call and the reply that are entered are those that are given.
abbrev pub ghosts-enter_call : goal.ghosts-enter_call
ghosts-enter_call g a = record { call = Some a._call; reply = Some a._reply }
