use Rattle.std.proofs.Common.{◌≡◌, take}
use Rattle.lock_rules.specs.Legal.{IsLegal}
use Rattle.replay_commands.proofs.checking.first_wrong_reply.Given as goal

-- the entries so far are legal and are the book's history
abbrev pub invariant-loop-place : goal.invariant-loop-place
invariant-loop-place l = record { served : l.book.history ≡ take l.place l.entries; legal : IsLegal (take l.place l.entries); sessions : l.book.sessions ≡ l.fn.book.sessions }
