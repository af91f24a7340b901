use Rattle.std.proofs.Common.{◌≡◌, take}
use Rattle.lock_shell.proofs.desk.serve_again.Given as goal

-- the entries so far are served
abbrev pub invariant-loop-place : goal.invariant-loop-place
invariant-loop-place l = record { sessions : l.book.sessions ≡ l.fn.book.sessions; cut : l.book.cut ≡ l.fn.book.cut; bound : l.book.bound ≡ l.fn.book.bound; served : l.book.history ≡ take l.place l.entries }
