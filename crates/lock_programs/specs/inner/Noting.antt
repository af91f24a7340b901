-- Internal to this crate, cited by no public contract: what an answer notes of one more reply.
use Rattle.std.specs.Prelude.{ℕ}
use Rattle.lock_modes.specs.declared.Mode.{Mode}
use Rattle.lock_rules.specs.declared.calls.Reply.{Reply}
use Rattle.lock_rules.specs.declared.calls.Reply.TheVariants.{Began, Granted, Committed, Aborted, Restarted}

-- the number of the transaction that was begun
abbrev pub began_after : ℕ → Reply → ℕ
began_after n (Began m) = m
began_after n _ = n

-- how many locks were released as a transaction ended or restarted
abbrev pub ended_after : ℕ → Reply → ℕ
ended_after n (Committed m) = m
ended_after n (Aborted m) = m
ended_after n (Restarted m) = m
ended_after n _ = n

-- the mode granted
abbrev pub granted_after : Mode → Reply → Mode
granted_after m (Granted k) = k
granted_after m _ = m
