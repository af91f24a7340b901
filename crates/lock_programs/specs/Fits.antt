-- Behind which replies a program goes on, and which replies a call can have.
use Rattle.std.specs.Prelude.{◌≡◌, Bool, true, false}
use Rattle.lock_rules.specs.declared.calls.Call.{Call}
use Rattle.lock_rules.specs.declared.calls.Call.TheVariants.{Begin, Lock, Convert, Poll, Release, Commit, Abort, Try, Withdraw, Restart}
use Rattle.lock_rules.specs.declared.calls.Reply.{Reply}
use Rattle.lock_rules.specs.declared.calls.Reply.TheVariants.{Began, Granted, Waiting, Deadlock, Clear, Released, Committed, Aborted, Refused, Withdrawn, Restarted}

-- a program goes on behind this reply: the call was granted or done
abbrev pub goes_on_behind : Reply → Bool
goes_on_behind Waiting = false
goes_on_behind Deadlock = false
goes_on_behind (Refused why) = false
goes_on_behind _ = true

-- the reply can be one to this call: it says that the call was granted or done, or a program stops at it
abbrev pub fits : Call → Reply → Bool
fits c Waiting = true
fits c Deadlock = true
fits c (Refused why) = true
fits Begin (Began n) = true
fits Commit (Committed n) = true
fits Abort (Aborted n) = true
fits (Lock r m) (Granted k) = true
fits (Convert r m) (Granted k) = true
fits (Try r m) (Granted k) = true
fits Poll Clear = true
fits (Release r) Released = true
fits Withdraw Withdrawn = true
fits Restart (Restarted n) = true
fits c r = false

abbrev pub Fits : Call → Reply → Type 0
Fits c r = fits c r ≡ true
