-- The last reply of an answer.
use Rattle.std.proofs.Common.{◌≡◌, ℕ, true, refl}
use Rattle.lock_modes.specs.declared.Mode.{Mode}
use Rattle.lock_rules.specs.declared.calls.Call.{Call}
use Rattle.lock_rules.specs.declared.calls.Call.TheVariants.{Begin, Lock, Convert, Poll, Release, Commit, Abort, Try, Withdraw, Restart}
use Rattle.lock_rules.specs.declared.calls.Reply.{Reply}
use Rattle.lock_rules.specs.declared.calls.Reply.TheVariants.{Began, Granted, Waiting, Deadlock, Clear, Released, Committed, Aborted, Refused, Withdrawn, Restarted}
use Rattle.lock_programs.specs.Answers.{done_with, stop_at, stop_reply}
use Rattle.lock_programs.specs.Fits.{fits}
use Rattle.lock_programs.specs.inner.Noting.{began_after, ended_after, granted_after}

-- what was noted of a reply that fits its call tells the reply
pub last-with : (c : Call) (r : Reply) (b e : ℕ) (o : Mode) → fits c r ≡ true
    → stop_reply (stop_at r) (done_with (began_after b r) (ended_after e r) (granted_after o r) c) ≡ r
last-with Begin (Began n) b e o h = refl
last-with Begin (Granted k) b e o h = absurd (cc)
last-with Begin Waiting b e o h = refl
last-with Begin Deadlock b e o h = refl
last-with Begin Clear b e o h = absurd (cc)
last-with Begin Released b e o h = absurd (cc)
last-with Begin (Committed n) b e o h = absurd (cc)
last-with Begin (Aborted n) b e o h = absurd (cc)
last-with Begin (Refused why) b e o h = refl
last-with Begin Withdrawn b e o h = absurd (cc)
last-with Begin (Restarted n) b e o h = absurd (cc)
last-with (Lock q m) (Began n) b e o h = absurd (cc)
last-with (Lock q m) (Granted k) b e o h = refl
last-with (Lock q m) Waiting b e o h = refl
last-with (Lock q m) Deadlock b e o h = refl
last-with (Lock q m) Clear b e o h = absurd (cc)
last-with (Lock q m) Released b e o h = absurd (cc)
last-with (Lock q m) (Committed n) b e o h = absurd (cc)
last-with (Lock q m) (Aborted n) b e o h = absurd (cc)
last-with (Lock q m) (Refused why) b e o h = refl
last-with (Lock q m) Withdrawn b e o h = absurd (cc)
last-with (Lock q m) (Restarted n) b e o h = absurd (cc)
last-with (Convert q m) (Began n) b e o h = absurd (cc)
last-with (Convert q m) (Granted k) b e o h = refl
last-with (Convert q m) Waiting b e o h = refl
last-with (Convert q m) Deadlock b e o h = refl
last-with (Convert q m) Clear b e o h = absurd (cc)
last-with (Convert q m) Released b e o h = absurd (cc)
last-with (Convert q m) (Committed n) b e o h = absurd (cc)
last-with (Convert q m) (Aborted n) b e o h = absurd (cc)
last-with (Convert q m) (Refused why) b e o h = refl
last-with (Convert q m) Withdrawn b e o h = absurd (cc)
last-with (Convert q m) (Restarted n) b e o h = absurd (cc)
last-with Poll (Began n) b e o h = absurd (cc)
last-with Poll (Granted k) b e o h = absurd (cc)
last-with Poll Waiting b e o h = refl
last-with Poll Deadlock b e o h = refl
last-with Poll Clear b e o h = refl
last-with Poll Released b e o h = absurd (cc)
last-with Poll (Committed n) b e o h = absurd (cc)
last-with Poll (Aborted n) b e o h = absurd (cc)
last-with Poll (Refused why) b e o h = refl
last-with Poll Withdrawn b e o h = absurd (cc)
last-with Poll (Restarted n) b e o h = absurd (cc)
last-with (Release q) (Began n) b e o h = absurd (cc)
last-with (Release q) (Granted k) b e o h = absurd (cc)
last-with (Release q) Waiting b e o h = refl
last-with (Release q) Deadlock b e o h = refl
last-with (Release q) Clear b e o h = absurd (cc)
last-with (Release q) Released b e o h = refl
last-with (Release q) (Committed n) b e o h = absurd (cc)
last-with (Release q) (Aborted n) b e o h = absurd (cc)
last-with (Release q) (Refused why) b e o h = refl
last-with (Release q) Withdrawn b e o h = absurd (cc)
last-with (Release q) (Restarted n) b e o h = absurd (cc)
last-with Commit (Began n) b e o h = absurd (cc)
last-with Commit (Granted k) b e o h = absurd (cc)
last-with Commit Waiting b e o h = refl
last-with Commit Deadlock b e o h = refl
last-with Commit Clear b e o h = absurd (cc)
last-with Commit Released b e o h = absurd (cc)
last-with Commit (Committed n) b e o h = refl
last-with Commit (Aborted n) b e o h = absurd (cc)
last-with Commit (Refused why) b e o h = refl
last-with Commit Withdrawn b e o h = absurd (cc)
last-with Commit (Restarted n) b e o h = absurd (cc)
last-with Abort (Began n) b e o h = absurd (cc)
last-with Abort (Granted k) b e o h = absurd (cc)
last-with Abort Waiting b e o h = refl
last-with Abort Deadlock b e o h = refl
last-with Abort Clear b e o h = absurd (cc)
last-with Abort Released b e o h = absurd (cc)
last-with Abort (Committed n) b e o h = absurd (cc)
last-with Abort (Aborted n) b e o h = refl
last-with Abort (Refused why) b e o h = refl
last-with Abort Withdrawn b e o h = absurd (cc)
last-with Abort (Restarted n) b e o h = absurd (cc)
last-with (Try q m) (Began n) b e o h = absurd (cc)
last-with (Try q m) (Granted k) b e o h = refl
last-with (Try q m) Waiting b e o h = refl
last-with (Try q m) Deadlock b e o h = refl
last-with (Try q m) Clear b e o h = absurd (cc)
last-with (Try q m) Released b e o h = absurd (cc)
last-with (Try q m) (Committed n) b e o h = absurd (cc)
last-with (Try q m) (Aborted n) b e o h = absurd (cc)
last-with (Try q m) (Refused why) b e o h = refl
last-with (Try q m) Withdrawn b e o h = absurd (cc)
last-with (Try q m) (Restarted n) b e o h = absurd (cc)
last-with Withdraw (Began n) b e o h = absurd (cc)
last-with Withdraw (Granted k) b e o h = absurd (cc)
last-with Withdraw Waiting b e o h = refl
last-with Withdraw Deadlock b e o h = refl
last-with Withdraw Clear b e o h = absurd (cc)
last-with Withdraw Released b e o h = absurd (cc)
last-with Withdraw (Committed n) b e o h = absurd (cc)
last-with Withdraw (Aborted n) b e o h = absurd (cc)
last-with Withdraw (Refused why) b e o h = refl
last-with Withdraw Withdrawn b e o h = refl
last-with Withdraw (Restarted n) b e o h = absurd (cc)
last-with Restart (Began n) b e o h = absurd (cc)
last-with Restart (Granted k) b e o h = absurd (cc)
last-with Restart Waiting b e o h = refl
last-with Restart Deadlock b e o h = refl
last-with Restart Clear b e o h = absurd (cc)
last-with Restart Released b e o h = absurd (cc)
last-with Restart (Committed n) b e o h = absurd (cc)
last-with Restart (Aborted n) b e o h = absurd (cc)
last-with Restart (Refused why) b e o h = refl
last-with Restart Withdrawn b e o h = absurd (cc)
last-with Restart (Restarted n) b e o h = refl
