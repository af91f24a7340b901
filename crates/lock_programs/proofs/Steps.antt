-- Each reply of the lock manager fits its call.
use Rattle.std.proofs.Common.{◌≡◌, ℕ, Bool, true, false, cond, List, [], ◌∷◌, ◌++◌, Option, Some, None, refl, ap, ◌∙◌}
use Rattle.lock_modes.specs.declared.Mode.{Mode}
use Rattle.lock_rules.specs.declared.calls.Call.{Call}
use Rattle.lock_rules.specs.declared.calls.Call.TheVariants.{Begin, Lock, Convert, Poll, Release, Commit, Abort, Try, Withdraw, Restart}
use Rattle.lock_rules.specs.declared.calls.Reply.TheVariants.{Granted, Waiting, Deadlock, Clear}
use Rattle.lock_rules.specs.declared.calls.Why.{Why}
use Rattle.lock_rules.specs.Entries.{Entry}
use Rattle.lock_rules.specs.State.{State, is_waiting, is_doomed, held_mode}
use Rattle.lock_rules.specs.Step.{target_of, after_asking, act, outcome_of, first_failing, tests, step}
use Rattle.lock_rules.specs.Legal.{IsLegalFrom}
use Rattle.lock_programs.specs.Fits.{fits}

-- the reply to a request, by whether its session is doomed after it and whether it waits
lock-fits : (r : List ℕ) (m k : Mode) (d w : Bool) → fits (Lock r m) (cond d Deadlock (cond w Waiting (Granted k))) ≡ true
lock-fits r m k true w = refl
lock-fits r m k false true = refl
lock-fits r m k false false = refl

convert-fits : (r : List ℕ) (m k : Mode) (d w : Bool) → fits (Convert r m) (cond d Deadlock (cond w Waiting (Granted k))) ≡ true
convert-fits r m k true w = refl
convert-fits r m k false true = refl
convert-fits r m k false false = refl

try-fits : (r : List ℕ) (m k : Mode) (d w : Bool) → fits (Try r m) (cond d Deadlock (cond w Waiting (Granted k))) ≡ true
try-fits r m k true w = refl
try-fits r m k false true = refl
try-fits r m k false false = refl

poll-fits : (d w : Bool) → fits Poll (cond d Deadlock (cond w Waiting Clear)) ≡ true
poll-fits true w = refl
poll-fits false true = refl
poll-fits false false = refl

act-fits : (st : State) (s : ℕ) (c : Call) → fits c (act st s c).reply ≡ true
act-fits st s Begin = refl
act-fits st s (Lock r m) =
    let k : Mode = target_of (held_mode st.table s r) m in
    let after : State = after_asking st s r k in lock-fits r m k (is_doomed after s) (is_waiting after s)
act-fits st s (Convert r m) =
    let k : Mode = target_of (held_mode st.table s r) m in
    let after : State = after_asking st s r k in convert-fits r m k (is_doomed after s) (is_waiting after s)
act-fits st s Poll = poll-fits (is_doomed st s) (is_waiting st s)
act-fits st s (Release r) = refl
act-fits st s Commit = refl
act-fits st s Abort = refl
act-fits st s (Try r m) =
    let k : Mode = target_of (held_mode st.table s r) m in
    let after : State = after_asking st s r k in try-fits r m k (is_doomed after s) (is_waiting after s)
act-fits st s Withdraw = refl
act-fits st s Restart = refl

outcome-fits : (o : Option Why) (st : State) (s : ℕ) (c : Call) → fits c (outcome_of o st s c).reply ≡ true
outcome-fits None st s c = act-fits st s c
outcome-fits (Some why) st s Begin = refl
outcome-fits (Some why) st s (Lock r m) = refl
outcome-fits (Some why) st s (Convert r m) = refl
outcome-fits (Some why) st s Poll = refl
outcome-fits (Some why) st s (Release r) = refl
outcome-fits (Some why) st s Commit = refl
outcome-fits (Some why) st s Abort = refl
outcome-fits (Some why) st s (Try r m) = refl
outcome-fits (Some why) st s Withdraw = refl
outcome-fits (Some why) st s Restart = refl

pub last-fits : (st : State) (front : List Entry) (e : Entry) → IsLegalFrom st (front ++ e ∷ []) → fits e.call e.reply ≡ true
last-fits st [] e h = ap (fits e.call) h.0 ∙ outcome-fits (first_failing (tests st e.session e.call)) st e.session e.call
last-fits st (f ∷ fs) e h = last-fits (step st f.session f.call).state fs e h.1
