-- The deadlocks of a history with one more entry.
use Rattle.std.proofs.Common.{◌≡◌, ℕ, ◌+◌, List, [], ◌∷◌, ◌++◌, length, sym, ◌∙◌, ap, arith, subst, append_assoc, append-nil}
use Rattle.lock_rules.specs.State as rules
use Rattle.lock_rules.specs.Entries.{Entry}
use Rattle.lock_rules.specs.Step.{step}
use Rattle.lock_rules.specs.Legal.{state_after, state_of}
use Rattle.lock_table.specs.Deadlocks.{Moment, deadlocks_of, moments_at}
use Rattle.lock_desk.specs.Deadlocks.{deadlocks_from, deadlocks_in, AreDeadlocksTold, newest}
use Rattle.lock_desk.specs.inner.Noting.{LogView, HasNoted}

deadlocks-push-from : (place : ℕ) (st : rules.State) (es : List Entry) (e : Entry) → deadlocks_from place st (es ++ e ∷ []) ≡ deadlocks_from place st es ++ moments_at (place + length es) e.session (deadlocks_of (state_after st es) e.session e.call)
deadlocks-push-from place st [] e =
    let same : place ≡ place + 0 = omega arith in
    append-nil (moments_at place e.session (deadlocks_of st e.session e.call)) ∙ ap (λ (n : ℕ). moments_at n e.session (deadlocks_of st e.session e.call)) same
deadlocks-push-from place st (x ∷ es) e =
    let next = (step st x.session x.call).state in
    let here = moments_at place x.session (deadlocks_of st x.session x.call) in
    let far : place + 1 + length es ≡ place + length (x ∷ es) = omega arith in
    ap (λ (ms : List Moment). here ++ ms) (deadlocks-push-from (place + 1) next es e)
    ∙ (sym (append_assoc here (deadlocks_from (place + 1) next es) (moments_at (place + 1 + length es) e.session (deadlocks_of (state_after next es) e.session e.call)))
    ∙ ap (λ (n : ℕ). here ++ deadlocks_from (place + 1) next es ++ moments_at n e.session (deadlocks_of (state_after next es) e.session e.call)) far)

pub deadlocks-push : (es : List Entry) (e : Entry) → deadlocks_in (es ++ e ∷ []) ≡ deadlocks_in es ++ moments_at (length es) e.session (deadlocks_of (state_of es) e.session e.call)
deadlocks-push es e =
    let same : 0 + length es ≡ length es = omega arith in
    deadlocks-push-from 0 rules.empty es e ∙ ap (λ (n : ℕ). deadlocks_in es ++ moments_at n e.session (deadlocks_of (state_of es) e.session e.call)) same

-- after one more call, the log tells the newest of all
pub told-more : (es now : List Entry) (e : Entry) (served : ℕ) (a b : LogView) → now ≡ es ++ e ∷ [] → served ≡ length es → HasNoted (moments_at served e.session (deadlocks_of (state_of es) e.session e.call)) a b
    → AreDeadlocksTold (newest a.most (deadlocks_in es)) a.told → AreDeadlocksTold (newest b.most (deadlocks_in now)) b.told
told-more es now e served a b is at noted told =
    let all : deadlocks_in now ≡ deadlocks_in es ++ moments_at served e.session (deadlocks_of (state_of es) e.session e.call)
    = ap deadlocks_in is ∙ (deadlocks-push es e ∙ ap (λ (n : ℕ). deadlocks_in es ++ moments_at n e.session (deadlocks_of (state_of es) e.session e.call)) (sym at)) in
    subst (λ (n : ℕ). AreDeadlocksTold (newest n (deadlocks_in now)) b.told) (sym noted.most)
    (subst (λ (ms : List Moment). AreDeadlocksTold (newest a.most ms) b.told) (sym all) (noted.told (deadlocks_in es) told))
