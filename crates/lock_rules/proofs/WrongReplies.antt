-- A legal history with another reply at one place is not legal.
use Rattle.std.proofs.Common.{◌≡◌, ℕ, zero, suc, ◌+◌, false, eqb, List, [], ◌∷◌, refl, sym, ◌∙◌, ap}
use Rattle.std.proofs.lemmas.Bool.Decides.{Decides-eqb}
use Rattle.lock_modes.specs.declared.Mode.{Mode}
use Rattle.lock_modes.specs.declared.Mode.TheVariants.{NL, IS, IX, S, SIX, U, X}
use Rattle.lock_rules.specs.declared.calls.Reply.{Reply}
use Rattle.lock_rules.specs.declared.calls.Reply.TheVariants.{Began, Granted, Waiting, Deadlock, Clear, Released, Committed, Aborted, Refused, Withdrawn, Restarted}
use Rattle.lock_rules.specs.declared.calls.Why.{Why}
use Rattle.lock_rules.specs.declared.calls.Why.TheVariants.{AlreadyOpen, NoTransaction, IsWaiting, IsDoomed, NothingAsked, NotHeld, ParentNotHeld, ChildHeld, TooManyLocks, WouldWait, NotWaiting}
use Rattle.lock_rules.specs.Entries.{Entry}
use Rattle.lock_rules.specs.State.{State, empty}
use Rattle.lock_rules.specs.Step.{step}
use Rattle.lock_rules.specs.Legal.{IsLegalFrom, IsLegal}
use Rattle.lock_rules.specs.Examples.{with_reply}

-- the reply at a place, or r if the history is shorter
abbrev pub reply_or : ℕ → List Entry → Reply → Reply
reply_or p [] r = r
reply_or zero (e ∷ es) r = e.reply
reply_or (suc p) (e ∷ es) r = reply_or p es r

-- if a history is legal with reply r at a place too, its reply there is r
same-reply : (p : ℕ) (r : Reply) (es : List Entry) (st : State) → IsLegalFrom st es → IsLegalFrom st (with_reply p r es) → reply_or p es r ≡ r
same-reply p r [] st h k = refl
same-reply zero r (e ∷ es) st h k = h.0 ∙ sym k.0
same-reply (suc p) r (e ∷ es) st h k = same-reply p r es (step st e.session e.call).state h.1 k.1

-- numbers that tell the replies of the worked histories apart

-- a number for each mode
abbrev pub mode_number : Mode → ℕ
mode_number NL = 0
mode_number IS = 1
mode_number IX = 2
mode_number S = 3
mode_number SIX = 4
mode_number U = 5
mode_number X = 6

-- a number for each refusal
abbrev pub why_number : Why → ℕ
why_number AlreadyOpen = 1
why_number NoTransaction = 2
why_number IsWaiting = 3
why_number IsDoomed = 4
why_number NothingAsked = 5
why_number NotHeld = 6
why_number ParentNotHeld = 7
why_number ChildHeld = 8
why_number TooManyLocks = 9
why_number WouldWait = 11
why_number NotWaiting = 12

-- a number for each reply, enough to tell those of the worked histories apart
abbrev pub reply_number : Reply → ℕ
reply_number (Began n) = 100 + n
reply_number (Granted m) = 10 + mode_number m
reply_number Waiting = 1
reply_number Deadlock = 2
reply_number Clear = 3
reply_number Released = 4
reply_number (Committed n) = 200 + n
reply_number (Aborted n) = 300 + n
reply_number (Refused w) = 20 + why_number w
reply_number Withdrawn = 5
reply_number (Restarted n) = 400 + n

-- a history with a reply of another number at one place isn't legal
pub wrong : (p : ℕ) (r : Reply) (es : List Entry) → eqb (reply_number (reply_or p es r)) (reply_number r) ≡ false → IsLegal es → IsLegal (with_reply p r es) → ⊥
wrong p r es n h k = let e = (Decides-eqb (reply_number (reply_or p es r)) (reply_number r)).1 (ap reply_number (same-reply p r es empty h k)) in cc
