-- One turn of a session's call: what it says of the call and of the session. How often a session makes turns, and which of them try for the
-- object, is policy, and is not said here.
use Rattle.std.specs.Prelude.{◌≡◌, ℕ, ◌<◌, false}
use Rattle.publication.specs.Views.{TicketView}
use Rattle.combining.specs.declared.office.Answer.{Answer}
use Rattle.combining.specs.declared.calling.CallOutcome.{CallOutcome}
use Rattle.combining.specs.Sessions.{IsIdle}
use Rattle.combining.specs.Calls.{IsWaitingOn, HasGoneOn}

module _ {C R A : Type 0} (before after : TicketView C R) where
  -- A turn of a session with a call pending, which has this outcome. `is_answered` says that the call is answered, with this place and reply.
  pub record HasAwaited (is_answered : ℕ → A → Type 0) (next : CallOutcome A) : Type 0 where
    -- the answer to the pending call; the session is idle then
    pub answered : (answer : Answer A) → next ≡ CallOutcome.Answered answer → is_answered answer.place answer.reply
    pub idle : (answer : Answer A) → next ≡ CallOutcome.Answered answer → IsIdle after
    -- memory was refused in a pass of the session, which put calls back, and the call is pending as before
    pub starved : next ≡ CallOutcome.Starved → IsWaitingOn before after × (before.put_backs < after.put_backs)
    -- no answer yet, and the call is pending as before
    pub waits : next ≡ CallOutcome.Wait → IsWaitingOn before after
    -- whatever the outcome, the session knows no less
    pub on : HasGoneOn before after

  -- A try of an idle session, in an office of n sessions, to perform a call at once, which has this outcome. `is_called` says that it made the
  -- call and got this answer, `is_calling` that the call is published and pending, and `is_refused` that it is so because memory was refused.
  pub record HasAttempted (n : ℕ) (is_called : ℕ → A → Type 0) (is_calling is_refused : Type 0) (next : CallOutcome A) : Type 0 where
    -- the answer to the call; the session is idle again
    pub called : (answer : Answer A) → next ≡ CallOutcome.Answered answer → is_called answer.place answer.reply
    pub idle : (answer : Answer A) → next ≡ CallOutcome.Answered answer → IsIdle after
    -- memory was refused, and the call is published
    pub starved : next ≡ CallOutcome.Starved → is_calling
    pub refused : next ≡ CallOutcome.Starved → is_refused
    -- another session had the object, and nothing has changed
    pub waits : next ≡ CallOutcome.Wait → (after ≡ before) × (1 < n)
    -- whatever the outcome, the session may make calls as before, and knows no less
    pub live : after.retired ≡ false
    pub on : HasGoneOn before after
