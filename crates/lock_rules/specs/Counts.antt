-- The counters of a history: its calls by what they asked and how they were answered, and its waits, from how each began to how
-- it ended.
use Rattle.std.specs.Prelude.{ℕ, ◌+◌, Bool, true, false, not, ◌&&◌, ◌||◌, ◌==◌, if◌then◌else◌, List, [], ◌∷◌, length}
use Rattle.lock_rules.specs.declared.calls.Reply.{Reply}
use Rattle.lock_rules.specs.declared.calls.Reply.TheVariants.{Refused}
use Rattle.lock_rules.specs.declared.calls.Why.{Why}
use Rattle.lock_rules.specs.declared.kinds.Op.{Op}
use Rattle.lock_rules.specs.declared.kinds.Op.TheVariants as op
use Rattle.lock_rules.specs.declared.kinds.ReplyKind.{ReplyKind}
use Rattle.lock_rules.specs.declared.kinds.ReplyKind.TheVariants as kind
use Rattle.lock_rules.specs.Kinds.{op_of_call, kind_of_reply, number_of_op, number_of_kind, number_of_why}
use Rattle.lock_rules.specs.Entries.{Entry}
use Rattle.lock_rules.specs.State.{State, empty, is_doomed, is_waiting}
use Rattle.lock_rules.specs.Step.{step}
use Rattle.lock_rules.specs.Legal.{state_of}
use Rattle.lock_rules.specs.Ended.{has_ended}

-- 1 if the test holds, else 0
abbrev pub one_if : Bool → ℕ
one_if b = if b then 1 else 0

-- how many items of a list pass a test
abbrev pub count_if : {X : Type 0} → (X → Bool) → List X → ℕ
count_if p [] = 0
count_if p (x ∷ xs) = one_if (p x) + count_if p xs

-- the sum of an amount over entries that are served one after another from this state; the amount of an entry may depend on the
-- states before and after it
abbrev pub total_from : (State → Entry → State → ℕ) → State → List Entry → ℕ
total_from amount st [] = 0
total_from amount st (e ∷ es) = amount st e (step st e.session e.call).state + total_from amount (step st e.session e.call).state es

-- calls and replies

-- the entry is a call of this operation
abbrev pub is_op : Op → Entry → Bool
is_op o e = number_of_op (op_of_call e.call) == number_of_op o

-- the entry's reply is of this kind
abbrev pub is_kind : ReplyKind → Entry → Bool
is_kind k e = number_of_kind (kind_of_reply e.reply) == number_of_kind k

-- the reply is a refusal whose reason has this number
abbrev pub is_refusal_numbered : ℕ → Reply → Bool
is_refusal_numbered n (Refused v) = number_of_why v == n
is_refusal_numbered n _ = false

-- the calls of an operation
abbrev pub calls : Op → List Entry → ℕ
calls o h = count_if (is_op o) h

-- the calls of an operation that got a reply of a kind
abbrev pub replies : Op → ReplyKind → List Entry → ℕ
replies o k h = count_if (λ e. is_op o e && is_kind k e) h

-- the calls that were refused for a reason
abbrev pub refusals : Why → List Entry → ℕ
refusals w h = count_if (λ e. is_refusal_numbered (number_of_why w) e.reply) h

-- requests

-- the operations that request a lock
abbrev pub is_requesting : Op → Bool
is_requesting op.Lock = true
is_requesting op.Convert = true
is_requesting op.Try = true
is_requesting _ = false

-- the entry requests a lock
abbrev pub is_request : Entry → Bool
is_request e = is_requesting (op_of_call e.call)

-- the requests for locks
abbrev pub requests : List Entry → ℕ
requests h = count_if is_request h

-- those that were granted by their own reply, also where a victim of theirs made room
abbrev pub granted_at_once : List Entry → ℕ
granted_at_once h = count_if (λ e. is_request e && is_kind kind.Granted e) h

-- those that were refused
abbrev pub requests_refused : List Entry → ℕ
requests_refused h = count_if (λ e. is_request e && is_kind kind.Refused e) h

-- the request began a wait that its reply tells: the session waits, or closed a cycle and became its victim
abbrev pub begins_wait : Entry → Bool
begins_wait e = is_request e && (is_kind kind.Waiting e || is_kind kind.Deadlock e)

-- the waits that began
abbrev pub waits_begun : List Entry → ℕ
waits_begun h = count_if begins_wait h

-- how waits ended

-- how many waiting requests of other sessions the entry granted
abbrev pub granted_by : State → Entry → State → ℕ
granted_by before e after = count_if (λ q. has_ended e.session before after q.session && not (is_doomed after q.session)) before.table.requests

-- how many other sessions that waited the entry made victims of
abbrev pub doomed_by : State → Entry → State → ℕ
doomed_by before e after = count_if (λ q. has_ended e.session before after q.session && is_doomed after q.session) before.table.requests

-- the request made its own session a victim
abbrev pub dooms_itself : Entry → Bool
dooms_itself e = is_request e && is_kind kind.Deadlock e

-- how many victims the entry made: each had a waiting request, and its wait ended
abbrev pub victims_of : State → Entry → State → ℕ
victims_of before e after = one_if (dooms_itself e) + doomed_by before e after

-- the session of the entry waited, and gave its wait up by this operation
abbrev pub gives_up : Op → State → Entry → State → Bool
gives_up o before e after = is_op o e && (is_waiting before e.session && not (is_waiting after e.session))

-- the waits that ended because another session's call made room
abbrev pub waits_granted : List Entry → ℕ
waits_granted h = total_from granted_by empty h

-- the waits whose session became a victim, which is how many victims there were
abbrev pub waits_doomed : List Entry → ℕ
waits_doomed h = total_from victims_of empty h

-- the waits that their sessions withdrew
abbrev pub waits_withdrawn : List Entry → ℕ
waits_withdrawn h = replies op.Withdraw kind.Withdrawn h

-- the waits that ended with an abort of their sessions
abbrev pub waits_aborted : List Entry → ℕ
waits_aborted h = total_from (λ before e after. one_if (gives_up op.Abort before e after)) empty h

-- the waits that ended with a restart of their sessions
abbrev pub waits_restarted : List Entry → ℕ
waits_restarted h = total_from (λ before e after. one_if (gives_up op.Restart before e after)) empty h

-- the waits that have not ended
abbrev pub still_waiting : List Entry → ℕ
still_waiting h = length (state_of h).table.requests

-- deadlocks

-- the calls that closed a cycle of waits, or several, and so made victims; a call counts once, however many it made
abbrev pub deadlocks : List Entry → ℕ
deadlocks h = total_from (λ before e after. one_if (not (victims_of before e after == 0))) empty h
