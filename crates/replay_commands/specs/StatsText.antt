-- The counters of a history as text: a line for each, with its group, its name and its number. The format is this project's own
-- choice.
use Rattle.std.specs.Prelude.{ℕ, ◌-◌, List, [], ◌∷◌, ◌++◌, length, replicate, codes, decimal}
use Rattle.lock_rules.specs.declared.calls.Why.TheVariants as why
use Rattle.lock_rules.specs.declared.kinds.Op.TheVariants as op
use Rattle.lock_rules.specs.Entries.{Entry}
use Rattle.lock_rules.specs.Kinds.{word_of}
use Rattle.lock_rules.specs.Legal.{state_of}
use Rattle.lock_rules.specs.Names.{name_of_why}
use Rattle.lock_desk.specs.declared.counts.Calls.{Calls}
use Rattle.lock_desk.specs.declared.counts.Counts.{Counts}
use Rattle.lock_desk.specs.declared.counts.Refusals.{Refusals}
use Rattle.lock_desk.specs.declared.gauges.Gauges.{Gauges}
use Rattle.lock_desk.specs.Counts.{counts_of}
use Rattle.lock_desk.specs.Gauges.{gauges_of}
use Rattle.command_line.specs.declared.args.Form.{Form}
use Rattle.command_line.specs.declared.args.Form.TheVariants as form

-- the word, and spaces up to this width
abbrev pub padded : ℕ → List ℕ → List ℕ
padded width word = word ++ replicate (width - length word) 32

-- the line of a counter: its fields joined by commas, or in columns
abbrev pub line_of : Form → List ℕ → List ℕ → ℕ → List ℕ
line_of form.Rows group name number = group ++ 44 ∷ [] ++ name ++ 44 ∷ [] ++ decimal number ++ 10 ∷ []
line_of _ group name number = padded 11 group ++ padded 15 name ++ decimal number ++ 10 ∷ []

-- how many calls of each operation there were
abbrev pub lines_of_calls : Form → Calls → List ℕ
lines_of_calls form c =
    line_of form (codes "calls") (word_of op.Begin) c.begin
    ++ line_of form (codes "calls") (word_of op.Lock) c.lock
    ++ line_of form (codes "calls") (word_of op.Convert) c.convert
    ++ line_of form (codes "calls") (word_of op.Poll) c.poll
    ++ line_of form (codes "calls") (word_of op.Release) c.release
    ++ line_of form (codes "calls") (word_of op.Commit) c.commit
    ++ line_of form (codes "calls") (word_of op.Abort) c.abort
    ++ line_of form (codes "calls") (word_of op.Try) c.try_lock
    ++ line_of form (codes "calls") (word_of op.Withdraw) c.withdraw
    ++ line_of form (codes "calls") (word_of op.Restart) c.restart

-- the requests for locks, and how they were answered
abbrev pub lines_of_requests : Form → Counts → List ℕ
lines_of_requests form c =
    line_of form (codes "requests") (codes "all") c.requests
    ++ line_of form (codes "requests") (codes "granted") c.granted_at_once
    ++ line_of form (codes "requests") (codes "waiting") c.waits_begun
    ++ line_of form (codes "requests") (codes "refused") c.requests_refused

-- how waits ended
abbrev pub lines_of_waits : Form → Counts → List ℕ
lines_of_waits form c =
    line_of form (codes "waits") (codes "begun") c.waits_begun
    ++ line_of form (codes "waits") (codes "granted") c.waits_granted
    ++ line_of form (codes "waits") (codes "doomed") c.victims
    ++ line_of form (codes "waits") (codes "withdrawn") c.waits_withdrawn
    ++ line_of form (codes "waits") (codes "aborted") c.waits_aborted
    ++ line_of form (codes "waits") (codes "restarted") c.waits_restarted
    ++ line_of form (codes "waits") (codes "waiting") c.waiting

-- the calls that closed a cycle of waits, and the victims
abbrev pub lines_of_deadlocks : Form → Counts → List ℕ
lines_of_deadlocks form c =
    line_of form (codes "deadlocks") (codes "calls") c.deadlocks
    ++ line_of form (codes "deadlocks") (codes "victims") c.victims

-- how many calls were refused, by reason
abbrev pub lines_of_refusals : Form → Refusals → List ℕ
lines_of_refusals form r =
    line_of form (codes "refusals") (name_of_why why.AlreadyOpen) r.already_open
    ++ line_of form (codes "refusals") (name_of_why why.NoTransaction) r.no_transaction
    ++ line_of form (codes "refusals") (name_of_why why.IsWaiting) r.is_waiting
    ++ line_of form (codes "refusals") (name_of_why why.IsDoomed) r.is_doomed
    ++ line_of form (codes "refusals") (name_of_why why.NothingAsked) r.nothing_asked
    ++ line_of form (codes "refusals") (name_of_why why.NotHeld) r.not_held
    ++ line_of form (codes "refusals") (name_of_why why.ParentNotHeld) r.parent_not_held
    ++ line_of form (codes "refusals") (name_of_why why.ChildHeld) r.child_held
    ++ line_of form (codes "refusals") (name_of_why why.TooManyLocks) r.too_many_locks
    ++ line_of form (codes "refusals") (name_of_why why.WouldWait) r.would_wait
    ++ line_of form (codes "refusals") (name_of_why why.NotWaiting) r.not_waiting

-- the open transactions, the locks, the waiting requests, and the length of the longest queue
abbrev pub lines_of_gauges : Form → Gauges → List ℕ
lines_of_gauges form g =
    line_of form (codes "now") (codes "transactions") g.transactions
    ++ line_of form (codes "now") (codes "locks") g.locks
    ++ line_of form (codes "now") (codes "waiting") g.waiting
    ++ line_of form (codes "now") (codes "longest_queue") g.longest_queue

-- the counters
abbrev pub lines_of_counts : Form → Counts → List ℕ
lines_of_counts form c =
    lines_of_calls form c.calls ++ lines_of_requests form c ++ lines_of_waits form c ++ lines_of_deadlocks form c ++ lines_of_refusals form c.refusals

-- the counters of a history of the sessions 1 to n, and the gauges of the state that it leads to
abbrev pub text_of_stats : Form → ℕ → List Entry → List ℕ
text_of_stats form n h = lines_of_counts form (counts_of h) ++ lines_of_gauges form (gauges_of n (state_of h))
