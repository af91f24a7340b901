-- Internal to this crate, cited by no public contract: what a book counts on the way.
use Rattle.std.specs.Prelude.{◌≡◌, ℕ, ◌<◌, Bool, ◌&&◌, ◌==◌, List, slice_index_or}
use Rattle.lock_rules.specs.declared.calls.Call.{Call}
use Rattle.lock_rules.specs.declared.calls.Call.TheVariants.{Abort, Restart}
use Rattle.lock_rules.specs.declared.kinds.Op.{Op}
use Rattle.lock_rules.specs.Kinds.{kind_of_reply, number_of_kind}
use Rattle.lock_rules.specs.Entries.{Entry}
use Rattle.lock_rules.specs.Counts.{count_if, is_op, is_refusal_numbered, waits_aborted, waits_restarted}
use Rattle.lock_rules.specs.CountTallies.{cell_of}
use Rattle.lock_desk.specs.Deadlocks.{deadlocks_in}
use Rattle.lock_desk.specs.inner.WaitCounts.{with_abort, with_restart, AreVictimsCounted}
use Rattle.lock_desk.specs.declared.wait_counts.WaitCounts.{WaitCounts}
use Rattle.lock_desk.specs.declared.call_counts.CallCounts.{CallCounts}

-- these are the counters of the calls of the history and of their replies
pub record AreCallsCounted (h : List Entry) (c : CallCounts) : Type 0 where
  pub replies : (o : Op) (n : ℕ) → n < 12 → slice_index_or c.replies (cell_of o n) 0 ≡ count_if (λ e. is_op o e && (number_of_kind (kind_of_reply e.reply) == n)) h
  pub refusals : (n : ℕ) → n < 13 → slice_index_or c.refusals n 0 ≡ count_if (λ e. is_refusal_numbered n e.reply) h

-- before a call is served, by a session that waits, or doesn't
abbrev pub with_own_wait : Bool → Call → WaitCounts → WaitCounts
with_own_wait waits Abort c = with_abort waits c
with_own_wait waits Restart c = with_restart waits c
with_own_wait waits _ c = c

-- the victims of the history are counted, and the waits that their own sessions gave up by an abort or a restart
pub record AreWaitsCounted (h : List Entry) (c : WaitCounts) : Type 0 where
  pub victims : AreVictimsCounted (deadlocks_in h) c
  pub aborted : c.aborted ≡ waits_aborted h
  pub restarted : c.restarted ≡ waits_restarted h
