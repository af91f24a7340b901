-- Internal to this crate, cited by no public contract: the invariant of a book.
use Rattle.std.specs.Prelude.{◌≡◌, ◌≤◌, length, vec_len}
use Rattle.std.specs.List.{All}
use Rattle.waits_for.specs.declared.TheConstants.{MAX_SESSIONS}
use Rattle.lock_rules.specs.Legal.{state_of, IsLegal}
use Rattle.lock_desk.specs.BookView.{BookView}
use Rattle.lock_desk.specs.Deadlocks.{AreDeadlocksTold, deadlocks_in, newest}
use Rattle.sequential.specs.Histories.{IsEntryWithin}
use Rattle.lock_holders.specs.Woken.{ended_in}
use Rattle.lock_table.specs.Changes.{IsWhole}
use Rattle.lock_desk.specs.inner.Counting.{AreCallsCounted, AreWaitsCounted}
use Rattle.lock_desk.specs.inner.Noting.{IsLogFor}
use Rattle.lock_table.specs.Ready.{IsReadyTable}
use Rattle.lock_table.specs.Shows.{Shows}
use Rattle.lock_desk.specs.declared.book.Book.TheInside.{Inside}

-- what contracts see of a book: its number of sessions, its history, which entries are kept, whose wait has ended, and how many
-- deadlocks are kept
abbrev pub book_view_of : Inside → BookView
book_view_of a = record {
  sessions = a.sessions;
  history = a.history.items;
  cut = a.history.cut;
  bound = a.history.bound;
  ended = ended_in a.lock_table.value.ended;
  deadlocks = a.notes.log.most;
}

-- the history is legal, the lock table represents the state that the history leads to, there is a locker for each
-- session, the log tells the newest deadlocks, and the counters are those of the history
pub record IsKept (a : Inside) : Type 0 where
  pub some : 1 ≤ a.sessions
  pub few : a.sessions ≤ MAX_SESSIONS
  pub legal : IsLegal a.history.items
  pub within : All (IsEntryWithin a.sessions) a.history.items
  pub shows : Shows a.lock_table.value (state_of a.history.items)
  pub whole : IsWhole a.lock_table.value
  pub ready : IsReadyTable a.lock_table.value
  pub lockers : vec_len a.lock_table.value.lockers ≡ a.sessions
  pub counted : a.lock_table.value.count ≤ length a.history.items
  pub log : IsLogFor (vec_len a.lock_table.value.lockers) a.notes.log
  pub told : AreDeadlocksTold (newest a.notes.log.most (deadlocks_in a.history.items)) a.notes.log.told
  pub calls : AreCallsCounted a.history.items a.notes.counts
  pub waits : AreWaitsCounted a.history.items a.notes.log.counts
