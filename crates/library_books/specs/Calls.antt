-- The outcomes of a book's calls, as the exports state them.
use Rattle.std.specs.Prelude.{◌≡◌, ◌≢◌, ℕ, ◌<◌, ◌≤◌, ◌↔◌, List, [], ◌∷◌, ◌++◌, length, map, take, drop, min, Contains, slice_index}
use Rattle.lock_rules.specs.declared.calls.Call.{Call}
use Rattle.lock_rules.specs.Legal.{state_of}
use Rattle.lock_rules.specs.Step.{step}
use Rattle.lock_rules.specs.Ended.{ended_waits}
use Rattle.lock_desk.specs.BookView.{BookView}
use Rattle.library_books.specs.declared.numbers.CallNumbers.{CallNumbers}
use Rattle.library_books.specs.declared.numbers.ReplyNumbers.{ReplyNumbers}
use Rattle.library_books.specs.declared.option_numbers.OptionNumbers.{OptionNumbers}
use Rattle.library_books.specs.Numbers.{IsCall, numbers_of_reply}

-- the book has a session with this number
abbrev pub IsSession : BookView → ℕ → Type 0
IsSession book session = (1 ≤ session) × (session ≤ book.sessions)

-- a book for so many sessions that was opened with these options
abbrev pub opened_book : ℕ → OptionNumbers → BookView
opened_book sessions options = record { sessions = sessions; history = []; cut = 0; bound = options.keep; ended = []; deadlocks = options.deadlocks }

-- the call that the numbers encode was served: the reply is that of the sequential lock manager, the history has one more entry, and the
-- book tells whose wait the call has ended
abbrev pub IsServed : BookView → BookView → ℕ → CallNumbers → ReplyNumbers → Type 0
IsServed before after session asked reply = (call : Call) × IsCall asked call × (let outcome = step (state_of before.history) session call in
    (reply ≡ numbers_of_reply outcome.reply)
    × (after ≡ record before {
      history = before.history ++ record { session = session; call = call; reply = outcome.reply } ∷ [];
      ended = ended_waits before.sessions session (state_of before.history) outcome.state;
    }))

-- the array after the numbers of the first n items were written to its front
abbrev pub written : {X Y : Type 0} → (X → Y) → ℕ → List X → List Y → List Y
written numbers n items places = map numbers (take n items) ++ drop n places

-- the array after the numbers of the items were written to its front, as many as fit
abbrev pub are_written : {X Y : Type 0} → (X → Y) → List X → List Y → List Y
are_written numbers items places = written numbers (min (length items) (length places)) items places

-- the list has exactly these sessions, each once
pub record AreListedOnce (sessions list : List ℕ) : Type 0 where
  pub listed : (u : ℕ) → Contains list u ↔ Contains sessions u
  pub once : (j k : ℕ) → j < k → k < length list → slice_index list j ≢ slice_index list k
