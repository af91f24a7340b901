-- A batch leaves the replies and the entries that its calls leave when they are served one after another.
use Rattle.std.specs.Prelude.{ℕ, ◌≤◌, ◌↔◌, Bool, true, false, ◌||◌, ◌==◌, List, [], ◌∷◌, filter, take, drop, Contains}
use Rattle.std.specs.List.{range_with_len, list_any}
use Rattle.sequential.specs.declared.entry.Item.{Item as ItemOf}
use Rattle.sequential.specs.EndedWaits.{HasEndedIn}
use Rattle.lock_rules.specs.declared.calls.Call.{Call}
use Rattle.lock_rules.specs.declared.calls.Reply.{Reply}
use Rattle.lock_rules.specs.Entries.{Entry}
use Rattle.lock_rules.specs.declared.calls.Call.TheVariants.{Release, Commit, Abort, Withdraw, Restart}
use Rattle.lock_rules.specs.State.{State}
use Rattle.lock_rules.specs.Legal.{state_of}
use Rattle.lock_rules.specs.Step.{step}
use Rattle.lock_rules.specs.Ended.{has_ended, HasEnded}
use Rattle.lock_desk.specs.BookView.{BookView}

-- one call of a batch, with its reply once it is served
abbrev pub Item : Type 0
Item = ItemOf Call Reply

-- the entries of these calls, served in order from this state: each reply is that of the step in the state that the
-- calls before it lead to
abbrev pub entries_from : State → List Item → List Entry
entries_from st [] = []
entries_from st (i ∷ is) =
    record { session = i.session; call = i.call; reply = (step st i.session i.call).reply } ∷ entries_from (step st i.session i.call).state is

-- one of these calls, served in order from this state, has ended the wait of session u, which is another than that of the call
abbrev pub has_ended_in : State → List Item → ℕ → Bool
has_ended_in st [] u = false
has_ended_in st (i ∷ is) u = has_ended i.session st (step st i.session i.call).state u || has_ended_in (step st i.session i.call).state is u

-- the sessions from 1 to n whose wait one of these calls has ended, by number
abbrev pub ended_waits_in : ℕ → State → List Item → List ℕ
ended_waits_in n st is = filter (has_ended_in st is) (range_with_len 1 n)

-- the sessions from 1 to n that are told already, and those whose wait a call of session s has ended, by number
abbrev pub ended_waits_beside : ℕ → List ℕ → ℕ → State → State → List ℕ
ended_waits_beside n told s before after = filter (λ u. list_any (λ v. v == u) told || has_ended s before after u) (range_with_len 1 n)

-- the entry's call, which follows this history, has ended the wait of session u, which is another than that of the call
abbrev pub ends_wait : List Entry → Entry → ℕ → Type 0
ends_wait history entry u = (let before = state_of history in HasEnded entry.session before (step before entry.session entry.call).state u)

-- the book tells exactly the sessions whose wait the calls from this place of its history on have ended
abbrev pub TellsFrom : BookView → ℕ → Type 0
TellsFrom book from = (u : ℕ) → Contains book.ended u ↔ ((1 ≤ u) × (u ≤ book.sessions) × HasEndedIn ends_wait (take from book.history) (drop from book.history) u)

-- whether the call makes room for requests of others: it releases locks, or takes a request out of a queue
abbrev pub makes_room : Call → Bool
makes_room (Release resource) = true
makes_room Commit = true
makes_room Abort = true
makes_room Withdraw = true
makes_room Restart = true
makes_room _ = false
