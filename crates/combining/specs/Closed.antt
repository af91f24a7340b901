-- What an office leaves when it is closed, and what holds of its history.
use Rattle.std.specs.Prelude.{◌≡◌, ℕ, ◌↔◌, List, [], ◌∷◌, ◌++◌, length, sum_by, All, Any, Contains}
use Rattle.sequential.specs.declared.entry.Entry.{Entry}
use Rattle.sequential.specs.declared.object.Sequential.{Ghosts}
use Rattle.sequential.specs.Histories.{Answered, IsEntryOf, ArePlacesRising, IsEntryWithin}
use Rattle.publication.specs.Views.{BoardView, TicketView}
use Rattle.publication.specs.Boards.{IsEachOnce, AccountsFor, TookPieces}
use Rattle.combining.specs.Sessions.{HasNothingPending}

module _ {C R : Type 0} where
  -- How many answers these sessions collected, all together.
  abbrev pub answers_of : List (TicketView C R) → ℕ
  answers_of sessions = sum_by (λ session. length session.collected) sessions

module _ {O C R : Type 0} (obj : Ghosts O C R) where
  -- The object of an office that was closed with these sessions.
  pub record IsClosed (office : BoardView) (sessions : List (TicketView C R)) (object : O) : Type 0 where
    -- each session of the office was handed in once, and none had a call pending
    pub all : IsEachOnce office.sessions sessions
    pub settled : All HasNothingPending sessions
    pub sessions_are : obj.sessions object ≡ office.sessions
    -- the object keeps as many entries at most as when the office was opened
    pub bound_is : obj.bound object ≡ office.bound
    -- each reply is the one that the object gives at its place
    pub legal : obj.is_legal (obj.history object)
    -- for each session: the front that it knew begins the history, and its calls in the history are those that it
    -- collected
    pub accounts : All (AccountsFor (obj.history object)) sessions
    -- each entry is of a session of the office, and there are as many entries as the sessions collected answers
    pub within : All (IsEntryWithin office.sessions) (obj.history object)
    pub count : length (obj.history object) ≡ answers_of sessions
    -- the pieces of the history that the sessions took follow one another, without a gap if the object has no bound, up to the
    -- place before which the object has let go of entries
    pub pieces : TookPieces obj object sessions

module _ {O C R : Type 0} (obj : Ghosts O C R) where
  -- The entry's reply is one that the object can give to its call behind these entries, and any other that it can give there
  -- agrees with it. Where only equal replies agree, it is the only one.
  pub record IsOnlyReply (front : List (Entry C R)) (e : Entry C R) : Type 0 where
    pub legal : obj.is_legal (front ++ e ∷ [])
    pub only : (other : R) → obj.is_legal (front ++ record { session = e.session; call = e.call; reply = other } ∷ []) → obj.agree e.call e.reply other

module _ {O C R : Type 0} (obj : Ghosts O C R) where
  -- One sequential history of these sessions, in which each session finds its calls.
  pub record IsOneHistory (sessions : List (TicketView C R)) (history : List (Entry C R)) : Type 0 where
    -- the calls up to any place are a history that the object can have
    pub fronts : (front rest : List (Entry C R)) → history ≡ front ++ rest → obj.is_legal front
    -- every reply is one that the object can give at its place, and any other that it can give there agrees with it
    pub replies : (front rest : List (Entry C R)) (e : Entry C R) → history ≡ front ++ e ∷ rest → IsOnlyReply obj front e
    -- what a session collected are exactly its entries of the history
    pub entries : All (λ session. (a : Answered C R) → Contains session.collected a ↔ IsEntryOf session.number history a) sessions
    -- each session's answers have rising places: each call is in the history once, in the session's order
    pub in_order : All (λ session. ArePlacesRising session.collected) sessions
    -- every entry is a call of one of these sessions
    pub whose : All (λ entry. Any (λ session. session.number ≡ entry.session) sessions) history
