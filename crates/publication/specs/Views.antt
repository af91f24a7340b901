-- What sessions know. A seat (a type of `atomic_table`) is the handle with which one thread takes atomic steps on the
-- shared words. It carries the slots that it has taken out of the table, and it has a view: a ghost value that says
-- what the seat's steps have shown. A view exists in proofs only and takes no memory. BoardView and TicketView are
-- what contracts see of a board and of a ticket.
use Rattle.std.specs.Prelude.{◌≡◌, ◌⊎◌, ℕ, ◌≤◌, Bool, Option, Some, List, [], ◌∷◌, ◌++◌}
use Rattle.sequential.specs.Bounds.{Bounds}
use Rattle.atomic_table.specs.Seated.{TableId}
use Rattle.sequential.specs.declared.entry.Entry.{Entry}
use Rattle.sequential.specs.Histories.{Answered, calls_of}
use Rattle.sequential.specs.Linearizable.{Event}
use Rattle.publication.specs.declared.piece.Piece.{Piece}

-- A call that its session has published and not collected yet. `floor` is the number of history entries that the
-- session knew when it published the call.
pub record Pending (C : Type 0) : Type 0 where
  pub call : C
  pub floor : ℕ

-- What a session knows of its own calls.
pub record Own (C R : Type 0) : Type 0 where
  -- its record's slot is the session's whenever no call is pending: from its first step until it is handed in to
  -- close the board
  pub started : Bool
  -- it publishes no more calls
  pub retired : Bool
  -- the call that waits for its reply
  pub pending : Option (Pending C)
  -- the answers that it took, or got by a direct entry, oldest first
  pub collected : List (Answered C R)
  -- the call that it published last is listed, so a combiner's walk meets its record
  pub listed : Bool
  -- its own events, in order, each with its moment: how many events there were before it, of all sessions
  pub log : List (ℕ × Event C R)

-- The combiner's part of a view.
pub record Combiner (C : Type 0) : Type 0 where
  -- the session is the combiner: it has the object
  pub has_object : Bool
  -- at each session's number, the call that the combiner has opened in that session's record
  pub opened : List (Option C)
  -- the number of the record whose slot the combiner has taken out of the table, or 0 for none
  pub hand : ℕ
  -- how many calls that it had opened it posted again, since it is a session
  pub put_backs : ℕ
  -- the places of the history that it entered, since it is a session: where it answered a call, or entered one directly
  pub entered : List ℕ

-- What a seat knows of the publication list.
pub record Listing : Type 0 where
  -- the value of the head word that the session wrote into its own link, until it has tried the exchange of the head
  -- word
  pub head_seen : Option ℕ
  -- the records that the combiner's walk meets, first to last: the list without the records linked at its head since
  pub route : List ℕ
  -- the record that the combiner has unlinked and neither marked OUT nor linked again, or 0 for none
  pub off : ℕ
  -- the record that was in front of `off`
  pub before : ℕ
  -- how often the session has tried to exchange the head word, to have its call listed
  pub tries : ℕ

-- A session whose ticket was handed in to close the board.
pub record Handed (C R : Type 0) : Type 0 where
  -- its number
  pub number : ℕ
  -- the answers that it took, oldest first
  pub collected : List (Answered C R)
  -- the front of the history that it knew
  pub front : List (Entry C R)
  -- the pieces of the history that it took, in order
  pub pieces : List Piece
  -- the places of the history that it entered as the combiner, in order
  pub entered : List ℕ

-- What a seat knows of the other seats.
pub record Others (C R : Type 0) : Type 0 where
  -- all sessions are made
  pub all_made : Bool
  -- the front of the history known to the seat that was joined into this one last
  pub beside : List (Entry C R)
  -- the sessions whose seats were joined into this one to close the board, in that order
  pub handed : List (Handed C R)
  -- and what each of these has noted of its own events
  pub logs : List (ℕ × List (ℕ × Event C R))

-- What a session knows of the pieces of the history that were taken.
pub record Taken : Type 0 where
  -- the pieces that it took, in order
  pub own : List Piece
  -- while it is the combiner: the pieces that all sessions took before, in order
  pub all : List Piece

-- What contracts see of a board.
pub record BoardView : Type 0 where
  -- which table it is
  pub id : TableId
  -- its number of sessions
  pub sessions : ℕ
  -- how much its object keeps in memory at most
  pub bound : Bounds

-- What contracts see of a ticket.
pub record TicketView (C R : Type 0) : Type 0 where
  -- its board
  pub board : TableId
  -- its session's number, from 1 on
  pub number : ℕ
  -- the front of the history that the session knows
  pub front : List (Entry C R)
  -- the call that waits for its reply
  pub pending : Option (Pending C)
  -- the answers that the session took, or got by a direct entry, oldest first
  pub collected : List (Answered C R)
  -- at each session's number, how many calls of that session are known to be published
  pub heard : List ℕ
  -- the session publishes no more calls
  pub retired : Bool
  -- the session is the combiner
  pub has_object : Bool
  -- at each session's number, the call that this combiner has opened in that session's record
  pub opened : List (Option C)
  -- the call that the session published last is listed
  pub listed : Bool
  -- the records that the walk of the publication list meets
  pub route : List ℕ
  -- how often the session has tried to have a call listed: one exchange of the head word each
  pub tries : ℕ
  -- how many calls that it had opened as the combiner it posted again
  pub put_backs : ℕ
  -- the places of the history that the session entered as the combiner, in order: where it answered a call, or entered one
  -- directly
  pub entered : List ℕ
  -- the pieces of the history that the session took, in order
  pub pieces : List Piece
  -- while it is the combiner: the pieces that all sessions took before, in order
  pub taken : List Piece

-- What contracts see of a session's knowledge that travels apart from its ticket.
pub record KnowledgeView (C R : Type 0) : Type 0 where
  -- the board
  pub board : TableId
  -- the front of the history that the session knew
  pub front : List (Entry C R)
  -- at each session's number, how many calls of that session were known to be published
  pub heard : List ℕ

module _ {C R : Type 0} where
  -- The history entry of a session's call with its reply.
  abbrev pub entry : ℕ → C → R → Entry C R
  entry session call reply = record { session = session; call = call; reply = reply }

  -- An answered call with the place of its entry in the history.
  abbrev pub answer : ℕ → C → R → Answered C R
  answer place call reply = record { place = place; call = call; reply = reply }

module _ {C : Type 0} where
  -- A pending call, published when its session knew `floor` entries of the history.
  abbrev pub asks : C → ℕ → Pending C
  asks call floor = record { call = call; floor = floor }

module _ {C R : Type 0} where
  -- The calls of session i in the history are those that it collected, or those and its pending call, at a place not below
  -- the number of entries that the session knew when it published that call.
  abbrev pub IsAccountedIn : List (Entry C R) → ℕ → List (Answered C R) → Option (Pending C) → Type 0
  IsAccountedIn h i answers pending = (calls_of i h ≡ answers)
      ⊎ ((call : C) × (floor : ℕ) × (place : ℕ) × (reply : R) × (pending ≡ Some (asks call floor)) × (floor ≤ place)
      × (calls_of i h ≡ answers ++ answer place call reply ∷ []))
