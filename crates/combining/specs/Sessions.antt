-- What contracts see of an office and its sessions.
use Rattle.std.specs.Prelude.{◌≡◌, ◌≢◌, ◌⊎◌, ℕ, ◌+◌, ◌<◌, ◌≤◌, max, cond, Bool, false, Some, None, List, [], ◌∷◌, ◌++◌, length}
use Rattle.std.specs.List.{range_with_len}
use mathlib.Core.Option as opt
use mathlib.Core.List.{IsPrefix}
use lib.ListN.{get_elem?}
use Rattle.sequential.specs.declared.entry.Entry.{Entry}
use Rattle.sequential.specs.Histories.{calls_of}
use Rattle.publication.specs.declared.piece.Piece.{Piece}
use Rattle.publication.specs.Pieces.{lines_in}
use Rattle.publication.specs.Views.{BoardView, TicketView, entry, answer, asks}
use Rattle.publication.specs.Boards.{IsOf, OpensNone, IsUnlisted, enlisted, tried}
use Rattle.sequential.specs.declared.object.Sequential.{Ghosts}

module _ {C R : Type 0} where
  -- The session is of this office and isn't the combiner: it has no record opened, and no walk begun.
  pub record IsSessionOf (office : BoardView) (session : TicketView C R) : Type 0 where
    pub ours : IsOf office session
    pub no_object : session.has_object ≡ false
    pub none : OpensNone session
    pub no_walk : session.route ≡ []
    -- a session with a call pending hasn't retired
    pub live : session.pending ≢ None → session.retired ≡ false

  -- The session has no call pending and may publish one.
  abbrev pub IsIdle : TicketView C R → Type 0
  IsIdle session = (session.pending ≡ None) × (session.retired ≡ false)

  -- The session has collected all the calls that it published.
  abbrev pub HasNothingPending : TicketView C R → Type 0
  HasNothingPending session = session.pending ≡ None

  -- The pending call is in the history that the session knows, which has one call of the session more than it
  -- collected.
  abbrev pub IsPendingServed : TicketView C R → Type 0
  IsPendingServed session = length session.collected < length (calls_of session.number session.front)

  -- A session whose pending call isn't listed tried once more to have it listed, and it may have become so. Any other
  -- session is unchanged.
  abbrev pub HasTriedToList : TicketView C R → TicketView C R → Type 0
  HasTriedToList before after = (IsUnlisted before × ((after ≡ tried before) ⊎ (after ≡ tried (enlisted before))))
      ⊎ ((IsUnlisted before → ⊥) × (after ≡ before))

module _ {O C R : Type 0} (obj : Ghosts O C R) where
  -- A pass by the session. If its pending call wasn't listed, it first tried once more to have it listed. It then knows
  -- the entries added before this pass, followed by those that this pass added, `served` of them, whose places are those that it
  -- has entered. It may have put calls back.
  pub record IsPassed (before after : TicketView C R) (served : ℕ) : Type 0 where
    pub between : TicketView C R
    pub is_tried : HasTriedToList before between
    pub session : after ≡ record between { front = after.front; put_backs = after.put_backs; entered = after.entered }
    pub others : List (Entry C R)
    pub own : List (Entry C R)
    pub front : after.front ≡ before.front ++ others ++ own
    pub count : length own ≡ served
    pub entered : after.entered ≡ before.entered ++ range_with_len (length (before.front ++ others)) served
    pub legal : obj.is_legal after.front

-- A piece of the history, as it is noted.
abbrev pub piece : ℕ → ℕ → ℕ → Piece
piece session first count = record { session = session; first = first; count = count }

module _ {O C R L : Type 0} (obj : Ghosts O C R) (lines : List (Entry C R) → List L) where
  -- The session took these lines of what the object has written down, which begin at the place `first`. It knows the history up
  -- to where it took them, and the piece is noted as one of its own.
  pub record HasTakenPiece (before after : TicketView C R) (first : ℕ) (taken : List L) : Type 0 where
    pub session : after ≡ record before {
      front = after.front;
      pieces = before.pieces ++ piece before.number first (length taken) ∷ [];
    }
    pub longer : IsPrefix before.front after.front
    pub legal : obj.is_legal after.front
    -- they are lines of that history
    pub lines_are : taken ≡ lines_in (lines after.front) (piece before.number first (length taken))
    pub within : first + length taken ≤ length (lines after.front)

module _ {O C R : Type 0} (obj : Ghosts O C R) where
  -- The session collects the answer to its pending call, which is the history's entry at this place.
  pub record IsCollected (before after : TicketView C R) (place : ℕ) (reply : R) : Type 0 where
    pub call : C
    pub floor : ℕ
    pub pending : before.pending ≡ Some (asks call floor)
    pub session : after ≡ record before {
      front = after.front;
      pending = None;
      collected = before.collected ++ answer place call reply ∷ [];
    }
    pub legal : obj.is_legal after.front
    pub longer : IsPrefix before.front after.front
    pub known : length after.front ≡ max (length before.front) (place + 1)
    pub stands : get_elem? after.front place ≡ opt.some (entry before.number call reply)
    -- the entry's place is not below the number of entries that the session knew when it published the call
    pub late : floor ≤ place
    -- the session's calls in the known history are those that it collected
    pub calls : calls_of before.number after.front ≡ after.collected

module _ {O C R : Type 0} (obj : Ghosts O C R) where
  -- The session performed a call of its own, which it didn't publish, in a pass. It then knows the entries added before this
  -- pass, followed by those that this pass added: the call's own, and ahead of it or behind it those of `served` calls that
  -- were published. Their places are those that the session has entered. The pass may have put calls back.
  pub record IsPerformed (first : Bool) (before after : TicketView C R) (call : C) (place : ℕ) (reply : R) (served : ℕ) : Type 0 where
    pub session : after ≡ record before {
      front = after.front;
      collected = before.collected ++ answer place call reply ∷ [];
      put_backs = after.put_backs;
      entered = after.entered;
    }
    pub others : List (Entry C R)
    pub ahead : List (Entry C R)
    pub behind : List (Entry C R)
    pub front : after.front ≡ (before.front ++ others ++ ahead) ++ entry before.number call reply ∷ behind
    pub place_is : place ≡ length (before.front ++ others ++ ahead)
    pub count : length ahead + length behind ≡ served
    pub entered : after.entered ≡ before.entered ++ range_with_len (length (before.front ++ others)) (served + 1)
    -- a call that goes first is the first of the pass, any other call the last
    pub order : cond first ahead behind ≡ []
    pub legal : obj.is_legal after.front
    -- the session's calls in the known history are those that it collected
    pub calls : calls_of before.number after.front ≡ after.collected

module _ {O C R : Type 0} (obj : Ghosts O C R) where
  -- A pass by an idle session, whose own call was not performed. The session then knows the entries added before this pass,
  -- followed by those that this pass added, whose places are those that it has entered. The pass may have put calls back. The
  -- session's calls in the known history are those that it collected before.
  pub record IsRefused (before after : TicketView C R) : Type 0 where
    pub session : after ≡ record before { front = after.front; put_backs = after.put_backs; entered = after.entered }
    pub others : List (Entry C R)
    pub own : List (Entry C R)
    pub front : after.front ≡ before.front ++ others ++ own
    pub entered : after.entered ≡ before.entered ++ range_with_len (length (before.front ++ others)) (length own)
    pub longer : IsPrefix before.front after.front
    pub legal : obj.is_legal after.front
    pub calls : calls_of before.number after.front ≡ after.collected
