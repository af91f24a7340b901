-- How the private fields of a board, of a ticket and of a knowledge give what contracts see, and the invariants of the
-- three types.
use Rattle.std.specs.Prelude.{◌≡◌, ◌+◌, ◌<◌, ◌≤◌, [], length}
use Rattle.sequential.specs.Bounds.{Bounds}
use Rattle.sequential.specs.declared.entry.TheConstants.{MAX_SESSIONS}
use Rattle.publication.specs.Views.{BoardView, TicketView, KnowledgeView}
use Rattle.publication.specs.StepKinds.{copy_of}
use Rattle.publication.specs.List.{bound_of}
use Rattle.publication.specs.inner.Tickets.{IsBoard, IsBetweenCalls}
use Rattle.publication.specs.declared.board.Board.TheInside.{Inside as BoardInside}
use Rattle.publication.specs.declared.board.Ticket.TheInside.{Inside as TicketInside}
use Rattle.publication.specs.declared.board.knowledge.TicketKnowledge.TheInside.{Inside as KnowledgeInside}

module _ {O C R : Type 0} (bound : O → Bounds) where
  -- What contracts see of the board.
  abbrev pub board_view_of : BoardInside O C R → BoardView
  board_view_of b = record { id = b.table.shared.table_id; sessions = b.sessions; bound = bound_of bound b.table.shared.key.object.items }

module _ {O C R : Type 0} where
  -- The table has a record and a slot for the lock and for each session, of which there are 1 to MAX_SESSIONS.
  pub record IsSized (b : BoardInside O C R) : Type 0 where
    pub board : IsBoard b.table.shared.table_id
    pub slots : b.table.shared.table_id.slots ≡ b.sessions + 1
    pub some : 0 < b.sessions
    pub few : b.sessions ≤ MAX_SESSIONS

  -- What contracts see of the ticket.
  abbrev pub ticket_view_of : TicketInside O C R → TicketView C R
  ticket_view_of t = record {
    board = t.seat.table_id;
    number = t.number;
    front = t.seat.me.0.front;
    pending = t.seat.me.0.own.pending;
    collected = t.seat.me.0.own.collected;
    heard = t.seat.me.0.heard;
    retired = t.seat.me.0.own.retired;
    has_object = t.has_object;
    opened = t.seat.me.0.combiner.opened;
    listed = t.is_listed;
    route = t.seat.me.0.listing.route;
    tries = t.seat.me.0.listing.tries;
    put_backs = t.seat.me.0.combiner.put_backs;
    entered = t.seat.me.0.combiner.entered;
    pieces = t.seat.me.0.pieces.own;
    taken = t.seat.me.0.pieces.all;
  }

  -- The ticket's number is one of the board's sessions, and its seat is in the state that its fields record.
  pub record IsTicketState (t : TicketInside O C R) : Type 0 where
    pub small : t.number < t.seat.table_id.slots
    pub settled : IsBetweenCalls t.seat.me t.number t.seen t.has_object t.is_pending t.is_listed t.is_retired

  -- What contracts see of a knowledge.
  abbrev pub knowledge_view_of : KnowledgeInside O C R → KnowledgeView C R
  knowledge_view_of k = record { board = k.seat.table_id; front = k.seat.me.0.front; heard = k.seat.me.0.heard }

  -- The knowledge's seat is a copy of a session's seat and carries no slot; `seen` counts the entries that it knows.
  pub record IsCopy (k : KnowledgeInside O C R) : Type 0 where
    pub copied : k.seat.me ≡ (copy_of k.seat.me.0, [])
    pub seen_is : length k.seat.me.0.front ≡ k.seen
