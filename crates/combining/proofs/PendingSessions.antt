-- An office's sessions with no call pending are settled as tickets of its board.
use Rattle.std.proofs.Common.{List}
use Rattle.std.specs.Prelude.{All}
use Rattle.publication.specs.Views.{BoardView, TicketView}
use Rattle.publication.specs.Boards.{IsSettled}
use Rattle.combining.specs.Sessions.{IsSessionOf, HasNothingPending}

module _ {C R : Type 0} where
  -- A session of an office with no call pending is settled.
  pub all_settled : (b : BoardView) (ts : List (TicketView C R)) → All (IsSessionOf b) ts → All HasNothingPending ts → All IsSettled ts
  all_settled b ts ours none k d few = record { none = none k d few; no_object = (ours k d few).no_object }

  -- Settled tickets have no call pending.
  pub none_pending : (ts : List (TicketView C R)) → All IsSettled ts → All HasNothingPending ts
  none_pending ts settled k d few = (settled k d few).none
