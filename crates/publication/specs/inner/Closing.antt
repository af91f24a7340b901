-- What the closing seat keeps of each ticket that is joined into it. Only private contracts cite these definitions;
-- the public contracts say the same facts of the tickets.
use Rattle.std.specs.Prelude.{◌≡◌, ℕ, ◌<◌, ◌≤◌, ◌&&◌, Bool, not, is_some, List, All}
use mathlib.Core.Option as opt
use mathlib.Core.List.{IsPrefix}
use lib.ListN.{get_elem?}
use Rattle.sequential.specs.declared.entry.Entry.{Entry}
use Rattle.sequential.specs.Histories.{calls_of}
use Rattle.sequential.specs.declared.trimmed_list.TheConstants.{NO_BOUND}
use Rattle.publication.specs.declared.piece.Piece.{Piece}
use Rattle.publication.specs.Pieces.{pieces_of, AreInOrder, AreInARow}
use Rattle.publication.specs.Views.{TicketView, Handed}
use Rattle.sequential.specs.declared.object.Sequential.{Ghosts}

module _ {C R : Type 0} where
  -- Whether the session has no call pending and isn't the combiner.
  abbrev pub is_settled : TicketView C R → Bool
  is_settled ticket = not (is_some ticket.pending) && not ticket.has_object

  -- What the closing seat keeps of a ticket.
  abbrev pub handed_by : TicketView C R → Handed C R
  handed_by ticket = record { number = ticket.number; collected = ticket.collected; front = ticket.front; pieces = ticket.pieces; entered = ticket.entered }

  -- Each session, that is each number above 0 and below `slots`, was handed in.
  abbrev pub WereHanded : ℕ → List (Handed C R) → Type 0
  WereHanded slots handed = (i : ℕ) → 0 < i → i < slots → (p : ℕ) × (x : Handed C R) × (get_elem? handed p ≡ opt.some x) × (x.number ≡ i)

  -- The history agrees with a session that was handed in: the session's calls in it are those that it collected, and
  -- the front that it knew begins it.
  pub record Ends (history : List (Entry C R)) (x : Handed C R) : Type 0 where
    pub calls : calls_of x.number history ≡ x.collected
    pub begins : IsPrefix x.front history

  -- The history agrees with each session in the list.
  abbrev pub AreEnded : List (Entry C R) → List (Handed C R) → Type 0
  AreEnded history handed = (p : ℕ) (x : Handed C R) → get_elem? handed p ≡ opt.some x → Ends history x

module _ {O C R : Type 0} (obj : Ghosts O C R) where
  -- The pieces of the history that the sessions in the list took before the object came out of the board.
  pub record TookHanded (object : O) (handed : List (Handed C R)) : Type 0 where
    pub all : List Piece
    pub within : All (λ p. (1 ≤ p.session) × (p.session ≤ obj.sessions object)) all
    pub each : (p : ℕ) (x : Handed C R) → get_elem? handed p ≡ opt.some x → x.pieces ≡ pieces_of x.number all
    pub in_order : AreInOrder 0 all (obj.cut object)
    pub in_a_row : (obj.bound object).lines ≡ NO_BOUND → AreInARow 0 all (obj.cut object)
