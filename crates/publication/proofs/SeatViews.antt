-- What the rule says of a seat with a given view.
use Rattle.std.proofs.Common.{◌≡◌, ◌≢◌, ℕ, ◌≤◌, true, Some, get_or, subst}
use mathlib.Core.Option as opt
use mathlib.Core.List.{IsPrefix}
use lib.ListN.{get_elem?}
use Rattle.publication.specs.Rule.{blank, BoardState, word, seat, own_at, announced, HasObject, IsOpened, IsSession, AreTrue, HasPieces, IsOrderly}
use Rattle.publication.specs.declared.view.View.{View}
use Rattle.publication.proofs.Lists.{at_there}
use Rattle.sequential.specs.declared.object.Sequential.{Ghosts}

module _ {O C R : Type 0} {obj : Ghosts O C R} where
  module _ (s : BoardState O C R) (o : IsOrderly obj s) (k : ℕ) (v : View C R) (me : get_elem? s.views k ≡ opt.some v) where
    -- Seat k has view v.
    pub seat_of : seat s k ≡ v
    seat_of = (at_there s.views k v blank me).0

    -- A view that names a session is that session's.
    pub session_of : v.number ≢ 0 → IsSession o.slots o.owns k v
    session_of = subst (λ (u : View C R). u.number ≢ 0 → IsSession o.slots o.owns k u) seat_of (o.sessions k)

    -- The known front begins the history.
    pub front_of : IsPrefix v.front o.history
    front_of = subst (λ (u : View C R). IsPrefix u.front o.history) seat_of (o.fronts k)

    -- No more calls were heard of than announced.
    pub heard_few : (j : ℕ) → get_or v.heard j 0 ≤ announced (own_at o.owns j)
    heard_few = subst (λ (u : View C R). (j : ℕ) → get_or u.heard j 0 ≤ announced (own_at o.owns j)) seat_of (o.heard k)

    -- What the seat knows of others is true.
    pub others_of : AreTrue o.history s o.slots o.owns v.others
    others_of = subst (λ (u : View C R). AreTrue o.history s o.slots o.owns u.others) seat_of (o.others k)

    -- What it knows of the pieces that were taken is true.
    pub pieces_of_seat : HasPieces o.pieces.all v
    pieces_of_seat = subst (HasPieces o.pieces.all) seat_of (o.pieces.seats k)

    -- The combiner's number is in the lock word.
    pub object_of : v.combiner.has_object ≡ true → HasObject o.history (word s 0) k v
    object_of = subst (λ (u : View C R). u.combiner.has_object ≡ true → HasObject o.history (word s 0) k u) seat_of (o.combiners k)

    -- The combiner knows the whole history.
    pub whole_of : v.combiner.has_object ≡ true → v.front ≡ o.history
    whole_of has = (object_of has).whole

    -- A record that the combiner has opened is BUSY.
    pub opened_of : (j : ℕ) (call : C) → get_elem? v.combiner.opened j ≡ opt.some (Some call) → IsOpened s o.owns v.combiner j call
    opened_of = subst (λ (u : View C R). (j : ℕ) (call : C) → get_elem? u.combiner.opened j ≡ opt.some (Some call) → IsOpened s o.owns u.combiner j call) seat_of (o.opens k)
