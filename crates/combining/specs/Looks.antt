-- A session that looks at the object of an open office.
use Rattle.std.specs.Prelude.{◌≡◌, ◌≢◌, ◌+◌, true, false, None, []}
use mathlib.Core.List.{IsPrefix}
use Rattle.sequential.specs.declared.object.Sequential.{Ghosts}
use Rattle.publication.specs.Views.{BoardView, TicketView}
use Rattle.publication.specs.Rule.{IsHome}
use Rattle.publication.specs.Boards.{IsOf, OpensNone}
use Rattle.publication.specs.declared.slot.Load.{Load}

module _ {O C R : Type 0} (obj : Ghosts O C R) where
  -- The session has the object of the office, as it took it, and knows its whole history.
  pub record IsLooking (office : BoardView) (session : TicketView C R) (load : Load O C R) : Type 0 where
    pub ours : IsOf office session
    pub has_object : session.has_object ≡ true
    pub none : OpensNone session
    pub live : session.pending ≢ None → session.retired ≡ false
    pub home : IsHome obj session.front (office.sessions + 1) load
    pub bound_is : obj.bound load.object ≡ office.bound
    pub taken : session.taken ≡ load.pieces.items

  -- The session has taken the object, and is otherwise unchanged.
  pub record HasBegunToLook (before after : TicketView C R) : Type 0 where
    pub session : after ≡ record before { front = after.front; has_object = true; taken = after.taken }
    pub lacked : before.has_object ≡ false
    pub no_walk : before.route ≡ []
    pub untaken : before.taken ≡ []
    pub longer : IsPrefix before.front after.front
    pub legal : obj.is_legal after.front

  -- The session looked at the object. It knows the whole history up to there, and is otherwise unchanged.
  pub record HasLooked (before after : TicketView C R) : Type 0 where
    pub session : after ≡ record before { front = after.front }
    pub longer : IsPrefix before.front after.front
    pub legal : obj.is_legal after.front
