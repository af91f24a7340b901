-- A session that looks at the lock table of its open office, as the exports state it.
use Rattle.std.specs.Prelude.{◌≡◌, ℕ, ◌+◌, true, false, is_some, Some, None, Option, List, [], ◌∷◌}
use Rattle.std.specs.Coded.{×_prop}
use Rattle.std.proofs.Props.{props}
use Rattle.std.specs.Global.{Box}
use Rattle.publication.specs.declared.piece.Piece.{Piece}
use Rattle.publication.specs.Pieces.{AreInOrder, AreInARow}
use Rattle.publication.specs.Boards.{HasCallsOf}
use Rattle.lock_desk.specs.BookView.{BookView}
use Rattle.lock_office.specs.ProgramBoards.{Load, TicketView, flat_history}
use Rattle.lock_office.specs.Sessions.{IsLooking, HasBegunToLook, HasLooked}
use Rattle.library_sessions.specs.declared.session_share.SessionShare.{SessionShare}
use Rattle.library_sessions.specs.Sessions.{IsSameOffice}

-- the book of a lock table that a session has
abbrev pub book_in : Option (Box Load) → Option BookView
book_in None = None
book_in (Some load) = Some load.value.object.object

-- the share has the lock table of its office, at which its session looks. The book's history is the one that the session knows
pub record IsLook (share : SessionShare) : Type 0 where
  pub loaded : is_some share.looking ≡ true
  pub looks : (load : Box Load) → share.looking ≡ Some load → IsLooking share.office.value share.session load.value
  pub history : (load : Box Load) → share.looking ≡ Some load → load.value.object.object.history ≡ flat_history share.session.front
  pub no_walk : share.session.route ≡ []

-- it has at most one proof, which a fact that a struct keeps must have
pub AreInOrder-prop : (from : ℕ) (pieces : List Piece) (upto : ℕ) → IsProp (AreInOrder from pieces upto)
AreInOrder-prop from [] upto = Prim.hlevel props
AreInOrder-prop from (p ∷ ps) upto = ×_prop (Prim.hlevel props) (AreInOrder-prop (p.first + p.count) ps upto)

pub AreInARow-prop : (from : ℕ) (pieces : List Piece) (upto : ℕ) → IsProp (AreInARow from pieces upto)
AreInARow-prop from [] upto = Prim.hlevel props
AreInARow-prop from (p ∷ ps) upto = ×_prop (Prim.hlevel props) (AreInARow-prop (p.first + p.count) ps upto)

pub ruleset look_props = (AreInOrder-prop, AreInARow-prop, props)

-- the session has begun to look, and the share is otherwise unchanged
pub record HasBegunLook (before after : SessionShare) : Type 0 where
  pub look : IsLook after
  pub session : HasBegunToLook before.session after.session
  pub calls : HasCallsOf after.session.front after.session
  pub told : after.told ≡ before.told
  pub office : IsSameOffice before after

-- the session has given the lock table back: it knows the history up to the look, and is otherwise as it was when it began it
pub record HasEndedLook (before after : SessionShare) : Type 0 where
  pub looking : is_some after.looking ≡ false
  pub session : (first : TicketView) → HasBegunToLook first before.session → HasLooked first after.session
  pub calls : HasCallsOf after.session.front after.session
  pub told : after.told ≡ before.told
  pub office : IsSameOffice before after
