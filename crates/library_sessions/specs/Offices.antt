-- The shares of an office, as handles hold them.
use Rattle.std.specs.Prelude.{◌≡◌, ℕ, [], ◌∷◌, ◌++◌, List, Some, All, map, false, is_some}
use Rattle.std.specs.Global.{Box}
use Rattle.publication.specs.Views.{BoardView}
use Rattle.combining.specs.declared.bounds.PassBound.{PassBound}
use Rattle.lock_desk.specs.BookView.{BookView}
use Rattle.lock_office.specs.ProgramBoards.{ProgramsView, TicketView, flat_history, new_tickets}
use Rattle.lock_office.specs.Closed as any
use Rattle.library_sessions.specs.declared.session_share.SessionShare.{SessionShare}
use Rattle.library_sessions.specs.declared.session_handle.SessionHandle.{SessionHandle}

-- the sessions of a share: those handed in to it, then its own
abbrev pub all_of : SessionShare → List TicketView
all_of share = share.handed.items ++ share.session ∷ []

-- a share of this office with this mark, this waker and this bound of passes, to which no session was handed in, which has told nobody and doesn't look
pub record IsOfOffice (office : BoardView) (mark waker : ℕ) (bound : PassBound) (share : SessionShare) : Type 0 where
  pub office_is : share.office.value ≡ office
  pub mark_is : share.mark ≡ mark
  pub waker_is : share.waker ≡ waker
  pub bound_is : share.bound ≡ bound
  pub told : share.told.listener.list ≡ []
  pub free : is_some share.looking ≡ false
  pub handed : share.handed.items ≡ []

-- the handles hold shares with the new sessions of this office, in the order of their numbers
abbrev pub AreSessionsOf : BoardView → ℕ → ℕ → PassBound → List SessionHandle → Type 0
AreSessionsOf office mark waker bound handles = (shares : List (Box SessionShare))
    × (map (λ handle. handle.held.share) handles ≡ map (λ share. Some share.value) shares)
    × (map (λ share. share.value.session) shares ≡ new_tickets office.id office.sessions office.sessions)
    × All (λ share. IsOfOffice office mark waker bound share.value) shares

-- the book that served the calls of the programs of an office that was closed with these sessions: its history is that of the programs,
-- laid end to end
pub record IsClosed (office : BoardView) (sessions : List TicketView) (book : BookView) : Type 0 where
  pub programs : ProgramsView
  pub closed : any.IsClosed office sessions programs
  pub book_is : book ≡ programs.object
  pub history : book.history ≡ flat_history programs.history

-- the open handle holds a share before and after, of which this is true
abbrev pub HasDone : SessionHandle → SessionHandle → (SessionShare → SessionShare → Type 0) → Type 0
HasDone before after outcome = (a b : SessionShare) × (before.held.share ≡ Some a) × (after.held.share ≡ Some b) × outcome a b
