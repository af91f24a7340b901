-- The lock table that a handle of C has: a book of its own, or that of an office, at which a session looks.
use Rattle.std.specs.Prelude.{◌≡◌, ◌≢◌, ◌⊎◌, ℕ, Some, None, Option}
use Rattle.lock_desk.specs.BookView.{BookView}
use Rattle.library_sessions.specs.declared.book_handle.BookHandle.{BookHandle}
use Rattle.library_sessions.specs.declared.book_handle.Table.{Table}
use Rattle.library_sessions.specs.declared.book_handle.Table.TheVariants.{Own, Look}
use Rattle.library_sessions.specs.declared.session_share.SessionShare.{SessionShare}
use Rattle.library_sessions.specs.Looks.{book_in}

-- the number by which a handle says what it has
abbrev pub number_of : Table → ℕ
number_of (Own book) = 1
number_of (Look share) = 2

-- the table's own book
abbrev pub own_of : Table → Option BookView
own_of (Own book) = Some book.value
own_of (Look share) = None

-- the share whose session looks
abbrev pub share_of : Table → Option SessionShare
share_of (Own book) = None
share_of (Look share) = Some share.value

-- the book on which questions are answered: the handle's own, or the one that its share's session looks at
abbrev pub book_of_share : Option SessionShare → Option BookView
book_of_share None = None
book_of_share (Some share) = book_in share.looking

abbrev pub book_of : Option BookView → Option SessionShare → Option BookView
book_of (Some book) share = Some book
book_of None share = book_of_share share

abbrev pub shown : BookHandle → Option BookView
shown handle = book_of handle.held.book handle.lent.share

-- the handle is open: it has a book of its own, or is a look
abbrev pub IsOpen : BookHandle → Type 0
IsOpen handle = (handle.is_open ≡ 1) ⊎ (handle.is_open ≡ 2)

abbrev pub IsClosed : BookHandle → Type 0
IsClosed handle = (handle.is_open ≢ 1) × (handle.is_open ≢ 2)

abbrev pub shows : Table → Option BookView
shows table = book_of (own_of table) (share_of table)

-- the handle has the table
pub record IsIn (table : Table) (handle : BookHandle) : Type 0 where
  pub number : handle.is_open ≡ number_of table
  pub own : handle.held.book ≡ own_of table
  pub share : handle.lent.share ≡ share_of table
  pub book : shown handle ≡ shows table

-- the handle has what it had
abbrev pub IsSameBook : BookHandle → BookHandle → Type 0
IsSameBook before after = (after.is_open ≡ before.is_open) × (after.held.book ≡ before.held.book) × (after.lent.share ≡ before.lent.share)
