-- The lists of C, as the walks of lists take them.
use Rattle.std.proofs.Common.{refl}
use Rattle.std.specs.Borrow.{u32 as u32_row}
use Rattle.library_books.specs.contracts.claims.ClaimNumbers.{the_row as claim_row}
use Rattle.library_books.specs.contracts.pointers.lists.ClaimList.{the_type as claim_list_type}
use Rattle.library_books.specs.contracts.deadlock_numbers.DeadlockNumbers.{the_row as deadlock_row}
use Rattle.library_books.specs.contracts.pointers.lists.DeadlockList.{the_type as deadlock_list_type}
use Rattle.library_books.specs.contracts.numbers.EntryNumbers.{the_row as entry_row}
use Rattle.library_books.specs.contracts.pointers.lists.EntryList.{the_type as entry_list_type}
use Rattle.library_books.specs.contracts.numbers.HolderNumbers.{the_row as holder_row}
use Rattle.library_books.specs.contracts.pointers.lists.HolderList.{the_type as holder_list_type}
use Rattle.library_books.specs.contracts.deadlock_numbers.MemberNumbers.{the_row as member_row}
use Rattle.library_books.specs.contracts.pointers.lists.MemberList.{the_type as member_list_type}
use Rattle.library_books.specs.contracts.pointers.lists.SessionList.{the_type as session_list_type}
use Rattle.library_books.proofs.ItemLists.{ListOf, list_of}

abbrev pub claim_list : ListOf claim_row
claim_list = list_of claim_row claim_list_type (λ p. p.at) (λ p. p.testable) (λ p. p.behind) (λ p. p.room) (λ p xs. record p { behind = xs }) (λ p xs. refl) (λ p xs. refl) (λ p xs. refl)

abbrev pub deadlock_list : ListOf deadlock_row
deadlock_list = list_of deadlock_row deadlock_list_type (λ p. p.at) (λ p. p.testable) (λ p. p.behind) (λ p. p.room) (λ p xs. record p { behind = xs }) (λ p xs. refl) (λ p xs. refl) (λ p xs. refl)

abbrev pub entry_list : ListOf entry_row
entry_list = list_of entry_row entry_list_type (λ p. p.at) (λ p. p.testable) (λ p. p.behind) (λ p. p.room) (λ p xs. record p { behind = xs }) (λ p xs. refl) (λ p xs. refl) (λ p xs. refl)

abbrev pub holder_list : ListOf holder_row
holder_list = list_of holder_row holder_list_type (λ p. p.at) (λ p. p.testable) (λ p. p.behind) (λ p. p.room) (λ p xs. record p { behind = xs }) (λ p xs. refl) (λ p xs. refl) (λ p xs. refl)

abbrev pub member_list : ListOf member_row
member_list = list_of member_row member_list_type (λ p. p.at) (λ p. p.testable) (λ p. p.behind) (λ p. p.room) (λ p xs. record p { behind = xs }) (λ p xs. refl) (λ p xs. refl) (λ p xs. refl)

abbrev pub session_list : ListOf u32_row
session_list = list_of u32_row session_list_type (λ p. p.at) (λ p. p.testable) (λ p. p.behind) (λ p. p.room) (λ p xs. record p { behind = xs }) (λ p xs. refl) (λ p xs. refl) (λ p xs. refl)
