-- The list of handles, as the walks of lists take it.
use Rattle.std.proofs.Common.{refl}
use Rattle.library_sessions.specs.contracts.session_handle.SessionHandle.{the_row as session_handle_row}
use Rattle.library_sessions.specs.contracts.pointers.HandleList.{the_type as handle_list_type}
use Rattle.library_books.proofs.ItemLists.{ListOf, list_of}

abbrev pub handle_list : ListOf session_handle_row
handle_list = list_of session_handle_row handle_list_type (λ p. p.at) (λ p. p.testable) (λ p. p.behind) (λ p. p.room) (λ p xs. record p { behind = xs }) (λ p xs. refl) (λ p xs. refl) (λ p xs. refl)
