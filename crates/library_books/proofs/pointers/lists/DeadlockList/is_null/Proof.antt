-- `is_null` of a list that may be null. Assumes `Logic`.
use Rattle.library_books.proofs.ListKinds.{deadlock_list}
use Rattle.library_books.proofs.ItemLists.{tells_null}
use Rattle.library_books.proofs.pointers.lists.DeadlockList.is_null.Code as code
use Rattle.library_books.proofs.pointers.lists.DeadlockList.is_null.Statement.{statement}

pub is_null_spec : {M : Type 1} → statement M
is_null_spec 𝓤 𝓛 𝓜 𝓡 wired = tells_null deadlock_list 𝓤 𝓛 𝓜 𝓡 (code.unfolded 𝓤 𝓛.H 𝓜 𝓡 wired)
