-- `items` of a list that may be null. Assumes `Logic`.
use Rattle.library_books.proofs.ListKinds.{member_list}
use Rattle.library_books.proofs.ItemLists.{items_lent}
use Rattle.library_books.proofs.pointers.lists.MemberList.items.Code as code
use Rattle.library_books.proofs.pointers.lists.MemberList.items.Statement.{statement}

pub items_spec : {M : Type 1} → statement M
items_spec 𝓤 𝓛 𝓜 𝓡 wired = items_lent member_list 𝓤 𝓛 𝓜 𝓡 _ (λ p z. z) (code.unfolded 𝓤 𝓛.H 𝓜 𝓡 wired)
