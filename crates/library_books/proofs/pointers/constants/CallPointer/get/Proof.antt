-- `get` of a pointer that may be null, to what is only read. Assumes `Logic`.
use Rattle.library_books.specs.contracts.numbers.CallNumbers.{the_row as row}
use Rattle.library_books.proofs.numbers.CallNumbers.TheLaws.{the_row_copy}
use Rattle.library_books.specs.contracts.pointers.constants.CallPointer.{the_type}
use Rattle.library_books.proofs.Copying.{copies_out}
use Rattle.library_books.proofs.pointers.constants.CallPointer.get.Code as code
use Rattle.library_books.proofs.pointers.constants.CallPointer.get.Statement.{statement}

pub get_spec : {M : Type 1} → statement M
get_spec 𝓤 𝓛 𝓜 𝓡 wired = copies_out row the_row_copy the_type (λ p. p.at) (λ p. p.testable) (λ p. p.behind) 𝓤 𝓛 𝓜 𝓡 (code.unfolded 𝓤 𝓛.H 𝓜 𝓡 wired)
