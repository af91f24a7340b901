-- `get` of a pointer that may be null. Assumes `Logic`.
use Rattle.std.proofs.Common.{refl}
use Rattle.std.specs.Borrow.{usize as row}
use Rattle.library_books.specs.contracts.pointers.integers.SizePointer.{the_type}
use Rattle.library_books.proofs.Lending.{gets}
use Rattle.library_books.proofs.pointers.integers.SizePointer.get.Code as code
use Rattle.library_books.proofs.pointers.integers.SizePointer.get.Statement.{statement}

pub get_spec : {M : Type 1} → statement M
get_spec 𝓤 𝓛 𝓜 𝓡 wired = gets row the_type (λ p. p.at) (λ p. p.testable) (λ p. p.behind) (λ p x. record p { behind = x }) (λ p x. refl) (λ p x. refl) 𝓤 𝓛 𝓜 𝓡 (code.unfolded 𝓤 𝓛.H 𝓜 𝓡 wired)
