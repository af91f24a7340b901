-- The memory that handles own.
use Rattle.std.specs.Prelude.{Option, Some, None}
use Rattle.std.specs.Coded.{Coded, coded_option}
use mir.Syntax.{Ty}
use base.Fml.{Fml, ftrue}
use denote.RattleType.{RattleType}
use denote.RawPtr.{Ptr}
use Rattle.std.specs.Box.Ownership.{box_owns}
use Rattle.std.specs.declared.alloc.Global.{Global}
use Rattle.std.specs.contracts.impls.GlobalAllocator.TheImpl.{ghosts}
use Rattle.lock_desk.specs.BookView.{BookView}
use Rattle.lock_desk.specs.contracts.book.Book as books

-- the value at the pointer and the right to free its block, or nothing
abbrev pub box_at : (Ty → Ptr → Fml) → (R : RattleType) → Ptr → Option R.Denot → Fml
box_at token R p None = ftrue
box_at token R p (Some x) = box_owns token R p x

-- the book at a handle's pointer, if there is one
abbrev pub book_at : Global → Ptr → Option BookView → Fml
book_at alloc p book = box_at (ghosts.dealloc_token alloc) books.the_row p book

-- how an optional book is stored in ghost fields
abbrev pub book_coded : Coded (Option BookView)
book_coded = coded_option books.the_row.coded
