-- The share that a handle owns.
use Rattle.std.specs.Prelude.{Option}
use Rattle.std.specs.Coded.{Coded, coded_option}
use base.Fml.{Fml}
use denote.RawPtr.{Ptr}
use Rattle.std.specs.declared.alloc.Global.{Global}
use Rattle.std.specs.contracts.impls.GlobalAllocator.TheImpl.{ghosts}
use Rattle.library_books.specs.inner.Held.{box_at}
use Rattle.library_sessions.specs.declared.session_share.SessionShare.{SessionShare}
use Rattle.library_sessions.specs.contracts.session_share.SessionShare as shares

-- the share at a handle's pointer, if there is one
abbrev pub share_at : Global → Ptr → Option SessionShare → Fml
share_at alloc p share = box_at (ghosts.dealloc_token alloc) shares.the_row p share

-- how an optional share is stored in ghost fields
abbrev pub share_coded : Coded (Option SessionShare)
share_coded = coded_option shares.the_row.coded
