use denote.Struct.Struct.{exits_of}
use denote.Struct.Owning.{shape, fields, to}
use denote.Param.Send.{IsSend, AllSend, owning_send, struct_send, sendable}
use Rattle.std_alloc.proofs.SendSync.{quiet}
use Rattle.std_heap.proofs.Global.TheSendSync as handle
use Rattle.lock_desk.specs.contracts.book.Book as inner
use Rattle.lock_desk.proofs.book.Book.TheSendSync.{the_send as sent}
use Rattle.library_books.proofs.HeldValues.{box_keyless}
use Rattle.library_books.specs.contracts.held_book.HeldBook.{the_row, the_type}

pub send : IsSend the_row
send =
    let all : AllSend (fields the_type) = (search sendable, (handle.the_field_send, tt)) in
    owning_send the_type all (λ d. box_keyless inner.the_row sent d.alloc d.at d.book)
    (λ k. quiet (to the_type) (exits_of k (fields the_type)) ((struct_send (shape the_type) all).leaving k))
