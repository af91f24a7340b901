use denote.Struct.Struct.{exits_of}
use denote.Struct.Owning.{shape, fields, to}
use denote.Param.Send.{IsSend, AllSend, owning_send, struct_send, sendable}
use Rattle.std_alloc.proofs.SendSync.{quiet}
use Rattle.std_heap.proofs.Global.TheSendSync as handle
use Rattle.library_sessions.specs.contracts.session_share.SessionShare as inner
use Rattle.library_sessions.proofs.session_share.SessionShare.TheSendSync.{the_send as sent}
use Rattle.library_books.proofs.HeldValues.{box_keyless}
use Rattle.library_sessions.specs.contracts.held_share.HeldShare.{the_row, the_type}

pub send : IsSend the_row
send =
    let all : AllSend (fields the_type) = (search sendable, (handle.the_field_send, tt)) in
    owning_send the_type all (λ d. box_keyless inner.the_row sent d.alloc d.at d.share)
    (λ k. quiet (to the_type) (exits_of k (fields the_type)) ((struct_send (shape the_type) all).leaving k))
