-- One turn of a call, as the worker's session has it.
use Rattle.std.proofs.Common.{ap, sym, refl, subst, ◌≡◌, ◌≢◌, ◌∙◌, ◌++◌, ◌∷◌, [], ℕ, List, length, Option, Some, None, arith}
use Rattle.std.specs.Option.{unwrap_or}
use Rattle.std.proofs.lemmas.List.{map-append}
use Rattle.programs.specs.Flat.{answers_from}
use Rattle.lock_rules.specs.declared.calls.Call.{Call}
use Rattle.lock_rules.specs.declared.calls.Reply.{Reply}
use Rattle.lock_rules.specs.Entries.{Answered}
use Rattle.lock_programs.specs.declared.program.Program.{Program}
use Rattle.lock_programs.specs.declared.answer.ProgramAnswer.{ProgramAnswer}
use Rattle.lock_programs.specs.Calls.{calls_of}
use Rattle.lock_programs.specs.Answers.{program_form, replies_of}
use Rattle.publication.specs.Views.{answer}
use Rattle.combining.specs.Calls.{IsWaitingOn, IsAnsweredAt, IsCalling}
use Rattle.lock_office.specs.ProgramBoards.{TicketView, Pending, AnsweredProgram, program_object, calls_answered as answers_of_calls}
use Rattle.lock_office.specs.ProgramTurns.{IsAnswered, IsPendingSingle}
use Rattle.lock_office.specs.SingleCalls.{MakesOneCall}
use Rattle.lock_office.proofs.Flats.{flat_calls-append}
use Rattle.lock_office.proofs.OneReplies.{one-reply}
use Rattle.lock_office.proofs.Sessions.{answered-at}
use Rattle.run_commands.specs.Calls.{calls_answered, calls_collected}
use Rattle.run_commands.specs.Workers.{Calls, calls_known, first_call}

-- the calls of a session that has this call pending
abbrev pending_with : Calls → Call → Calls
pending_with known call = record known { pending = Some call }

-- the calls of a session that collected the answer to this call
abbrev answered_with : Calls → Call → Calls
answered_with known call = record known { pending = None; collected = known.collected ++ call ∷ [] }

-- the calls of one more program, which makes one call
collected-one : (answers : List AnsweredProgram) (at : ℕ) (p : Program) (a : ProgramAnswer) (call : Call) (reply : Reply) → MakesOneCall p call → replies_of p a ≡ reply ∷ []
    → calls_collected (answers ++ answer at p a ∷ []) ≡ calls_collected answers ++ call ∷ []
collected-one answers at p a call reply one replied =
    ap calls_answered (flat_calls-append program_form answers (answer at p a ∷ []))
    ∙ map-append (λ (x : Answered). x.call) (answers_of_calls answers) (answers_of_calls (answer at p a ∷ []))
    ∙ ap (λ (cs : List Call). calls_collected answers ++ cs)
    (subst (λ (cs : List Call). calls_answered (answers_from a.first cs (replies_of p a) ++ []) ≡ call ∷ []) (sym one)
    (subst (λ (rs : List Reply). calls_answered (answers_from a.first (call ∷ []) rs ++ []) ≡ call ∷ []) (sym replied) refl))

-- an answered call is the last of the session's collected ones
known-answered : (t u : TicketView) (p : Program) (a : ProgramAnswer) (call : Call) (floor at : ℕ) → MakesOneCall p call
    → IsAnsweredAt program_object t u p floor at a → calls_known u ≡ answered_with (calls_known t) call
known-answered t u p a call floor at one is =
    let r = one-reply p a call one (answered-at u.front at t.number p a is.legal is.stands) in
    ap calls_known is.session
    ∙ ap (λ (calls : List Call). record (calls_known t) { pending = None; collected = calls }) (collected-one t.collected at p a call r.0 one r.1)

-- a session that goes on waiting has the same calls
pub known-waiting : (t u : TicketView) → IsWaitingOn t u → calls_known u ≡ calls_known t
known-waiting t u is = ap calls_known is.session

-- a session has the call pending that it has pending
known-pending : (t : TicketView) (call : Call) (pending : Pending) → t.pending ≡ Some pending
    → calls_known t ≡ pending_with (calls_known t) (unwrap_or (calls_known t).pending call)
known-pending t call pending is =
    let has : (calls_known t).pending ≡ Some (first_call (calls_of pending.call)) = ap (λ (q : Option Pending). (calls_known (record t { pending = q })).pending) is in
    ap (λ (c : Option Call). record (calls_known t) { pending = c }) (has ∙ ap (λ (c : Option Call). Some (unwrap_or c call)) (sym has))

-- a list with one element is its first
only : (cs : List Call) → length cs ≡ 1 → cs ≡ first_call cs ∷ []
only [] is = absurd (omega (arith, is))
only (c ∷ []) is = refl
only (c ∷ d ∷ cs) is = absurd (omega (arith, is))

-- a session that has nothing pending makes the call that it is given
none-asked : (t : TicketView) (call : Call) → t.pending ≡ None → call ≡ unwrap_or (calls_known t).pending call
none-asked t call none = ap (λ (q : Option Pending). unwrap_or (calls_known (record t { pending = q })).pending call) (sym none)

-- After a turn of an idle session, with a program of this one call.

pub begun-answered : (t u : TicketView) (p : Program) (a : ProgramAnswer) (call : Call) (floor at : ℕ) → t.pending ≡ None → MakesOneCall p call → IsAnsweredAt program_object t u p floor at a
    → calls_known u ≡ answered_with (calls_known t) (unwrap_or (calls_known t).pending call)
begun-answered t u p a call floor at none one is = known-answered t u p a call floor at one is ∙ ap (λ (c : Call). answered_with (calls_known t) c) (none-asked t call none)

pub begun-pending : (t u : TicketView) (p : Program) (call : Call) → t.pending ≡ None → MakesOneCall p call → IsCalling t u p
    → calls_known u ≡ pending_with (calls_known t) (unwrap_or (calls_known t).pending call)
begun-pending t u p call none one is = ap calls_known is.session ∙ ap (λ (cs : List Call). pending_with (calls_known t) (first_call cs)) one
    ∙ ap (λ (c : Call). pending_with (calls_known t) c) (none-asked t call none)

-- After a turn of a session that has a call pending, whatever call it is given.

pub look-answered : (t u : TicketView) (call : Call) (at : ℕ) (a : ProgramAnswer) → IsPendingSingle t → IsAnswered t u at a
    → calls_known u ≡ answered_with (calls_known t) (unwrap_or (calls_known t).pending call)
look-answered t u call at a single is =
    let p = is.0 in
    let first = first_call (calls_of p) in
    known-answered t u p a first is.1 at (only (calls_of p) (single p is.1 is.2)) is.3
    ∙ ap (λ (q : Option Pending). answered_with (calls_known t) (unwrap_or (calls_known (record t { pending = q })).pending call)) (sym is.2)

pub look-pending : (t u : TicketView) (call : Call) → t.pending ≢ None → IsWaitingOn t u → calls_known u ≡ pending_with (calls_known t) (unwrap_or (calls_known t).pending call)
look-pending t u call some is = go t.pending refl
  where
    go : (q : Option Pending) → t.pending ≡ q → calls_known u ≡ pending_with (calls_known t) (unwrap_or (calls_known t).pending call)
    go None none = absurd (some none)
    go (Some q) has = known-waiting t u is ∙ known-pending t call q has

-- What is pending after a turn makes one call, as before it.

pub single-idle : (u : TicketView) → u.pending ≡ None → IsPendingSingle u
single-idle u none p floor is = absurd (let e = sym none ∙ is in cc)

pub single-same : (t u : TicketView) → u.pending ≡ t.pending → IsPendingSingle t → IsPendingSingle u
single-same t u same single p floor is = single p floor (sym same ∙ is)

abbrev asked-or : Program → Option Pending → Program
asked-or p None = p
asked-or p (Some q) = q.call

pub single-calling : (t u : TicketView) (p : Program) (call : Call) → MakesOneCall p call → IsCalling t u p → IsPendingSingle u
single-calling t u p call one is q floor pending =
    let here = ap (λ (x : TicketView). x.pending) is.session in
    let same : p ≡ q = ap (asked-or p) (sym here ∙ pending) in
    subst (λ (r : Program). length (calls_of r) ≡ 1) same (ap (λ (cs : List Call). length cs) one)

pub single-on : (t u : TicketView) → IsPendingSingle t → IsWaitingOn t u → IsPendingSingle u
single-on t u single is = single-same t u (ap (λ (x : TicketView). x.pending) is.session) single
