use Rattle.std.proofs.Common.{◌≡◌, ◌+◌, List, [], ◌∷◌, ◌++◌, take, sym, ap, ◌∙◌}
use Rattle.std.proofs.lemmas.List.{take_more}
use Rattle.lock_desk.specs.declared.deadlock_log.Deadlock.{Deadlock}
use Rattle.lock_desk.specs.declared.deadlock_log.Member.{Member}
use Rattle.library_books.specs.Deadlocks.{members_of}
use Rattle.library_books.proofs.Members.{members-push}
use Rattle.library_books.proofs.deadlock_numbers.all_members.Goals as goal

pub loop-deadlock-preserved : goal.loop-deadlock-preserved
loop-deadlock-preserved c =
    let ds = c.args.deadlocks.now in
    let i = c.loop-deadlock.deadlock-index in
    let d = c.deadlock-item.result in
    let all : take (i + 1) ds ≡ take i ds ++ d ∷ [] = take_more ds i d c.loop-deadlock-test.true ∙ ap (λ (x : Deadlock). take i ds ++ x ∷ []) (sym c.deadlock-item.is) in
    let more = ap members_of all ∙ members-push (take i ds) d in
    c.in_ok-extend_from_slice.ensures.items ∙ ap (λ (ms : List Member). ms ++ c.deref.result.now) c.loop-deadlock.invariant ∙ ap (λ (ms : List Member). members_of (take i ds) ++ ms) c.deref.ensures.value ∙ sym more
