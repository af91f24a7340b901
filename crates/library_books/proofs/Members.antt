-- The members of one deadlock more.
use Rattle.std.proofs.Common.{◌≡◌, List, [], ◌∷◌, ◌++◌, sym, ap, ◌∙◌, append_assoc, append-nil}
use Rattle.lock_desk.specs.declared.deadlock_log.Deadlock.{Deadlock}
use Rattle.lock_desk.specs.declared.deadlock_log.Member.{Member}
use Rattle.library_books.specs.Deadlocks.{members_of}

-- the members of one deadlock more stand behind those of the others
pub members-push : (ds : List Deadlock) (d : Deadlock) → members_of (ds ++ d ∷ []) ≡ members_of ds ++ d.cycle.items
members-push [] d = append-nil d.cycle.items
members-push (x ∷ ds) d = ap (λ (ms : List Member). x.cycle.items ++ ms) (members-push ds d) ∙ sym (append_assoc x.cycle.items (members_of ds) d.cycle.items)
