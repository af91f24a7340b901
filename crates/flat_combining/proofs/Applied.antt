-- A call that is answered has the machine's reply.
use Rattle.std.proofs.Common.{◌≡◌, ◌∙◌, ℕ, [], ◌∷◌, ◌++◌, sym, ap, take}
use Rattle.sequential.specs.declared.object.Sequential as object
use Rattle.sequential.specs.Replies.{AreRepliesOf}
use Rattle.publication.specs.Views.{TicketView, entry, answer}
use Rattle.combining.specs.Calls.{IsAnsweredAt}
use Rattle.combining.proofs.EndedWaits.{split-at}
use Rattle.flat_combining.specs.declared.machine.Machine.{Ghosts}
use Rattle.flat_combining.specs.Runs.{reply_behind}
use Rattle.flat_combining.specs.Applied.{HasReply}

module _ {S O C R : Type 0} (machine : Ghosts S C R) (obj : object.Ghosts O C R) where
  pub replied : (before after : TicketView C R) (call : C) (floor place : ℕ) (reply : R) → (obj.is_legal after.front → AreRepliesOf (reply_behind machine) after.front)
      → IsAnsweredAt obj before after call floor place reply → HasReply machine before after call floor reply
  replied before after call floor place reply legal is =
      let there = split-at after.front place (entry before.number call reply) is.stands in
      let collected : after.collected ≡ before.collected ++ answer place call reply ∷ [] = ap (λ (t : TicketView C R). t.collected) is.session in
      record {
        place = place;
        late = is.late;
        stands = is.stands;
        only = legal is.legal (take place after.front) there.0 (entry before.number call reply) there.1;
        longer = is.longer;
        calls = is.calls ∙ collected;
        collected = sym is.calls;
      }
