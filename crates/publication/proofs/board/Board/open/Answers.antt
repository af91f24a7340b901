use Rattle.std.proofs.Common.{rules, ◌≡◌, true, Some, None, IfSome, IfNone, Option, ℕ}
use Rattle.publication.specs.StepKinds.{Seated, opening, in_hand, Opened, HasEntered}
use Rattle.publication.proofs.BetweenCalls.{opened-between}
use Rattle.publication.proofs.board.Board.open.Goals as goal

module _ {O C R : Type 0} (m m' : Seated O C R) (at : ℕ) where
  some-first : (found : Option C) → IfSome found (λ call. (m' ≡ (in_hand (opening m.0 at call) 0, m.1)) × Opened m.0 at call) → IfSome found (λ call. m' ≡ (in_hand (opening m.0 at call) 0, m.1))
  some-first None h = h
  some-first (Some call) h = h.0

  none-first : (found : Option C) → IfNone found ((m' ≡ m) × HasEntered m.0 at) → IfNone found (m' ≡ m)
  none-first None h = h.0
  none-first (Some call) h = h

pub invariant_of-ticket : goal.invariant_of-ticket
invariant_of-ticket g c =
    let a = c.ticket.inside in
    let has : a.has_object ≡ true = search rules in
    let m = a.seat.me in
    let n = c.open_record.new.seat.me in
    let found = c.open_record.result in record {
      small = search rules;
      settled = opened-between m n a.number a.seen a.has_object a.is_pending a.is_listed a.is_retired c.ticket.invariant.settled has c.from.result found (some-first m n c.from.result found c.open_record.ensures.some) (none-first m n c.from.result found c.open_record.ensures.none);
    }
