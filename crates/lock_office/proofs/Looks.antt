-- A session that has the lock table, as one that has begun to look.
use Rattle.std.proofs.Common.{◌≡◌, Bool, true, false, [], refl, ap, append-nil}
use Rattle.lock_office.specs.ProgramBoards.{IsLegal, TicketView}
use Rattle.lock_office.specs.Sessions.{HasBegunToLook}

-- It has no walk begun, and knows a legal history.
pub begun-as : (t : TicketView) → t.has_object ≡ true → t.route ≡ [] → IsLegal t.front → HasBegunToLook (record t { has_object = false; taken = [] }) t
begun-as t has none legal = record {
  session = ap (λ (b : Bool). record t { has_object = b }) has;
  lacked = refl;
  no_walk = none;
  untaken = refl;
  longer = ([], append-nil t.front);
  legal = legal;
}
