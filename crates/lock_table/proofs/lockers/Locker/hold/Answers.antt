use Rattle.std.proofs.Common.{◌∷◌, [], length, length-append, ap, arith}
use Rattle.lock_table.specs.inner.Requests.{locks_to_come}
use Rattle.session_locks.proofs.ResourceLists.{apart-push}
use Rattle.lock_table.proofs.lockers.Locker.hold.Goals as goal

pub invariant_of-self-clause-apart : goal.invariant_of-self-clause-apart
invariant_of-self-clause-apart c = rw c.push.ensures (apart-push c.args.self.now.held.items c.args.resource c.args.self.now.apart c.requires.new)

pub invariant_of-self-clause-few : goal.invariant_of-self-clause-few
invariant_of-self-clause-few c =
    let none = ap locks_to_come c.requires.idle in
    let long = ap length c.push.ensures in
    omega (arith, c.requires.few, none, long, length-append c.args.self.now.held.items (c.args.resource ∷ []))
