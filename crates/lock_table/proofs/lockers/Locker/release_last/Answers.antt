use Rattle.std.proofs.Common.{ap, arith}
use Rattle.lock_table.specs.inner.Requests.{locks_to_come}
use Rattle.lock_table.proofs.LockerGrant.{left-apart, left-few}
use Rattle.lock_table.proofs.lockers.Locker.release_last.Goals as goal

pub invariant_of-self-clause-apart : goal.invariant_of-self-clause-apart
invariant_of-self-clause-apart c = left-apart c.pop.result c.args.self.now.held.items c.pop.new.self.items c.pop.ensures.some c.pop.ensures.empty c.args.self.now.apart

pub invariant_of-self-clause-few : goal.invariant_of-self-clause-few
invariant_of-self-clause-few c =
    omega (arith, left-few c.pop.result c.args.self.now.held.items c.pop.new.self.items c.pop.ensures.some c.pop.ensures.empty, c.args.self.now.few)

pub invariant_of-self-clause-room : goal.invariant_of-self-clause-room
invariant_of-self-clause-room c = let none = ap locks_to_come c.requires.idle in omega (arith, none)

pub invariant_of-self-clause-kind : goal.invariant_of-self-clause-kind
invariant_of-self-clause-kind c = rw c.requires.idle tt

pub invariant_of-self-clause-under : goal.invariant_of-self-clause-under
invariant_of-self-clause-under c = rw c.requires.idle tt
