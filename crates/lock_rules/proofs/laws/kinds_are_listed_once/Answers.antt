use Rattle.std.proofs.Common.{Contains, refl, arith}
use Rattle.lock_rules.specs.declared.calls.Why.{Why}
use Rattle.lock_rules.specs.declared.calls.Why.TheVariants as why
use Rattle.lock_rules.specs.declared.kinds.Op.{Op}
use Rattle.lock_rules.specs.declared.kinds.Op.TheVariants as op
use Rattle.lock_rules.specs.declared.kinds.ReplyKind.{ReplyKind}
use Rattle.lock_rules.specs.declared.kinds.ReplyKind.TheVariants as kind
use Rattle.lock_rules.specs.declared.kinds.TheConstants.{OPS, REPLY_KINDS, REFUSALS}
use Rattle.lock_rules.proofs.laws.kinds_are_listed_once.Goals as goal

-- where each operation is in the list
op_listed : (o : Op) → Contains OPS o
op_listed op.Begin = (0, omega arith, refl)
op_listed op.Lock = (1, omega arith, refl)
op_listed op.Convert = (2, omega arith, refl)
op_listed op.Poll = (3, omega arith, refl)
op_listed op.Release = (4, omega arith, refl)
op_listed op.Commit = (5, omega arith, refl)
op_listed op.Abort = (6, omega arith, refl)
op_listed op.Try = (7, omega arith, refl)
op_listed op.Withdraw = (8, omega arith, refl)
op_listed op.Restart = (9, omega arith, refl)

-- where each kind of replies is in the list
kind_listed : (k : ReplyKind) → Contains REPLY_KINDS k
kind_listed kind.Began = (0, omega arith, refl)
kind_listed kind.Granted = (1, omega arith, refl)
kind_listed kind.Waiting = (2, omega arith, refl)
kind_listed kind.Deadlock = (3, omega arith, refl)
kind_listed kind.Clear = (4, omega arith, refl)
kind_listed kind.Released = (5, omega arith, refl)
kind_listed kind.Committed = (6, omega arith, refl)
kind_listed kind.Aborted = (7, omega arith, refl)
kind_listed kind.Refused = (8, omega arith, refl)
kind_listed kind.Withdrawn = (9, omega arith, refl)
kind_listed kind.Restarted = (10, omega arith, refl)

-- where each refusal is in the list
refusal_listed : (w : Why) → Contains REFUSALS w
refusal_listed why.AlreadyOpen = (0, omega arith, refl)
refusal_listed why.NoTransaction = (1, omega arith, refl)
refusal_listed why.IsWaiting = (2, omega arith, refl)
refusal_listed why.IsDoomed = (3, omega arith, refl)
refusal_listed why.NothingAsked = (4, omega arith, refl)
refusal_listed why.NotHeld = (5, omega arith, refl)
refusal_listed why.ParentNotHeld = (6, omega arith, refl)
refusal_listed why.ChildHeld = (7, omega arith, refl)
refusal_listed why.TooManyLocks = (8, omega arith, refl)
refusal_listed why.WouldWait = (9, omega arith, refl)
refusal_listed why.NotWaiting = (10, omega arith, refl)

pub returns-clause-ops : goal.returns-clause-ops
returns-clause-ops c = op_listed

pub returns-clause-kinds : goal.returns-clause-kinds
returns-clause-kinds c = kind_listed

pub returns-clause-refusals : goal.returns-clause-refusals
returns-clause-refusals c = refusal_listed
