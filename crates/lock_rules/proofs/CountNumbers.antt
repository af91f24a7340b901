-- The numbers of operations, kinds of replies and refusals are small.
use Rattle.std.proofs.Common.{◌<◌, ◌≤◌, arith}
use Rattle.lock_rules.specs.declared.kinds.Op.{Op}
use Rattle.lock_rules.specs.declared.kinds.Op.TheVariants as op
use Rattle.lock_rules.specs.declared.kinds.ReplyKind.{ReplyKind}
use Rattle.lock_rules.specs.declared.kinds.ReplyKind.TheVariants as kind
use Rattle.lock_rules.specs.declared.calls.Why.{Why}
use Rattle.lock_rules.specs.declared.calls.Why.TheVariants as why
use Rattle.lock_rules.specs.Kinds.{number_of_op, number_of_kind, number_of_why}

-- the number of a kind of replies is below 12
pub kind_few : (k : ReplyKind) → number_of_kind k < 12
kind_few kind.Began = omega arith
kind_few kind.Granted = omega arith
kind_few kind.Waiting = omega arith
kind_few kind.Deadlock = omega arith
kind_few kind.Clear = omega arith
kind_few kind.Released = omega arith
kind_few kind.Committed = omega arith
kind_few kind.Aborted = omega arith
kind_few kind.Refused = omega arith
kind_few kind.Withdrawn = omega arith
kind_few kind.Restarted = omega arith

-- the number of an operation is at most 10
pub op_few : (o : Op) → number_of_op o ≤ 10
op_few op.Begin = omega arith
op_few op.Lock = omega arith
op_few op.Convert = omega arith
op_few op.Poll = omega arith
op_few op.Release = omega arith
op_few op.Commit = omega arith
op_few op.Abort = omega arith
op_few op.Try = omega arith
op_few op.Withdraw = omega arith
op_few op.Restart = omega arith

-- the number of a refusal is below 13
pub why_few : (w : Why) → number_of_why w < 13
why_few why.AlreadyOpen = omega arith
why_few why.NoTransaction = omega arith
why_few why.IsWaiting = omega arith
why_few why.IsDoomed = omega arith
why_few why.NothingAsked = omega arith
why_few why.NotHeld = omega arith
why_few why.ParentNotHeld = omega arith
why_few why.ChildHeld = omega arith
why_few why.TooManyLocks = omega arith
why_few why.WouldWait = omega arith
why_few why.NotWaiting = omega arith
