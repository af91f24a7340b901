use Rattle.std.proofs.Common.{◌≡◌, ◌≤◌, length, take}
use Rattle.lock_tree.specs.declared.levels.TheConstants.{LEVELS}
use Rattle.lock_trace.proofs.FastPath.{slash_terminated}
use Rattle.lock_trace.proofs.fast_path.fast_resource.Given as goal

-- The bytes before this level are the numbers so far, with a `/` after each.
abbrev pub invariant-loop-level : goal.invariant-loop-level
invariant-loop-level l = record {
  within : l.start ≤ length l.field;
  long : length l.numbers ≡ LEVELS;
  read : take l.start l.field ≡ slash_terminated (take l.level l.numbers);
}
