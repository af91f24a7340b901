use Rattle.std.proofs.Common.{◌≡◌, ◌<◌, ◌^◌, length, take}
use Rattle.std.specs.List.{All}
use Rattle.lock_tree.specs.declared.levels.TheConstants.{LEVELS}
use Rattle.lock_tree.proofs.Prefixes.{kept_of}
use Rattle.lock_tree.proofs.resource.Resource.prefix.Given as goal

-- each number so far is kept, or is 0
abbrev pub invariant-loop-k : goal.invariant-loop-k
invariant-loop-k l = record {
  full : length l.padded ≡ LEVELS;
  kept : take l.k l.padded ≡ kept_of l.level (take l.k l.numbers);
  small : All (λ n. n < 2 ^ 32) l.padded;
}
