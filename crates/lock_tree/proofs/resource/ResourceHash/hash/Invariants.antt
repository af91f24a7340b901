use Rattle.std.proofs.Common.{◌≡◌, map}
use Rattle.std.specs.List.{fold, flat_map, range_with_len}
use Rattle.std.specs.Hash as fed
use Rattle.lock_tree.specs.Hashes.{word_at}
use Rattle.lock_tree.proofs.resource.ResourceHash.hash.Given as goal

-- the words so far are written
abbrev pub invariant-loop-k : goal.invariant-loop-k
invariant-loop-k g l = l.state ≡ fold g.H.Hasher.write l.fn.state (flat_map fed.u64 (map (word_at l.self) (range_with_len 0 l.k)))
