use Rattle.std.proofs.Common.{take, ◌++◌, ◌∷◌}
use Rattle.std.specs.Prelude.{decimal}
use Rattle.std.specs.Fmt.{HasWritten, IsPlainFormatter}
use Rattle.std.specs.List.{flat_map}
use Rattle.lock_tree.proofs.resource.ResourceDisplay.fmt.Given as goal

-- the first number is written, and each one so far after a `/`
abbrev pub invariant-loop-number : goal.invariant-loop-number
invariant-loop-number g l =
    IsPlainFormatter l.fn.f → HasWritten g.W.Write.write_str_gives l.fn.f (decimal l.first ++ flat_map (λ n. 47 ∷ decimal n) (take l.number-index l.number-items)) l.f
