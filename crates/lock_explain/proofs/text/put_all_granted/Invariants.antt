use Rattle.std.proofs.Common.{◌≡◌, ◌++◌, take, string_bytes}
use Rattle.std.specs.List.{flat_map}
use Rattle.lock_explain.specs.ExplanationText.{line_of_granted}
use Rattle.lock_explain.proofs.text.put_all_granted.Given as goal

-- The lines of the requests before this one are written.
abbrev pub invariant-loop-request : goal.invariant-loop-request
invariant-loop-request l = string_bytes l.out ≡ string_bytes l.fn.out ++ flat_map line_of_granted (take l.request-index l.requests)
