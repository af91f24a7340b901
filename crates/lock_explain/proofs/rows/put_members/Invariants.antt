use Rattle.std.proofs.Common.{◌≡◌, ◌++◌, take, string_bytes}
use Rattle.std.specs.List.{flat_map}
use Rattle.lock_explain.specs.ExplanationRows.{row_of_member}
use Rattle.lock_explain.proofs.rows.put_members.Given as goal

-- The rows of the sessions before this one are written.
abbrev pub invariant-loop-member : goal.invariant-loop-member
invariant-loop-member l = string_bytes l.out ≡ string_bytes l.fn.out ++ flat_map (row_of_member l.place) (take l.member-index l.members)
