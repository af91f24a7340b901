use Rattle.std.proofs.Common.{◌≡◌, ◌++◌, take, string_bytes}
use Rattle.std.specs.List.{flat_map}
use Rattle.lock_explain.specs.ExplanationRows.{row_of_victim}
use Rattle.lock_explain.proofs.rows.put_victims.Given as goal

-- The rows of the victims before this one are written.
abbrev pub invariant-loop-victim : goal.invariant-loop-victim
invariant-loop-victim l = string_bytes l.out ≡ string_bytes l.fn.out ++ flat_map (row_of_victim l.place) (take l.victim-index l.victims)
