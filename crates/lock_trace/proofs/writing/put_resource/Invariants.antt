use Rattle.std.proofs.Common.{◌≡◌, ◌+◌, ◌*◌, ◌<◌, ◌≤◌, ◌++◌, length, take}
use Rattle.lock_tree.specs.Text.{text_of}
use Rattle.lock_trace.proofs.writing.put_resource.Given as goal

-- The numbers of the levels before this one are written, each in at most 21 bytes.
abbrev pub invariant-loop-level : goal.invariant-loop-level
invariant-loop-level l = record {
  some : 0 < l.level;
  text : take l.end l.line ≡ take l.at l.fn.line ++ text_of (take l.level l.numbers);
  room : length l.line ≡ length l.fn.line;
  few : l.end ≤ l.at + l.level * 21;
}
