use Rattle.lock_rules.proofs.CountTallies.{zeros}
use Rattle.lock_rules.specs.CountTallies.{cell_of}
use Rattle.lock_desk.proofs.call_counts.CallCounts.new.Goals as goal

pub returns : goal.returns
returns c = record { replies = λ o n small. zeros 132 0 (cell_of o n); refusals = λ n small. zeros 13 0 n }
