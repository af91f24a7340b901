use Rattle.lock_programs.proofs.NotedReplies.{runs_are_told}
use Rattle.lock_programs.proofs.laws.runs_are_told.Goals as goal

pub returns : goal.returns
returns c = runs_are_told
