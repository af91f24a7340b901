-- Where a table of counters has the counter of an operation's replies of a kind.
use Rattle.std.specs.Prelude.{ℕ, ◌+◌, ◌*◌}
use Rattle.lock_rules.specs.declared.kinds.Op.{Op}
use Rattle.lock_rules.specs.Kinds.{number_of_op}

-- the index of the counter of an operation's replies of the kind with this number
abbrev pub cell_of : Op → ℕ → ℕ
cell_of o n = number_of_op o * 12 + n
