-- The calls of a history as a trace.
use Rattle.std.specs.Prelude.{ℕ, List, ◌++◌, codes, decimal}
use Rattle.lock_rules.specs.Entries.{Entry}
use Rattle.lock_rules.specs.Kinds.{op_of_call, word_of}
use Rattle.lock_trace.specs.Rows.{mode_field, resource_field}

-- the row of an entry's call
abbrev pub row_of_call : Entry → List ℕ
row_of_call e =
    decimal e.session ++ codes "," ++ word_of (op_of_call e.call) ++ codes "," ++ resource_field e.call ++ codes "," ++ mode_field e.call ++ codes "\n"
