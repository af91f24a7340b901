-- The waits-for graph as Graphviz reads it.
use Rattle.std.specs.Prelude.{ℕ, if◌then◌else◌, List, ◌++◌, codes, decimal}
use Rattle.std.specs.List.{flat_map}
use Rattle.lock_rules.specs.declared.calls.Transaction.{Transaction}
use Rattle.lock_report.specs.Nodes.{start_of_node, edge_with}
use Rattle.lock_report.specs.declared.snapshot.OpenTransaction.{OpenTransaction}
use Rattle.lock_report.specs.declared.snapshot.WaitFor.{WaitFor}

-- the end of a node's label and what follows it: a victim is named and filled
abbrev pub end_of_node : Transaction → List ℕ
end_of_node t = if t.doomed then codes "\\nvictim\", style=filled, fillcolor=lightgray];\n" else codes "\"];\n"

-- the node of a session with an open transaction
abbrev pub node_of : OpenTransaction → List ℕ
node_of o = start_of_node o.session o.transaction.number ++ end_of_node o.transaction

-- the edge of a wait, from the session that waits to the one that it waits for
abbrev pub edge_of : WaitFor → List ℕ
edge_of w = edge_with w.session w.other (codes ";\n")

-- the graph: a node for each open transaction, and an edge for each wait
abbrev pub dot_of_waits : List OpenTransaction → List WaitFor → List ℕ
dot_of_waits opens waits = codes "digraph waits {\n" ++ flat_map node_of opens ++ flat_map edge_of waits ++ codes "}\n"
