-- Nodes and edges of a graph of sessions, as Graphviz reads them.
use Rattle.std.specs.Prelude.{ℕ, List, ◌++◌, codes, decimal}

-- the node of a session with the number of its transaction, up to the end of its label's second line
abbrev pub start_of_node : ℕ → ℕ → List ℕ
start_of_node s number =
    codes "  " ++ decimal s ++ codes " [label=\"session " ++ decimal s ++ codes "\\ntransaction " ++ decimal number

-- an edge, from one session to another, with these words behind it
abbrev pub edge_with : ℕ → ℕ → List ℕ → List ℕ
edge_with s u end = codes "  " ++ decimal s ++ codes " -> " ++ decimal u ++ end
