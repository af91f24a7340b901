-- What a request waits for or would wait for and the cycles that it closed, as Graphviz reads them. A node or an edge may come more than once:
-- Graphviz makes one of equal ones, and of its attributes the later ones hold.
use Rattle.std.specs.Prelude.{ℕ, List, [], ◌++◌, Option, Some, None, codes, decimal}
use Rattle.std.specs.List.{flat_map}
use Rattle.lock_rules.specs.declared.listing.Claim.{Claim}
use Rattle.lock_report.specs.Nodes.{start_of_node, edge_with}
use Rattle.lock_explain.specs.declared.explanation.Blocker.{Blocker}
use Rattle.lock_explain.specs.declared.explanation.Edge.{Edge}
use Rattle.lock_explain.specs.declared.explanation.Explanation.{Explanation}
use Rattle.lock_explain.specs.declared.explanation.Party.{Party}
use Rattle.lock_explain.specs.declared.explanation.Refusal.{Refusal}
use Rattle.lock_explain.specs.declared.explanation.Wait.{Wait}

-- the node of the session that waits or would wait
abbrev pub node_of_request : Claim → List ℕ
node_of_request q = start_of_node q.session q.transaction.number ++ codes "\"];\n"

-- the node of a session that the request waits for or would wait for
abbrev pub node_of_blocker : Blocker → List ℕ
node_of_blocker b = start_of_node b.party.session b.party.transaction ++ codes "\"];\n"

-- the node of a session on a cycle
abbrev pub node_of_member : Party → List ℕ
node_of_member p = start_of_node p.session p.transaction ++ codes "\", color=red];\n"

-- the node of a deadlock victim, which was on a cycle
abbrev pub node_of_victim : Party → List ℕ
node_of_victim p =
    start_of_node p.session p.transaction ++ codes "\\nvictim\", style=filled, fillcolor=lightgray, color=red];\n"

-- the edge from the session that waits or would wait to a session that it waits for or would wait for
abbrev pub edge_of_blocker : ℕ → Blocker → List ℕ
edge_of_blocker s b = edge_with s b.party.session (codes ";\n")

-- the edge of a wait of one session on a cycle for another
abbrev pub edge_of_cycle : Edge → List ℕ
edge_of_cycle w = edge_with w.session w.other (codes " [color=red];\n")

-- the nodes: the session that waits, those that it waits for, those on a cycle, and the victims
abbrev pub nodes_of_wait : Wait → List Party → List ℕ
nodes_of_wait w victims =
    node_of_request w.request ++ flat_map node_of_blocker w.blockers.items
    ++ flat_map node_of_member w.cycle.items ++ flat_map node_of_victim victims

-- the edges: from the session that waits to those that it waits for, and the waits on a cycle
abbrev pub edges_of_wait : Wait → List ℕ
edges_of_wait w =
    flat_map (edge_of_blocker w.request.session) w.blockers.items ++ flat_map edge_of_cycle w.edges.items

-- a graph with this place of the history in its name, with these nodes and these edges
abbrev pub graph_with : ℕ → List ℕ → List ℕ → List ℕ
graph_with place nodes edges = codes "strict digraph place_" ++ decimal place ++ codes " {\n" ++ nodes ++ edges ++ codes "}\n"

-- the graph of a request that began to wait at this place of the history, with the victims chosen for its cycles
abbrev pub graph_of_wait : ℕ → Wait → List Party → List ℕ
graph_of_wait place w victims = graph_with place (nodes_of_wait w victims) (edges_of_wait w)

-- the graph, nothing if no request began to wait
abbrev pub graph_part : ℕ → Option Wait → List Party → List ℕ
graph_part place None victims = []
graph_part place (Some w) victims = graph_of_wait place w victims

-- the nodes: the session that would wait, and those that it would wait for
abbrev pub nodes_of_asked : Claim → List Blocker → List ℕ
nodes_of_asked q blockers = node_of_request q ++ flat_map node_of_blocker blockers

-- the graph of a request that would wait at this place of the history
abbrev pub graph_of_asked : ℕ → Claim → List Blocker → List ℕ
graph_of_asked place q blockers = graph_with place (nodes_of_asked q blockers) (flat_map (edge_of_blocker q.session) blockers)

-- the graph of a request that would wait at this place of the history, nothing for None
abbrev pub graph_if_asked : ℕ → Option Claim → List Blocker → List ℕ
graph_if_asked place None blockers = []
graph_if_asked place (Some q) blockers = graph_of_asked place q blockers

-- the graph of a refusal, nothing for None
abbrev pub graph_of_refusal : ℕ → Option Refusal → List ℕ
graph_of_refusal place None = []
graph_of_refusal place (Some f) = graph_if_asked place f.request f.blockers.items

-- the graph of an explanation: that of the request that would wait, or of the one that began to wait
abbrev pub dot_of_explanation : ℕ → Explanation → List ℕ
dot_of_explanation place e = graph_of_refusal place e.refusal ++ graph_part place e.wait e.victims.items
