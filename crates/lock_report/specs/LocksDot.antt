-- The contended resources and who waits for whom first, as Graphviz reads them. A name or a label has digits, letters, blanks,
-- dots and `/`, none of which Graphviz reads otherwise; `\l` ends a line of a label, which is set from the left.
use Rattle.std.specs.Prelude.{ℕ, zero, suc, ◌+◌, ◌-◌, ◌%◌, Bool, true, false, not, ◌&&◌, ◌==◌, if◌then◌else◌, List, [], ◌∷◌, ◌++◌, length, get_or, take_while, Option, Some, None, is_some, find, codes, decimal}
use Rattle.std.specs.List.{flat_map}
use Rattle.lock_modes.specs.Codes.{name_of}
use Rattle.lock_tree.specs.Paths.{same_path}
use Rattle.lock_tree.specs.Text.{text_of}
use Rattle.lock_rules.specs.declared.listing.Claim.{Claim}
use Rattle.lock_rules.specs.declared.listing.ClaimKind.{ClaimKind}
use Rattle.lock_rules.specs.declared.listing.ClaimKind.TheVariants.{Held, Conversion, Fresh}
use Rattle.lock_report.specs.Claims.{is_last, is_lock_kind, is_request_kind}
use Rattle.lock_report.specs.declared.snapshot.OpenTransaction.{OpenTransaction}
use Rattle.lock_report.specs.declared.snapshot.WaitLine.{WaitLine}
use Rattle.lock_report.specs.declared.rows_of_boxes.TheConstants.{BOXES_IN_A_ROW}
use Rattle.lock_report.specs.StateText.{resource_verb, mode_word}
use Rattle.lock_report.specs.Dot.{node_of, edge_of}

-- the claim in words, and the end of its line in a label
abbrev pub words_of_claim : Claim → List ℕ
words_of_claim c =
    codes "session " ++ decimal c.session ++ codes " " ++ resource_verb c.kind ++ codes " " ++ mode_word c.kind
    ++ codes " " ++ name_of c.mode ++ codes "\\l"

-- the line of a lock, nothing for a request
abbrev pub line_if_lock : Claim → List ℕ
line_if_lock c = if is_lock_kind c.kind then words_of_claim c else []

-- the line of a request, with its number in the queue
abbrev pub numbered_line : ℕ → Claim → List ℕ
numbered_line number c = decimal number ++ codes ". " ++ words_of_claim c

-- the lines of the requests among the claims, in their order, numbered from `number`
abbrev pub queue_lines : ℕ → List Claim → List ℕ
queue_lines number [] = []
queue_lines number (c ∷ cs) =
    if is_request_kind c.kind then numbered_line number c ++ queue_lines (number + 1) cs else queue_lines number cs

-- the name of the node of a resource, which is no name of a session's node
abbrev pub name_of_box : List ℕ → List ℕ
name_of_box r = codes "\"resource " ++ text_of r ++ codes "\""

-- the attributes of the node of a resource, up to the end of its label's first line
abbrev pub start_of_label : List ℕ → List ℕ
start_of_label r = codes " [shape=box, label=\"" ++ text_of r ++ codes "\\l"

-- the node of a resource with these claims: a box with its holders, and then its queue, numbered from 1
abbrev pub box_of : List ℕ → List Claim → List ℕ
box_of r claims =
    codes "  " ++ name_of_box r ++ start_of_label r ++ flat_map line_if_lock claims ++ queue_lines 1 claims ++ codes "\"];\n"

-- the claims from the front on that are on the resource: if a listing begins with the resource, all claims on it
abbrev pub claims_on : List ℕ → List Claim → List Claim
claims_on r claims = take_while (λ c. same_path c.resource r) claims

-- one of the claims is a waiting request
abbrev pub has_request : List Claim → Bool
has_request claims = is_some (find (λ c. is_request_kind c.kind) claims)

-- the claims, the first of which is on resource r, begin with all those on r, and somebody waits for r; `last` is the resource of the
-- claim ahead of them
abbrev pub begins_queue : Option (List ℕ) → List ℕ → List Claim → Bool
begins_queue last r claims = not (is_last last r) && has_request (claims_on r claims)

-- the box of the resource if the claims begin with its queue
abbrev pub box_at : Option (List ℕ) → List ℕ → List Claim → List ℕ
box_at last r claims = if begins_queue last r claims then box_of r (claims_on r claims) else []

-- the boxes of claims in the order of a listing: one for each resource that is waited for; `last` is the resource ahead of them
abbrev pub boxes_behind : Option (List ℕ) → List Claim → List ℕ
boxes_behind last [] = []
boxes_behind last (c ∷ cs) = box_at last c.resource (c ∷ cs) ++ boxes_behind (Some c.resource) cs

-- the resource in a list if the claims begin with its queue, the empty list if they don't
abbrev pub boxed_at : Option (List ℕ) → List ℕ → List Claim → List (List ℕ)
boxed_at last r claims = if begins_queue last r claims then r ∷ [] else []

-- the resources that have boxes, in their order
abbrev pub boxed_behind : Option (List ℕ) → List Claim → List (List ℕ)
boxed_behind last [] = []
boxed_behind last (c ∷ cs) = boxed_at last c.resource (c ∷ cs) ++ boxed_behind (Some c.resource) cs

-- an edge from box a to box b that isn't drawn, and only places them
abbrev pub hidden_edge : List ℕ → List ℕ → List ℕ
hidden_edge a b = name_of_box a ++ codes " -> " ++ name_of_box b ++ codes " [style=invis];"

-- what puts box b beside box a, to its right
abbrev pub beside : List ℕ → List ℕ → List ℕ
beside a b = codes "  " ++ hidden_edge a b ++ codes "\n"

-- what puts box b below box a
abbrev pub below : List ℕ → List ℕ → List ℕ
below a b = codes "  {rank=same; " ++ hidden_edge a b ++ codes "}\n"

-- what places the box at this index, which isn't the first: below the first box of the row above if it begins a row, and else beside the
-- box before it
abbrev pub placed : List (List ℕ) → ℕ → List ℕ
placed boxed index =
    if index % BOXES_IN_A_ROW == 0
    then below (get_or boxed (index - BOXES_IN_A_ROW) []) (get_or boxed index [])
    else beside (get_or boxed (index - 1) []) (get_or boxed index [])

-- the same for any index: the first box isn't placed
abbrev pub placed_behind : List (List ℕ) → ℕ → List ℕ
placed_behind boxed zero = []
placed_behind boxed (suc before) = placed boxed (suc before)

-- what places so many of the boxes of these resources, from the first on
abbrev pub places_of : List (List ℕ) → ℕ → List ℕ
places_of boxed zero = []
places_of boxed (suc count) = places_of boxed count ++ placed_behind boxed count

-- the edge of a wait for a first blocker, nothing for another wait
abbrev pub edge_if_first : WaitLine → List ℕ
edge_if_first w = if w.first then edge_of w.wait else []

-- the first lines of the graph: edges lead to the right, what isn't joined is laid out apart and then put together, and little room is
-- left between nodes and round their labels
abbrev pub start_of_graph : List ℕ
start_of_graph = codes "digraph locks {\n  graph [rankdir=LR, pack=true, nodesep=0.1];\n  node [margin=\"0.05,0.02\"];\n"

-- the graph up to its edges: a node for each open transaction, and a box for each resource that is waited for, in the order of a
-- listing and in rows
abbrev pub boxed_graph : List OpenTransaction → List Claim → List ℕ
boxed_graph opens claims =
    start_of_graph ++ flat_map node_of opens ++ boxes_behind None claims ++ places_of (boxed_behind None claims) (length (boxed_behind None claims))

-- the graph, with an edge from each session that waits to its first blocker
abbrev pub dot_of_locks : List OpenTransaction → List Claim → List WaitLine → List ℕ
dot_of_locks opens claims waits = boxed_graph opens claims ++ flat_map edge_if_first waits ++ codes "}\n"
