-- An explanation as CSV rows of seven fields: place, row, session, transaction, resource, mode, other. The format is this
-- project's own choice.
use Rattle.std.specs.Prelude.{ℕ, if◌then◌else◌, List, [], ◌∷◌, ◌++◌, Option, Some, None, codes, decimal}
use Rattle.std.specs.List.{flat_map, join_with_byte}
use Rattle.lock_modes.specs.declared.Mode.{Mode}
use Rattle.lock_modes.specs.Codes.{name_of}
use Rattle.lock_tree.specs.Text.{text_of}
use Rattle.lock_rules.specs.Names.{name_of_why}
use Rattle.lock_rules.specs.declared.calls.Why.{Why}
use Rattle.lock_rules.specs.declared.listing.Claim.{Claim}
use Rattle.lock_rules.specs.declared.listing.ClaimKind.{ClaimKind}
use Rattle.lock_rules.specs.declared.listing.ClaimKind.TheVariants.{Held, Conversion, Fresh}
use Rattle.lock_report.specs.Claims.{word_of_kind}
use Rattle.lock_explain.specs.declared.explanation.Blocker.{Blocker}
use Rattle.lock_explain.specs.declared.explanation.Edge.{Edge}
use Rattle.lock_explain.specs.declared.explanation.Explanation.{Explanation}
use Rattle.lock_explain.specs.declared.explanation.MissedParent.{MissedParent}
use Rattle.lock_explain.specs.declared.explanation.Party.{Party}
use Rattle.lock_explain.specs.declared.explanation.Refusal.{Refusal}
use Rattle.lock_explain.specs.declared.explanation.Wait.{Wait}
use Rattle.lock_explain.specs.ExplanationText.{has_nothing_to_tell}

-- the fields joined by commas, and a line feed
abbrev pub row_of_fields : List (List ℕ) → List ℕ
row_of_fields fields = join_with_byte 44 fields ++ 10 ∷ []

-- the row of a refusal of the session's call
abbrev pub row_of_why : ℕ → ℕ → Why → List ℕ
row_of_why place s w =
    row_of_fields (decimal place ∷ codes "refused" ∷ decimal s ∷ [] ∷ [] ∷ [] ∷ name_of_why w ∷ [])

-- the row of the mode in which the session would have to hold the parent
abbrev pub row_of_need : ℕ → ℕ → MissedParent → List ℕ
row_of_need place s p =
    row_of_fields (decimal place ∷ codes "needed" ∷ decimal s ∷ [] ∷ text_of p.parent ∷ name_of p.needed ∷ [] ∷ [])

-- the row of the mode in which it holds the parent, nothing if it doesn't
abbrev pub row_of_parent : ℕ → ℕ → List ℕ → Option Mode → List ℕ
row_of_parent place s r None = []
row_of_parent place s r (Some m) =
    row_of_fields (decimal place ∷ codes "parent" ∷ decimal s ∷ [] ∷ text_of r ∷ name_of m ∷ [] ∷ [])

-- the rows of the parent that a request lacks, nothing for None
abbrev pub rows_of_missed : ℕ → ℕ → Option MissedParent → List ℕ
rows_of_missed place s None = []
rows_of_missed place s (Some p) = row_of_need place s p ++ row_of_parent place s p.parent p.held

-- the row of a claim, with this word
abbrev pub row_of_claim : ℕ → List ℕ → Claim → List ℕ
row_of_claim place word c =
    row_of_fields
    (decimal place ∷ word ∷ decimal c.session ∷ decimal c.transaction.number ∷ text_of c.resource ∷ name_of c.mode ∷ [] ∷ [])

-- the row of a lock below the resource
abbrev pub row_of_lock_below : ℕ → Claim → List ℕ
row_of_lock_below place c = row_of_claim place (codes "held") c

-- the row of a request that waits or would wait
abbrev pub row_of_request : ℕ → Claim → List ℕ
row_of_request place q = row_of_claim place (word_of_kind q.kind) q

-- a row of what the request q waits for or would wait for: the session, through this mode, nothing for None
abbrev pub row_of_block : ℕ → Claim → List ℕ → Party → Option Mode → List ℕ
row_of_block place q word p None = []
row_of_block place q word p (Some m) =
    row_of_fields
    (decimal place ∷ word ∷ decimal p.session ∷ decimal p.transaction ∷ text_of q.resource ∷ name_of m ∷ decimal q.session ∷ [])

-- the rows of a session that the request q waits for or would wait for: its lock in conflict, and its request ahead
abbrev pub rows_of_blocker : ℕ → Claim → Blocker → List ℕ
rows_of_blocker place q b =
    row_of_block place q (codes "holder") b.party b.held ++ row_of_block place q (codes "ahead") b.party b.ahead

-- the rows of the request that would wait and of the sessions that it would wait for, nothing for None
abbrev pub rows_if_asked : ℕ → Option Claim → List Blocker → List ℕ
rows_if_asked place None blockers = []
rows_if_asked place (Some q) blockers = row_of_request place q ++ flat_map (rows_of_blocker place q) blockers

-- the rows of a refusal: the reason, the parent lacked, the locks below the resource, and the request that would wait
abbrev pub rows_of_refusal : ℕ → ℕ → Refusal → List ℕ
rows_of_refusal place s f =
    row_of_why place s f.why ++ rows_of_missed place s f.missed ++ flat_map (row_of_lock_below place) f.below.items
    ++ rows_if_asked place f.request f.blockers.items

-- the rows of the refusal, nothing for None
abbrev pub refusal_rows : ℕ → ℕ → Option Refusal → List ℕ
refusal_rows place s None = []
refusal_rows place s (Some f) = rows_of_refusal place s f

-- the row of a session with its transaction, with this word
abbrev pub row_of_party : ℕ → List ℕ → Party → List ℕ
row_of_party place word p =
    row_of_fields (decimal place ∷ word ∷ decimal p.session ∷ decimal p.transaction ∷ [] ∷ [] ∷ [] ∷ [])

-- the row of a session on a cycle
abbrev pub row_of_member : ℕ → Party → List ℕ
row_of_member place p = row_of_party place (codes "circle") p

-- the row of a wait of one session on a cycle for another
abbrev pub row_of_edge : ℕ → Edge → List ℕ
row_of_edge place w =
    row_of_fields (decimal place ∷ codes "waits" ∷ decimal w.session ∷ [] ∷ [] ∷ [] ∷ decimal w.other ∷ [])

-- the rows of a wait: the request, the sessions that it waits for, and the cycles that it closed
abbrev pub rows_of_wait : ℕ → Wait → List ℕ
rows_of_wait place w =
    row_of_request place w.request ++ flat_map (rows_of_blocker place w.request) w.blockers.items
    ++ flat_map (row_of_member place) w.cycle.items ++ flat_map (row_of_edge place) w.edges.items

-- the rows of the wait, nothing for None
abbrev pub wait_rows : ℕ → Option Wait → List ℕ
wait_rows place None = []
wait_rows place (Some w) = rows_of_wait place w

-- the row of a deadlock victim
abbrev pub row_of_victim : ℕ → Party → List ℕ
row_of_victim place p = row_of_party place (codes "victim") p

-- the row of a request that was granted
abbrev pub row_of_granted : ℕ → Claim → List ℕ
row_of_granted place c = row_of_claim place (codes "granted") c

-- the row of the call's own request, if it was granted after its wait
abbrev pub own_row : ℕ → Option Wait → List ℕ
own_row place None = []
own_row place (Some w) = if w.granted then row_of_granted place w.request else []

-- the row of a call with nothing to tell
abbrev pub row_of_done : ℕ → ℕ → List ℕ
row_of_done place s = row_of_fields (decimal place ∷ codes "done" ∷ decimal s ∷ [] ∷ [] ∷ [] ∷ [] ∷ [])

-- what the call did: the refusal, the wait, the victims, the requests of others granted, and its own request granted after all
abbrev pub rows_of_call : ℕ → ℕ → Explanation → List ℕ
rows_of_call place s e =
    refusal_rows place s e.refusal ++ wait_rows place e.wait ++ flat_map (row_of_victim place) e.victims.items
    ++ flat_map (row_of_granted place) e.granted.items ++ own_row place e.wait

-- the explanation of the session's call at this place of the history, one row if there is nothing to tell
abbrev pub rows_of_explanation : ℕ → ℕ → Explanation → List ℕ
rows_of_explanation place s e = if has_nothing_to_tell e then row_of_done place s else rows_of_call place s e
