-- An explanation as lines for people. The format is this project's own choice.
use Rattle.std.specs.Prelude.{ℕ, Bool, ◌&&◌, ◌==◌, if◌then◌else◌, List, [], ◌∷◌, ◌++◌, length, nat_lt, Option, Some, None, is_none, codes, decimal}
use Rattle.std.specs.List.{flat_map}
use Rattle.lock_modes.specs.declared.Mode.{Mode}
use Rattle.lock_modes.specs.Codes.{name_of}
use Rattle.lock_tree.specs.Text.{text_of}
use Rattle.lock_rules.specs.declared.calls.Why.{Why}
use Rattle.lock_rules.specs.declared.calls.Why.TheVariants.{AlreadyOpen, NoTransaction, IsWaiting, IsDoomed, NothingAsked, NotHeld, ParentNotHeld, ChildHeld, TooManyLocks, WouldWait, NotWaiting}
use Rattle.lock_rules.specs.declared.calls.TheConstants.{MAX_LOCKS}
use Rattle.lock_rules.specs.declared.listing.Claim.{Claim}
use Rattle.lock_rules.specs.declared.listing.ClaimKind.{ClaimKind}
use Rattle.lock_rules.specs.declared.listing.ClaimKind.TheVariants.{Held, Conversion, Fresh}
use Rattle.lock_explain.specs.declared.explanation.Blocker.{Blocker}
use Rattle.lock_explain.specs.declared.explanation.Edge.{Edge}
use Rattle.lock_explain.specs.declared.explanation.Explanation.{Explanation}
use Rattle.lock_explain.specs.declared.explanation.MissedParent.{MissedParent}
use Rattle.lock_explain.specs.declared.explanation.Party.{Party}
use Rattle.lock_explain.specs.declared.explanation.Refusal.{Refusal}
use Rattle.lock_explain.specs.declared.explanation.Wait.{Wait}

-- there is nothing to tell: no refusal, no wait, no victims, and no request of another session granted
abbrev pub has_nothing_to_tell : Explanation → Bool
has_nothing_to_tell e = is_none e.refusal && (is_none e.wait && (length e.victims.items == 0 && length e.granted.items == 0))

-- a session with its transaction
abbrev pub words_of_party : Party → List ℕ
words_of_party p = codes "session " ++ decimal p.session ++ codes ", transaction " ++ decimal p.transaction

-- the reason of a refusal in words
abbrev pub words_of_why : Why → List ℕ
words_of_why AlreadyOpen = codes "the session has an open transaction"
words_of_why NoTransaction = codes "the session has no open transaction"
words_of_why IsWaiting = codes "the session waits"
words_of_why IsDoomed = codes "the session's transaction is a deadlock victim"
words_of_why NothingAsked = codes "mode NL asks for nothing"
words_of_why NotHeld = codes "the session doesn't hold the resource"
words_of_why ParentNotHeld = codes "the parent isn't held as the request needs it"
words_of_why ChildHeld = codes "the session holds a lock below the resource"
words_of_why TooManyLocks = codes "the session holds " ++ decimal MAX_LOCKS ++ codes " locks"
words_of_why WouldWait = codes "the request would wait"
words_of_why NotWaiting = codes "the session doesn't wait"

-- the line of the reason
abbrev pub line_of_why : Why → List ℕ
line_of_why w = codes "  refused: " ++ words_of_why w ++ codes "\n"

-- how the session holds the parent that it lacks
abbrev pub words_of_parent_held : Option Mode → List ℕ
words_of_parent_held None = codes "doesn't hold it"
words_of_parent_held (Some m) = codes "holds it in " ++ name_of m

-- the line of the parent that a request lacks
abbrev pub line_of_parent : MissedParent → List ℕ
line_of_parent p =
    codes "    needs " ++ name_of p.needed ++ codes " on " ++ text_of p.parent
    ++ codes ", and " ++ words_of_parent_held p.held ++ codes "\n"

-- the line of the parent, nothing for None
abbrev pub lines_of_missed : Option MissedParent → List ℕ
lines_of_missed None = []
lines_of_missed (Some p) = line_of_parent p

-- the line of a lock below the resource
abbrev pub line_of_lock_below : Claim → List ℕ
line_of_lock_below c = codes "    holds " ++ text_of c.resource ++ codes " in " ++ name_of c.mode ++ codes "\n"

-- the words before the resource of a request
abbrev pub request_word : ClaimKind → List ℕ
request_word Held = codes "for"
request_word Conversion = codes "to convert"
request_word Fresh = codes "for"

-- the word before the target of a request
abbrev pub target_word : ClaimKind → List ℕ
target_word Held = codes "in"
target_word Conversion = codes "to"
target_word Fresh = codes "in"

-- what a request asks for
abbrev pub words_of_request : Claim → List ℕ
words_of_request c =
    request_word c.kind ++ codes " " ++ text_of c.resource ++ codes " " ++ target_word c.kind ++ codes " " ++ name_of c.mode

-- the line of a request that waits or would wait, with these words at its start
abbrev pub line_of_request : List ℕ → Claim → List ℕ
line_of_request start c = start ++ words_of_request c ++ codes "\n"

-- the lock of a blocker, nothing if it doesn't conflict
abbrev pub words_of_holding : Option Mode → List ℕ
words_of_holding None = []
words_of_holding (Some m) = codes ", which holds it in " ++ name_of m

-- the words before a blocker's request ahead, which follow its lock, or the blocker if there is none
abbrev pub link_word : Option Mode → List ℕ
link_word None = codes ", which"
link_word (Some m) = codes " and"

-- the request ahead of a blocker that holds the resource in conflict in this mode, or doesn't; nothing if none is ahead
abbrev pub words_of_ahead : Option Mode → Option Mode → List ℕ
words_of_ahead held None = []
words_of_ahead held (Some m) = link_word held ++ codes " waits ahead for " ++ name_of m

-- the line of a session that a request waits for or would wait for, with these words at its start
abbrev pub line_of_blocker : List ℕ → Blocker → List ℕ
line_of_blocker start b =
    start ++ words_of_party b.party
    ++ words_of_holding b.held ++ words_of_ahead b.held b.ahead ++ codes "\n"

-- the lines of a request that would wait, and of the sessions that it would wait for
abbrev pub lines_of_asked : Claim → List Blocker → List ℕ
lines_of_asked q blockers =
    line_of_request (codes "  would begin to wait ") q ++ flat_map (line_of_blocker (codes "    would wait for ")) blockers

-- the lines of the request that would wait, nothing for None
abbrev pub lines_if_asked : Option Claim → List Blocker → List ℕ
lines_if_asked None blockers = []
lines_if_asked (Some q) blockers = lines_of_asked q blockers

-- the lines of a refusal: the reason, the parent lacked, the locks below the resource, and the request that would wait
abbrev pub lines_of_refusal : Refusal → List ℕ
lines_of_refusal f =
    line_of_why f.why ++ lines_of_missed f.missed ++ flat_map line_of_lock_below f.below.items
    ++ lines_if_asked f.request f.blockers.items

-- the lines of the refusal, nothing for None
abbrev pub refusal_part : Option Refusal → List ℕ
refusal_part None = []
refusal_part (Some f) = lines_of_refusal f

-- the line of a session on a cycle
abbrev pub line_of_member : Party → List ℕ
line_of_member p = codes "    " ++ words_of_party p ++ codes "\n"

-- the lines of the sessions on a cycle
abbrev pub lines_of_members : List Party → List ℕ
lines_of_members members = codes "  closes a cycle of waits, or several, through\n" ++ flat_map line_of_member members

-- a wait of one session on a cycle for another
abbrev pub words_of_edge : Edge → List ℕ
words_of_edge w = codes "session " ++ decimal w.session ++ codes " waits for session " ++ decimal w.other

-- the line of the wait
abbrev pub line_of_edge : Edge → List ℕ
line_of_edge w = codes "    " ++ words_of_edge w ++ codes "\n"

-- the lines of the waits of the sessions on a cycle
abbrev pub lines_of_edges : List Edge → List ℕ
lines_of_edges edges = codes "  where\n" ++ flat_map line_of_edge edges

-- the lines of the cycles that the request closed, nothing if it closed none
abbrev pub lines_of_cycle : List Party → List Edge → List ℕ
lines_of_cycle [] edges = []
lines_of_cycle (p ∷ ps) edges = lines_of_members (p ∷ ps) ++ lines_of_edges edges

-- the lines of a wait: the request, the sessions that it waits for, and the cycles that it closed
abbrev pub lines_of_wait : Wait → List ℕ
lines_of_wait w =
    line_of_request (codes "  begins to wait ") w.request ++ flat_map (line_of_blocker (codes "    waits for ")) w.blockers.items
    ++ lines_of_cycle w.cycle.items w.edges.items

-- the lines of the wait, nothing for None
abbrev pub wait_part : Option Wait → List ℕ
wait_part None = []
wait_part (Some w) = lines_of_wait w

-- the line of a deadlock victim
abbrev pub line_of_victim : Party → List ℕ
line_of_victim p = codes "  victim: " ++ words_of_party p ++ codes ", the youngest on a cycle\n"

-- the line of how many victims there are, nothing for one or none
abbrev pub count_of_victims : List Party → List ℕ
count_of_victims victims = if nat_lt 1 (length victims) then codes "  victims: " ++ decimal (length victims) ++ codes "\n" else []

-- a request with its session and transaction
abbrev pub words_of_owned : Claim → List ℕ
words_of_owned c =
    codes "session " ++ decimal c.session ++ codes ", transaction " ++ decimal c.transaction.number
    ++ codes ", " ++ words_of_request c

-- the line of a request of another session that was granted
abbrev pub line_of_granted : Claim → List ℕ
line_of_granted c = codes "  grants the request of " ++ words_of_owned c ++ codes "\n"

-- the line of the call's own request, if it was granted after its wait
abbrev pub own_part : Option Wait → List ℕ
own_part None = []
own_part (Some w) = if w.granted then codes "  then its own request is granted, since victims made room\n" else []

-- what the call did: the refusal, the wait, the victims with their number, the requests of others granted, and its own request granted after all
abbrev pub lines_of_explanation : Explanation → List ℕ
lines_of_explanation e =
    refusal_part e.refusal ++ wait_part e.wait ++ count_of_victims e.victims.items ++ flat_map line_of_victim e.victims.items
    ++ flat_map line_of_granted e.granted.items ++ own_part e.wait

-- the explanation as lines, one line if there is nothing to tell
abbrev pub text_of_explanation : Explanation → List ℕ
text_of_explanation e =
    if has_nothing_to_tell e then codes "  done at once; nothing changed for others\n" else lines_of_explanation e
