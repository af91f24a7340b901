-- The kinds of step: each is one atomic step on one word, the slot that it takes or lays down, and the change of a
-- view. A "look" is a plain load: it changes nothing, and tells what a lost exchange would tell.
--
--   kind            whose view      the word, and the slot
--   start           the session's   its record's state word is read; the session takes the slot
--   post            the session's   its record, EMPTY or OUT to POSTED, by a swap; the call goes into the slot
--   look at head    none            the head word is read
--   link            the session's   its own link, to the head as seen
--   enlist          the session's   the head word, from the head as seen to its number, by compare-exchange
--   look for reply  none            its record's state word is read
--   take            the session's   its record, SERVED to EMPTY or OUT, by compare-exchange; the reply leaves the slot
--   look at lock    none            the lock word is read
--   seize           the combiner's  the lock word, FREE to its number, by compare-exchange; the load leaves its slot
--   release         the combiner's  the lock word, to FREE; the load goes into its slot
--   walk            the combiner's  the head word is read, and the whole list is known
--   walk on         none            the link of a record on the list is read
--   unlink          the combiner's  the link of the record in front, to the one behind the unlinked record
--   mark out        the combiner's  the unlinked record's state word, EMPTY to OUT, by compare-exchange
--   relink          the combiner's  the link of the record in front, to the unlinked record again
--   look at record  none            a record's state word is read
--   open            the combiner's  a record, POSTED to BUSY, by compare-exchange; the call leaves the slot
--   lay             the combiner's  that record's state word is read; the slot goes home empty
--   pick            the combiner's  that record's state word is read; the slot is taken again
--   answer          the combiner's  that record, BUSY to SERVED; the reply goes into the slot; the history grows
--   put back        the combiner's  that record, BUSY to POSTED; the call goes into the slot
--   enter           the combiner's  the lock word is read; the history grows by a call of its own, which wasn't published
--   split copy      a new seat's    the lock word is read; the new seat has a copy of what another seat knows
--   split front     a new seat's    the lock word is read; the new seat has a copy of the front that another seat knows
--   join copy       the learner's   the lock word is read; the copy is joined into the seat, and ends
--   learn           the learner's   the lock word is read; the longer of both fronts is known to begin the history
--   compare         none            the lock word is read; the longer of both fronts has the session's calls
--   retire          the session's   its record, EMPTY or OUT to CLOSED
--   leave           the session's   its record's state word is read; its slot goes home for good
--   gather          the closing's   the lock word is read; the seat of a session that left is joined into it, and ends
use Rattle.std.specs.Prelude.{◌≡◌, ◌≢◌, ℕ, ◌+◌, ◌^◌, ◌<◌, ◌≤◌, max, nat_lt, ◌==◌, ◌||◌, cond, Bool, true, false, Option, Some, None, List, [], ◌∷◌, ◌++◌, length, slice_set, slice_index_or}
use Rattle.sequential.specs.Bounds.{Bounds}
use mathlib.Core.Option as opt
use mathlib.Core.List.{IsPrefix}
use lib.ListN.{get_elem?}
use Rattle.atomic_table.specs.Table.{Me, Step, rest}
use Rattle.std.specs.Global.{Box}
use Rattle.sequential.specs.declared.entry.Entry.{Entry}
use Rattle.sequential.specs.Histories.{Answered, calls_of}
use Rattle.sequential.specs.Linearizable.{Event, invocation, response}
use Rattle.publication.specs.Words.{session_of_word, END, FREE, POSTED, SERVED, CLOSED, EMPTY}
use Rattle.publication.specs.Pieces.{pieces_of, added}
use Rattle.publication.specs.Views.{Pending, Own, Combiner, Listing, Handed, Others, Taken, IsAccountedIn, entry, answer, asks}
use Rattle.publication.specs.Rule.{fresh, no_combiner, no_pieces, unwalked, apart, pieces_in, IsHome, announced, heard_of}
use Rattle.publication.specs.List.{IsOn, AreApart, head_of, behind, without, with_behind}
use Rattle.publication.specs.declared.piece.Piece.{Piece}
use Rattle.publication.specs.declared.view.View.{View}
use Rattle.publication.specs.declared.slot.Load.{Load}
use Rattle.publication.specs.declared.slot.SlotValue.{SlotValue}
use Rattle.publication.specs.declared.slot.SlotValue.TheVariants.{Empty, PostedCall, ServedReply, ObjectLoad}
use Rattle.sequential.specs.declared.object.Sequential.{Ghosts}

-- A seat's view, and the slots that the seat carries, each with its value.
abbrev pub Seated : Type 0 → Type 0 → Type 0 → Type 0
Seated O C R = Me (SlotValue O C R) (View C R)

-- What a step says of its seat before, the value that it found in the word (for a store, the value stored), and the
-- seat after.
abbrev pub Outcome : Type 0 → Type 0 → Type 0 → Type 1
Outcome O C R = (Seated O C R) → ℕ → Seated O C R → Type 0

-- A kind of step: what a step of this kind says, given its word and operands.
abbrev pub Kind : Type 0 → Type 0 → Type 0 → Type 1
Kind O C R = Step (SlotValue O C R) → Outcome O C R

module _ {C R : Type 0} where
  -- What a session that can publish knows of its own calls.
  abbrev pub own : Option (Pending C) → List (Answered C R) → Bool → List (ℕ × Event C R) → Own C R
  own pending collected listed log = record { started = true; retired = false; pending = pending; collected = collected; listed = listed; log = log }

module _ {C : Type 0} where
  -- The combiner's part of a view, after a step that puts no call back and enters none.
  abbrev pub combiner : Combiner C → Bool → List (Option C) → ℕ → Combiner C
  combiner c has_object opened hand = record { has_object = has_object; opened = opened; hand = hand; put_backs = c.put_backs; entered = c.entered }

module _ {C R : Type 0} where
  -- The view after a step of the session itself.
  abbrev pub as_session : View C R → List (Entry C R) → Own C R → List ℕ → Listing → View C R
  as_session v front o heard l = record { of = v.of; number = v.number; slots = v.slots; made = v.made; front = front; own = o; combiner = v.combiner; heard = heard; listing = l; others = v.others; pieces = v.pieces }

  -- The view after a step of the combiner.
  abbrev pub as_combiner : View C R → List (Entry C R) → Combiner C → Listing → View C R
  as_combiner v front c l = record { of = v.of; number = v.number; slots = v.slots; made = v.made; front = front; own = v.own; combiner = c; heard = v.heard; listing = l; others = v.others; pieces = v.pieces }

  -- The view with other pieces.
  abbrev pub with_pieces : View C R → Taken → View C R
  with_pieces v t = record { of = v.of; number = v.number; slots = v.slots; made = v.made; front = v.front; own = v.own; combiner = v.combiner; heard = v.heard; listing = v.listing; others = v.others; pieces = t }

-- The listing while no exchange of the head word is due: no head is noted.
abbrev pub forget_head : Listing → Listing
forget_head l = record { head_seen = None; route = l.route; off = l.off; before = l.before; tries = l.tries }

-- The listing after a try to exchange the head word, which counts: no head is noted.
abbrev pub tried_head : Listing → Listing
tried_head l = record { head_seen = None; route = l.route; off = l.off; before = l.before; tries = l.tries + 1 }

-- The listing of a session that has begun no walk: nothing is known of the publication list.
abbrev pub no_walk : Listing → Listing
no_walk l = record { head_seen = None; route = []; off = 0; before = 0; tries = l.tries }

module _ {C R : Type 0} where
  -- Start.

  -- The session owns its record's slot from now on.
  abbrev pub started : View C R → View C R
  started v = as_session v v.front (own None v.own.collected v.own.listed v.own.log) v.heard (forget_head v.listing)

module _ {O C R : Type 0} where
  -- Start: the session takes its record's slot, which is empty.
  abbrev pub starts : Kind O C R
  starts st m found n = n ≡ (started m.0, (m.0.number, Empty) ∷ m.1)

module _ {O C R : Type 0} where
  -- The session notes an event of its own, at some moment. The rule says at which.
  abbrev pub Notes : Seated O C R → Seated O C R → Event C R → Type 0
  Notes m n event = (moment : ℕ) × (n.0.own.log ≡ m.0.own.log ++ (moment, event) ∷ [])

module _ {O C R : Type 0} (obj : Ghosts O C R) where
  -- Post.

  -- The call in the slot taken last; any call if none is there.
  abbrev pub asked : List (ℕ × SlotValue O C R) → C
  asked [] = obj.any_call
  asked (x ∷ xs) = elim x.1 [ Empty ↦ obj.any_call | PostedCall call ↦ call | ServedReply place reply ↦ obj.any_call | ObjectLoad load ↦ obj.any_call ]

module _ {C R : Type 0} where
  -- The heard counts after the session counts its pending call as heard.
  abbrev pub heard_all : View C R → List ℕ
  heard_all v = slice_set v.heard v.number (length v.own.collected + 1)

  -- The call is pending, with the number of known entries as its floor. If the record was on the list, the call is
  -- listed and heard. The session's events are these then.
  abbrev pub posting : View C R → List (ℕ × Event C R) → C → Bool → View C R
  posting v log call listed = as_session v v.front (own (Some (asks call (length v.front))) v.own.collected listed log) (cond listed (heard_all v) v.heard) (forget_head v.listing)

module _ {O C R : Type 0} (obj : Ghosts O C R) where
  -- Post: the call in the slot is published. It is listed if the record was EMPTY. This is the invocation.
  abbrev pub posts : Kind O C R
  posts st m found n = (n ≡ (posting m.0 n.0.own.log (asked obj m.1) (found == EMPTY), rest m.1)) × Notes m n (invocation m.0.number (asked obj m.1))

-- Enlist a record: put it at the head of the publication list.

-- If the head word names a record, there is more than one session.
abbrev pub HasAnother : ℕ → ℕ → Type 0
HasAnother slots found = found ≢ END → 2 < slots

module _ {O C R : Type 0} where
  -- Look at head: nothing changes.
  abbrev pub looks_at_head : Kind O C R
  looks_at_head st m found n = (n ≡ m) × HasAnother st.slots found

module _ {C R : Type 0} where
  -- The session notes the head that it wrote into its link.
  abbrev pub linking : View C R → ℕ → View C R
  linking v head = as_session v v.front v.own v.heard (record { head_seen = Some head; route = v.listing.route; off = v.listing.off; before = v.listing.before; tries = v.listing.tries })

module _ {O C R : Type 0} where
  -- Link: the session writes the head as seen into its own link.
  abbrev pub links : Kind O C R
  links st m found n = n ≡ (linking m.0 st.first, m.1)

module _ {C R : Type 0} where
  -- The exchange of the head word was lost: one try more, and no head is noted.
  abbrev pub losing_head : View C R → View C R
  losing_head v = as_session v v.front v.own v.heard (tried_head v.listing)

  -- The exchange of the head word was won: one try more, and the pending call is listed and heard.
  abbrev pub enlisting : View C R → View C R
  enlisting v = as_session v v.front (record { started = v.own.started; retired = v.own.retired; pending = v.own.pending; collected = v.own.collected; listed = true; log = v.own.log }) (heard_all v) (tried_head v.listing)

module _ {O C R : Type 0} where
  -- Enlist: if the head word is still the head as seen, the record becomes the list's first; else the exchange is lost.
  abbrev pub enlists : Kind O C R
  enlists st m found n = (found ≡ st.first → n ≡ (enlisting m.0, m.1)) × (found ≢ st.first → (n ≡ (losing_head m.0, m.1)) × HasAnother st.slots found)

module _ {C R : Type 0} where
  -- Look for the reply, and take it.

  -- If a call is pending, its entry isn't in the history that the session knows.
  abbrev pub IsUnanswered : View C R → Type 0
  IsUnanswered v = v.own.pending ≢ None → length (calls_of v.number v.front) ≤ length v.own.collected

module _ {O C R : Type 0} where
  -- Look for reply: nothing changes. If the record isn't SERVED, the pending call's entry isn't in the known history.
  abbrev pub looks_for_reply : Kind O C R
  looks_for_reply st m found n = (n ≡ m) × (found ≢ SERVED → IsUnanswered m.0)

module _ {C R : Type 0} where
  -- The pending call is collected with its reply and place, and nothing is pending. The session's events are these then.
  abbrev pub taking : View C R → List (ℕ × Event C R) → List (Entry C R) → C → ℕ → R → View C R
  taking v log front call place reply = as_session v front (record { started = true; retired = v.own.retired; pending = None; collected = v.own.collected ++ answer place call reply ∷ []; listed = v.own.listed; log = log }) v.heard (forget_head v.listing)

module _ {O C R : Type 0} (obj : Ghosts O C R) where
  -- What a session learns with a reply: a legal front of the history that continues the known one, and ends with the
  -- call's entry if that is later; the entry, its call with this reply, at a place not below the floor; and that the
  -- session has now collected all its calls in that front.
  pub record Took (number : ℕ) (known : List (Entry C R)) (collected : List (Answered C R)) (call : C) (floor place : ℕ) (reply : R) (front : List (Entry C R)) : Type 0 where
    pub legal : obj.is_legal front
    pub short : length front < 2 ^ 64
    pub longer : IsPrefix known front
    pub long : length front ≡ max (length known) (place + 1)
    pub stands : get_elem? front place ≡ opt.some (entry number call reply)
    pub late : floor ≤ place
    pub calls : calls_of number front ≡ collected ++ answer place call reply ∷ []

module _ {O C R : Type 0} (obj : Ghosts O C R) where
  -- The pending call was answered with this reply at this place, and the session carries the slot again, with this
  -- value in it. This is the response.
  abbrev pub HasTaken : Seated O C R → Seated O C R → SlotValue O C R → ℕ → R → Type 0
  HasTaken m n held place reply = (call : C) × (floor : ℕ) × (front : List (Entry C R)) × (m.0.own.pending ≡ Some (asks call floor))
      × (n ≡ (taking m.0 n.0.own.log front call place reply, (m.0.number, held) ∷ m.1))
      × Took obj m.0.number m.0.front m.0.own.collected call floor place reply front × Notes m n (response m.0.number reply)

module _ {O C R : Type 0} (obj : Ghosts O C R) where
  -- Take: if the record is SERVED, the session takes the reply; else nothing changes.
  abbrev pub takes_reply : Kind O C R
  takes_reply st m found n = (found ≡ SERVED → (place : ℕ) × (reply : R) × HasTaken obj m n (ServedReply place reply) place reply)
      × (found ≢ SERVED → (n ≡ m) × IsUnanswered m.0)

module _ {C R : Type 0} where
  -- Look at the lock word, and seize the object.

  -- If the session isn't the combiner, there is more than one session.
  abbrev pub HasOthers : ℕ → View C R → Type 0
  HasOthers slots v = v.combiner.has_object ≡ false → 2 < slots

module _ {O C R : Type 0} where
  -- Look at lock: nothing changes. If the lock word isn't FREE, and the session isn't the combiner, there is more than
  -- one session.
  abbrev pub looks_at_lock : Kind O C R
  looks_at_lock st m found n = (n ≡ m) × (found ≢ FREE → HasOthers st.slots m.0)

module _ {C R : Type 0} where
  -- The session is the combiner, and knows the whole history, which is the object's, and all pieces of it that were taken.
  abbrev pub seizing : View C R → List (Entry C R) → List Piece → View C R
  seizing v front all = with_pieces (as_combiner v front (combiner v.combiner true v.combiner.opened 0) (no_walk v.listing)) (record { own = v.pieces.own; all = all })

module _ {O C R : Type 0} (obj : Ghosts O C R) where
  -- What a session learns when it becomes the combiner: it was not the combiner, the load is as it has to be at home,
  -- and the object's history is legal, continues the known front, and has the calls that the session collected, or those and
  -- its pending call; and of the pieces that were taken, those of the session are the ones that it took.
  pub record Seized (v : View C R) (slots : ℕ) (load : Load O C R) : Type 0 where
    pub lacked : v.combiner.has_object ≡ false
    pub home : IsHome obj (obj.history load.object) slots load
    pub legal : obj.is_legal (obj.history load.object)
    pub longer : IsPrefix v.front (obj.history load.object)
    pub accounted : IsAccountedIn (obj.history load.object) v.number v.own.collected v.own.pending
    pub pieces : v.pieces.own ≡ pieces_of v.number load.pieces.items

module _ {O C R : Type 0} (obj : Ghosts O C R) where
  -- Seize: if the lock word is FREE, the session takes the load; else nothing changes.
  abbrev pub seizes : Kind O C R
  seizes st m found n = (found ≡ FREE → (load : Box (Load O C R)) × (n ≡ (seizing m.0 (obj.history load.value.object) load.value.pieces.items, (0, ObjectLoad load) ∷ m.1)) × Seized obj m.0 st.slots load.value)
      × (found ≢ FREE → (n ≡ m) × HasOthers st.slots m.0)

module _ {O C R : Type 0} (obj : Ghosts O C R) where
  -- The object in the slot taken last keeps so much at most.
  abbrev pub CarriesBounded : Bounds → List (ℕ × SlotValue O C R) → Type 0
  CarriesBounded bound carried = (load : Box (Load O C R)) (more : List (ℕ × SlotValue O C R)) → carried ≡ (0, ObjectLoad load) ∷ more → obj.bound load.value.object ≡ bound

  -- Seize, on a board whose object keeps so much at most.
  abbrev pub seizes_within : Bounds → Kind O C R
  seizes_within bound st m found n = seizes obj st m found n × (found ≡ FREE → CarriesBounded bound n.1)

module _ {C R : Type 0} where
  -- Release.

  -- The session isn't the combiner any more. The pieces that it took meanwhile are its own.
  abbrev pub releasing : View C R → List Piece → View C R
  releasing v all = with_pieces (as_combiner v v.front (combiner v.combiner false v.combiner.opened 0) (no_walk v.listing)) (record { own = v.pieces.own ++ added v.pieces.all all; all = [] })

module _ {O C R : Type 0} where
  -- The pieces that are noted in the load in the slot taken last; none if no load is there.
  abbrev pub noted : List (ℕ × SlotValue O C R) → List Piece
  noted [] = []
  noted (x ∷ xs) = pieces_in (opt.some x.1)

  -- Release: the load goes back into the lock's slot.
  abbrev pub releases : Kind O C R
  releases st m found n = n ≡ (releasing m.0 (noted m.1), rest m.1)

module _ {C R : Type 0} where
  -- Walk the publication list.

  -- The view with this route.
  abbrev pub routing : View C R → List ℕ → View C R
  routing v route = as_session v v.front v.own v.heard (record { head_seen = v.listing.head_seen; route = route; off = v.listing.off; before = v.listing.before; tries = v.listing.tries })

-- Each record that the walk meets is a session's, and is met once.
pub record IsRoute (slots : ℕ) (route : List ℕ) : Type 0 where
  pub apart : AreApart route
  pub within : (q : ℕ) → IsOn q route → (0 < q) × (q < slots)

module _ {C R : Type 0} where
  -- If the seat has heard of a call of session j that isn't in the known history, the walk meets record j.
  abbrev pub MeetsAll : ℕ → View C R → List ℕ → Type 0
  MeetsAll slots v route = (j : ℕ) → 0 < j → j < slots → length (calls_of j v.front) < heard_of v j → IsOn j route

module _ {O C R : Type 0} where
  -- Walk: the head word names the first record of a route, which meets every record that it has to.
  abbrev pub walks : Kind O C R
  walks st m found n = (route : List ℕ) × (n ≡ (routing m.0 route, m.1)) × (found ≡ head_of route) × IsRoute st.slots route × MeetsAll st.slots m.0 route

  -- Walk on from q: the link of q names the next record of the route.
  abbrev pub walks_on_from : ℕ → ℕ → Outcome O C R
  walks_on_from slots q m found n = (n ≡ m) × (found ≡ head_of (behind q m.0.listing.route)) × IsRoute slots m.0.listing.route

  -- Walk on, from the record whose link is read.
  abbrev pub walks_on : Kind O C R
  walks_on st = walks_on_from st.slots (session_of_word st.word)

module _ {C R : Type 0} where
  -- Unlink a record, and mark it OUT or link it again.

  -- The record behind `before` is unlinked, and noted as `off`.
  abbrev pub bypassing : View C R → ℕ → View C R
  bypassing v before = as_session v v.front v.own v.heard
      (record { head_seen = v.listing.head_seen; route = without before v.listing.route; off = head_of (behind before v.listing.route); before = before; tries = v.listing.tries })

module _ {O C R : Type 0} where
  -- Unlink the record behind `before`.
  abbrev pub unlinks_behind : ℕ → Outcome O C R
  unlinks_behind before m found n = n ≡ (bypassing m.0 before, m.1)

  -- Unlink, behind the record whose link is written.
  abbrev pub unlinks : Kind O C R
  unlinks st = unlinks_behind (session_of_word st.word)

module _ {C R : Type 0} where
  -- No record is noted as unlinked.
  abbrev pub none_unlinked : View C R → View C R
  none_unlinked v = as_session v v.front v.own v.heard (record { head_seen = v.listing.head_seen; route = v.listing.route; off = 0; before = 0; tries = v.listing.tries })

module _ {O C R : Type 0} where
  -- Mark out: if the record was EMPTY or CLOSED, it is off the list for good; else nothing changes.
  abbrev pub marks_out : Kind O C R
  marks_out st m found n = (found ≡ EMPTY → n ≡ (none_unlinked m.0, m.1)) × (found ≡ CLOSED → n ≡ (none_unlinked m.0, m.1)) × (found ≢ EMPTY → found ≢ CLOSED → n ≡ m)

module _ {C R : Type 0} where
  -- The unlinked record is on the list again, where it was.
  abbrev pub relinking : View C R → View C R
  relinking v = as_session v v.front v.own v.heard (record { head_seen = v.listing.head_seen; route = with_behind v.listing.before v.listing.off v.listing.route; off = 0; before = 0; tries = v.listing.tries })

module _ {O C R : Type 0} where
  -- Relink: the link in front names the unlinked record again.
  abbrev pub relinks : Kind O C R
  relinks st m found n = n ≡ (relinking m.0, m.1)

module _ {C R : Type 0} where
  -- Look at a record, and open it.

  -- The call that the combiner has opened in record j, if it has.
  abbrev pub opened_in : View C R → ℕ → Option C
  opened_in v j = slice_index_or v.combiner.opened j None

  -- Unless record j is opened: the calls of session j that were heard of are in the known history, and so is the
  -- combiner's own pending call if j is its record.
  abbrev pub HasEntered : View C R → ℕ → Type 0
  HasEntered v j = opened_in v j ≡ None → (heard_of v j ≤ length (calls_of j v.front)) × (v.number ≡ j → v.own.pending ≢ None → length v.own.collected < length (calls_of j v.front))

module _ {O C R : Type 0} where
  -- Look at record j: nothing changes. If no call is posted there, the calls of its session are entered.
  abbrev pub looks_at : ℕ → Outcome O C R
  looks_at j m found n = (n ≡ m) × (found ≢ POSTED → HasEntered m.0 j)

  -- Look at the record whose state word is read.
  abbrev pub looks_at_record : Kind O C R
  looks_at_record st = looks_at (session_of_word st.word)

module _ {C R : Type 0} where
  -- Record j is opened with this call, and its slot is in the combiner's hand.
  abbrev pub opening : View C R → ℕ → C → View C R
  opening v j call = as_combiner v v.front (combiner v.combiner true (slice_set v.combiner.opened j (Some call)) j) v.listing

  -- What a combiner learns when it opens record j: it had not opened it before; of session j it had heard of at most
  -- one call that isn't in the history; and if the record is its own, it had collected all its calls in the history.
  pub record Opened (v : View C R) (j : ℕ) (call : C) : Type 0 where
    pub lacked : opened_in v j ≡ None
    pub call_is : opened_in (opening v j call) j ≡ Some call
    pub heard : heard_of v j ≤ length (calls_of j v.front) + 1
    pub own : v.number ≡ j → length v.own.collected ≡ length (calls_of j v.front)

module _ {O C R : Type 0} where
  -- Open record j: if a call is posted there, the combiner takes it; else nothing changes.
  abbrev pub opens_record : ℕ → Outcome O C R
  opens_record j m found n = (found ≡ POSTED → (call : C) × (n ≡ (opening m.0 j call, (j, PostedCall call) ∷ m.1)) × Opened m.0 j call)
      × (found ≢ POSTED → (n ≡ m) × HasEntered m.0 j)

  -- Open the record whose state word is exchanged.
  abbrev pub opens : Kind O C R
  opens st = opens_record (session_of_word st.word)

module _ {C R : Type 0} where
  -- Lay the slot of an opened record down, and pick it up again.

  -- The slot of record j is in the combiner's hand; with j = 0, none is.
  abbrev pub in_hand : View C R → ℕ → View C R
  in_hand v j = as_combiner v v.front (combiner v.combiner true v.combiner.opened j) v.listing

module _ {O C R : Type 0} where
  -- Lay: the slot in hand goes home. A seat reaches only the slot that it took last, so the combiner lays each slot
  -- down at once.
  abbrev pub lays : Kind O C R
  lays st m found n = n ≡ (in_hand m.0 0, rest m.1)

  -- Pick record j's slot: it is in hand again, empty.
  abbrev pub picks_slot : ℕ → Outcome O C R
  picks_slot j m found n = n ≡ (in_hand m.0 j, (j, Empty) ∷ m.1)

  -- Pick the slot of the record whose state word is read.
  abbrev pub picks : Kind O C R
  picks st = picks_slot (session_of_word st.word)

module _ {O C R : Type 0} (obj : Ghosts O C R) where
  -- Answer the call of the record whose slot is in hand.

  -- The call, or any if there is none, a value that nothing relies on.
  abbrev pub called : Option C → C
  called None = obj.any_call
  called (Some call) = call

module _ {O C R : Type 0} (obj : Ghosts O C R) where
  -- The call opened in record j.
  abbrev pub call_at : View C R → ℕ → C
  call_at v j = called obj (opened_in v j)

module _ {O C R : Type 0} (obj : Ghosts O C R) where
  -- The reply in the slot taken last; any reply if none is there.
  abbrev pub replied : List (ℕ × SlotValue O C R) → R
  replied [] = obj.any_reply
  replied (x ∷ xs) = elim x.1 [ Empty ↦ obj.any_reply | PostedCall call ↦ obj.any_reply | ServedReply place reply ↦ reply | ObjectLoad load ↦ obj.any_reply ]

module _ {C R : Type 0} where
  -- The combiner's part of a view, with one place more that it entered: the end of the known history.
  abbrev pub with_entered : View C R → Combiner C → Combiner C
  with_entered v c = record { has_object = c.has_object; opened = c.opened; hand = c.hand; put_backs = c.put_backs; entered = c.entered ++ length v.front ∷ [] }

  -- The call's entry is the last of the known history, its place is entered, and record j isn't opened any more.
  abbrev pub answering : View C R → ℕ → C → R → View C R
  answering v j call reply = as_combiner v (v.front ++ entry j call reply ∷ []) (with_entered v (combiner v.combiner true (slice_set v.combiner.opened j None) 0)) v.listing

module _ {O C R : Type 0} (obj : Ghosts O C R) where
  -- Answer: the call of the record in hand is answered with the reply in its slot. The longer history has the calls that the
  -- combiner collected, or those and its pending call.
  abbrev pub answers : Kind O C R
  answers st m found n = (n ≡ (answering m.0 m.0.combiner.hand (call_at obj m.0 m.0.combiner.hand) (replied obj m.1), rest m.1))
      × IsAccountedIn n.0.front n.0.number n.0.own.collected n.0.own.pending

module _ {C R : Type 0} where
  -- Put back the call of the record whose slot is in hand.

  -- Record j isn't opened any more, and one call more was put back.
  abbrev pub putting_back : View C R → ℕ → View C R
  putting_back v j = as_combiner v v.front (record { has_object = true; opened = slice_set v.combiner.opened j None; hand = 0; put_backs = v.combiner.put_backs + 1; entered = v.combiner.entered }) v.listing

module _ {O C R : Type 0} where
  -- Put back: the call of the record in hand is posted again, and the history stays as it is.
  abbrev pub puts_back : Kind O C R
  puts_back st m found n = n ≡ (putting_back m.0 m.0.combiner.hand, rest m.1)

module _ {C R : Type 0} where
  -- Direct entry: the combiner enters a call of its own into the history, without its record. Publish, answer and take are
  -- one step.

  -- The call's entry is the last of the known history, its place is entered, and its answer is collected. The session's events
  -- are these then.
  abbrev pub entering : View C R → List (ℕ × Event C R) → C → R → View C R
  entering v log call reply = record {
    of = v.of;
    number = v.number;
    slots = v.slots;
    made = v.made;
    front = v.front ++ entry v.number call reply ∷ [];
    own = record { started = v.own.started; retired = v.own.retired; pending = v.own.pending; collected = v.own.collected ++ answer (length v.front) call reply ∷ []; listed = v.own.listed; log = log };
    combiner = with_entered v v.combiner;
    heard = v.heard;
    listing = v.listing;
    others = v.others;
    pieces = v.pieces;
  }

module _ {O C R : Type 0} where
  -- Enter this call with this reply: the session has collected all its calls in the longer history. This is the invocation, and
  -- right behind it the response.
  abbrev pub enters : C → R → Kind O C R
  enters call reply st m found n = (n ≡ (entering m.0 n.0.own.log call reply, m.1)) × (calls_of m.0.number n.0.front ≡ n.0.own.collected)
      × ((moment : ℕ) × (n.0.own.log ≡ m.0.own.log ++ (moment, invocation m.0.number call) ∷ (moment + 1, response m.0.number reply) ∷ []))

  -- The same, where the call and the reply are named; a step that names none says nothing.
  abbrev pub enters_named : Option C → Option R → Kind O C R
  enters_named (Some call) (Some reply) st m found n = enters call reply st m found n
  enters_named _ _ st m found n = Unit {0}

module _ {C R : Type 0} where
  -- Hear what another seat knows: a copy is split off that seat and joined into the hearing one, and a load then shows
  -- which front is the longer.

  -- The view after a seat learned from another.
  abbrev pub as_hearer : View C R → List (Entry C R) → List ℕ → Others C R → View C R
  as_hearer v front heard others = record { of = v.of; number = v.number; slots = v.slots; made = v.made; front = front; own = v.own; combiner = v.combiner; heard = heard; listing = v.listing; others = others; pieces = v.pieces }

  -- A new seat that knows the front of the history that this one knows, these numbers of published calls, and nothing else.
  abbrev pub copy_with : View C R → List ℕ → View C R
  copy_with v heard = record { of = record {}; number = 0; slots = 0; made = 0; front = v.front; own = fresh; combiner = no_combiner 0; heard = heard; listing = unwalked; others = apart true; pieces = no_pieces }

  -- A new seat that knows what this one does of the history and of what is published.
  abbrev pub copy_of : View C R → View C R
  copy_of v = copy_with v v.heard

  -- A new seat that knows the front of the history that this one knows.
  abbrev pub front_copy_of : View C R → View C R
  front_copy_of v = copy_with v []

-- The larger element at each index.
abbrev pub maxes : List ℕ → List ℕ → List ℕ
maxes [] ys = ys
maxes (x ∷ xs) [] = x ∷ xs
maxes (x ∷ xs) (y ∷ ys) = max x y ∷ maxes xs ys

module _ {C R : Type 0} where
  -- The seat counts as heard the larger number for each session, and notes the other's front beside its own.
  abbrev pub joined : View C R → View C R → View C R
  joined v w = as_hearer v v.front (maxes v.heard w.heard) (record { all_made = v.others.all_made || w.others.all_made; beside = w.front; handed = v.others.handed; logs = v.others.logs })

  -- The longer of two fronts of the history; the first if both are as long.
  abbrev pub longer : List (Entry C R) → List (Entry C R) → List (Entry C R)
  longer f g = cond (nat_lt (length f) (length g)) g f

  -- The seat knows the longer of both fronts.
  abbrev pub learning : View C R → View C R
  learning v = as_hearer v (longer v.front v.others.beside) v.heard v.others

module _ {O C R : Type 0} (obj : Ghosts O C R) where
  -- What a seat learns from another: the longer front is legal and continues both fronts; it has the calls that the session
  -- collected, or those and its pending call, if the known front has; and nobody has heard of more calls of this session
  -- than it has announced.
  pub record Learned (v : View C R) : Type 0 where
    pub legal : obj.is_legal (longer v.front v.others.beside)
    pub short : length (longer v.front v.others.beside) < 2 ^ 64
    pub mine : IsPrefix v.front (longer v.front v.others.beside)
    pub theirs : IsPrefix v.others.beside (longer v.front v.others.beside)
    pub accounted : IsAccountedIn v.front v.number v.own.collected v.own.pending → IsAccountedIn (longer v.front v.others.beside) v.number v.own.collected v.own.pending
    pub heard : heard_of v v.number ≤ announced v.own

module _ {O C R : Type 0} (obj : Ghosts O C R) where
  -- Learn: the load that follows a join.
  abbrev pub learns : Kind O C R
  learns st m found n = (n ≡ (learning m.0, m.1)) × Learned obj m.0

module _ {C R : Type 0} where
  -- All three steps: split copy, join copy, learn.
  abbrev pub hearing : View C R → View C R → View C R
  hearing v w = learning (joined v (copy_of w))

module _ {O C R : Type 0} where
  -- Compare: nothing changes. If the known front has the calls that the session collected, or those and its pending call, so
  -- has the longer of its front and the one beside it.
  abbrev pub compares : Kind O C R
  compares st m found n = (n ≡ m) × (IsAccountedIn m.0.front m.0.number m.0.own.collected m.0.own.pending
      → IsAccountedIn (longer m.0.front m.0.others.beside) m.0.number m.0.own.collected m.0.own.pending)

module _ {C R : Type 0} where
  -- The seat after it compared another's front with its own: it notes that front beside its own, and learns nothing else.
  abbrev pub comparing : View C R → View C R → View C R
  comparing v w = as_hearer v v.front v.heard (record { all_made = v.others.all_made || true; beside = w.front; handed = v.others.handed; logs = v.others.logs })

  -- Retire.

  -- The session publishes no more calls.
  abbrev pub retiring : View C R → View C R
  retiring v = as_session v v.front (record { started = true; retired = true; pending = None; collected = v.own.collected; listed = v.own.listed; log = v.own.log }) v.heard (forget_head v.listing)

module _ {O C R : Type 0} where
  -- Retire: the record is CLOSED, and the session keeps its slot.
  abbrev pub retires : Kind O C R
  retires st m found n = n ≡ (retiring m.0, m.1)

module _ {C R : Type 0} where
  -- Leave, and gather who left.

  -- The session doesn't own its record's slot any more.
  abbrev pub leaving : View C R → View C R
  leaving v = as_session v v.front (record { started = false; retired = v.own.retired; pending = None; collected = v.own.collected; listed = v.own.listed; log = v.own.log }) v.heard (forget_head v.listing)

module _ {O C R : Type 0} where
  -- Leave: the session's slot goes home, empty.
  abbrev pub leaves : Kind O C R
  leaves st m found n = n ≡ (leaving m.0, rest m.1)

module _ {C R : Type 0} where
  -- What the closing seat keeps of a session that is handed in.
  abbrev pub handed_in : View C R → Handed C R
  handed_in w = record { number = w.number; collected = w.own.collected; front = w.front; pieces = w.pieces.own; entered = w.combiner.entered }

  -- The session is added to those that were handed in.
  abbrev pub gathered : View C R → View C R → View C R
  gathered v w = as_hearer v v.front v.heard (record { all_made = v.others.all_made; beside = v.others.beside; handed = v.others.handed ++ handed_in w ∷ []; logs = v.others.logs ++ (w.number, w.own.log) ∷ [] })
