-- The rule of the publication records, which holds between any two atomic steps. Number 0 is the lock's, number i is
-- that of session i's record; each has a state word and a slot. A slot is a place for one value: the value is at home
-- in the table, or out with the one seat that took it. List.antt has the rule of the publication list.
use Rattle.std.specs.Prelude.{◌≡◌, ◌≢◌, ℕ, ◌+◌, ◌^◌, ◌<◌, ◌≤◌, ◌⊎◌, nat_le, ◌&&◌, Bool, true, false, cond, is_some, Option, Some, None, List, [], ◌∷◌, ◌++◌, length, map, slice_index, slice_index_or, replicate, vec_len, vec_capacity, All}
use mathlib.Core.Option as opt
use mathlib.Core.List.{IsPrefix}
use lib.ListN.{get_elem?}
use Rattle.atomic_table.specs.Table.{State}
use Rattle.std.specs.Global.{Box}
use Rattle.sequential.specs.declared.trimmed_list.TheConstants.{NO_BOUND}
use Rattle.sequential.specs.declared.entry.Entry.{Entry}
use Rattle.sequential.specs.Histories.{calls_of}
use Rattle.sequential.specs.Linearizable.{Event, Calls, calls_in, IsWellFormed, IsLinearization}
use Rattle.publication.specs.Words.{word_of, FREE, OUT, POSTED, BUSY, SERVED, CLOSED, EMPTY}
use Rattle.publication.specs.Moments.{noted_by}
use Rattle.publication.specs.Pieces.{pieces_of, AreInOrder, AreInARow}
use Rattle.publication.specs.Views.{Pending, Own, Combiner, Listing, Handed, Others, Taken, entry, answer, asks}
use Rattle.publication.specs.declared.piece.Piece.{Piece}
use Rattle.publication.specs.declared.view.View.{View}
use Rattle.publication.specs.declared.slot.Load.{Load}
use Rattle.publication.specs.declared.slot.SlotValue.{SlotValue}
use Rattle.publication.specs.declared.slot.SlotValue.TheVariants.{Empty, PostedCall, ServedReply, ObjectLoad}
use Rattle.sequential.specs.declared.object.Sequential.{Ghosts}

module _ {C R : Type 0} where
  -- What seats know at first.

  -- A session that hasn't taken its first step: nothing published.
  abbrev pub fresh : Own C R
  fresh = record { started = false; retired = false; pending = None; collected = []; listed = false; log = [] }

module _ {C : Type 0} where
  -- A session that isn't the combiner, and has opened no record.
  abbrev pub no_combiner : ℕ → Combiner C
  no_combiner slots = record { has_object = false; opened = replicate slots None; hand = 0; put_backs = 0; entered = [] }

-- Nothing is known of the publication list.
abbrev pub unwalked : Listing
unwalked = record { head_seen = None; route = []; off = 0; before = 0; tries = 0 }

-- A session that has taken no piece of the history, and isn't the combiner.
abbrev pub no_pieces : Taken
no_pieces = record { own = []; all = [] }

module _ {C R : Type 0} where
  -- Nothing is known of other seats except whether all sessions are made.
  abbrev pub apart : Bool → Others C R
  apart all_made = record { all_made = all_made; beside = []; handed = []; logs = [] }

  -- The first seat, which makes the sessions, after it has made `made` of them.
  abbrev pub maker : ℕ → ℕ → View C R
  maker slots made = record { of = record {}; number = 0; slots = slots; made = made; front = []; own = fresh; combiner = no_combiner 0; heard = []; listing = unwalked; others = apart (nat_le slots (made + 1)); pieces = no_pieces }

  -- The view of a seat that doesn't exist, or was joined into another.
  abbrev pub blank : View C R
  blank = record { of = record {}; number = 0; slots = 0; made = 0; front = []; own = fresh; combiner = no_combiner 0; heard = []; listing = unwalked; others = apart false; pieces = no_pieces }

  -- The seat of a session that was just made.
  abbrev pub new_session : ℕ → ℕ → View C R
  new_session slots number = record { of = record {}; number = number; slots = slots; made = 0; front = []; own = fresh; combiner = no_combiner slots; heard = replicate slots 0; listing = unwalked; others = apart false; pieces = no_pieces }

-- Parts of the board's state.

-- The board as plain data: its words, the values at home in its slots, and the views of its seats.
abbrev pub BoardState : Type 0 → Type 0 → Type 0 → Type 0
BoardState O C R = State (SlotValue O C R) (View C R)

module _ {O C R : Type 0} where
  -- The lock word (i = 0), or the state word of record i.
  abbrev pub word : BoardState O C R → ℕ → ℕ
  word s i = slice_index s.words (word_of i)

  -- The value at home in slot i; none while a seat has taken the slot.
  abbrev pub home : BoardState O C R → ℕ → opt.Option (SlotValue O C R)
  home s i = slice_index_or s.homes i opt.none

  -- The view of seat k. Seat 0 makes the sessions, and seat i is session i's.
  abbrev pub seat : BoardState O C R → ℕ → View C R
  seat s k = slice_index_or s.views k blank

module _ {C R : Type 0} where
  -- What session j knows of its own calls.
  abbrev pub own_at : List (Own C R) → ℕ → Own C R
  own_at owns j = slice_index_or owns j fresh

  -- How many calls of a session other sessions may have heard of: all that it published or entered directly, without a
  -- pending call that isn't listed.
  abbrev pub announced : Own C R → ℕ
  announced o = length o.collected + cond (is_some o.pending && o.listed) 1 0

  -- How many calls of session j the view's seat knows to be published.
  abbrev pub heard_of : View C R → ℕ → ℕ
  heard_of v j = slice_index v.heard j

module _ {O C R : Type 0} where
  -- The states of session i's record, given the history h, the record's state word w, the value at home in its slot, and
  -- what the session knows of its own calls.

  module _ (h : List (Entry C R)) (i w : ℕ) (slot : opt.Option (SlotValue O C R)) (own : Own C R) where
    -- EMPTY or OUT: no call is pending, and all calls of the session in the history are collected. The slot is out
    -- while the session is `started`, else at home and empty.
    pub record IsVacant : Type 0 where
      pub is : (w ≡ EMPTY) ⊎ (w ≡ OUT)
      pub none : own.pending ≡ None
      pub out : own.started ≡ true → slot ≡ opt.none
      pub empty_slot : own.started ≡ false → slot ≡ opt.some Empty
      pub publishes : own.retired ≡ false
      pub calls : calls_of i h ≡ own.collected

    -- POSTED: the slot holds the pending call, which isn't in the history.
    pub record IsPosted (call : C) (floor : ℕ) : Type 0 where
      pub is : w ≡ POSTED
      pub some : own.pending ≡ Some (asks call floor)
      pub asked : slot ≡ opt.some (PostedCall call)
      pub early : floor ≤ length h
      pub publishes : own.retired ≡ false
      pub calls : calls_of i h ≡ own.collected

    -- BUSY: the combiner has the pending call, which isn't in the history.
    pub record IsBusy (call : C) (floor : ℕ) : Type 0 where
      pub is : w ≡ BUSY
      pub some : own.pending ≡ Some (asks call floor)
      pub early : floor ≤ length h
      pub publishes : own.retired ≡ false
      pub calls : calls_of i h ≡ own.collected

    -- SERVED: the slot holds the reply and the place of the pending call's entry, which is the session's last entry in
    -- the history and the only one not collected.
    pub record IsServed (call : C) (floor place : ℕ) (reply : R) : Type 0 where
      pub is : w ≡ SERVED
      pub some : own.pending ≡ Some (asks call floor)
      pub replied : slot ≡ opt.some (ServedReply place reply)
      pub stands : get_elem? h place ≡ opt.some (entry i call reply)
      pub late : floor ≤ place
      pub publishes : own.retired ≡ false
      pub calls : calls_of i h ≡ own.collected ++ answer place call reply ∷ []

    -- CLOSED: the session publishes no more calls, none is pending, and all its calls in the history are collected. The
    -- slot is out while the session is `started`, else at home and empty.
    pub record IsRetired : Type 0 where
      pub is : w ≡ CLOSED
      pub none : own.pending ≡ None
      pub out : own.started ≡ true → slot ≡ opt.none
      pub empty_slot : own.started ≡ false → slot ≡ opt.some Empty
      pub retired : own.retired ≡ true
      pub calls : calls_of i h ≡ own.collected

  -- Each record is in one of these states.
  pub data RecordState (h : List (Entry C R)) (i w : ℕ) (slot : opt.Option (SlotValue O C R)) (own : Own C R) : Type 0 where
    vacant : IsVacant h i w slot own → RecordState h i w slot own
    posted : (call : C) (floor : ℕ) → IsPosted h i w slot own call floor → RecordState h i w slot own
    busy : (call : C) (floor : ℕ) → IsBusy h i w slot own call floor → RecordState h i w slot own
    served : (call : C) (floor place : ℕ) (reply : R) → IsServed h i w slot own call floor place reply → RecordState h i w slot own
    retired : IsRetired h i w slot own → RecordState h i w slot own

module _ {O C R : Type 0} (obj : Ghosts O C R) where
  -- The object, and the opened records.

  -- A load that may go back into the lock's slot: the object has this history and one session fewer than there are slots,
  -- the row is empty and has room for one item a session, there is one age a session, none of them beyond the number of
  -- passes, and the pieces of the history that were taken follow one another up to the place before which entries were let go:
  -- without a gap if the object has no bound of lines, since then nothing is let go but what is taken.
  pub record IsHome (h : List (Entry C R)) (slots : ℕ) (l : Load O C R) : Type 0 where
    pub history : (obj.history l.object) ≡ h
    pub sessions : (obj.sessions l.object) + 1 ≡ slots
    pub empty : vec_len l.row ≡ 0
    pub room : (obj.sessions l.object) ≤ vec_capacity l.row
    pub ages : vec_len l.ages ≡ (obj.sessions l.object)
    pub past : (i : ℕ) → slice_index l.ages.items i ≤ l.passes
    pub pieces : AreInOrder 0 l.pieces.items (obj.cut l.object)
    pub in_a_row : (obj.bound l.object).lines ≡ NO_BOUND → AreInARow 0 l.pieces.items (obj.cut l.object)

module _ {C R : Type 0} where
  -- Session k is the combiner: the lock word is its number, and it knows the whole history.
  pub record HasObject (h : List (Entry C R)) (lock k : ℕ) (v : View C R) : Type 0 where
    pub lock_is : lock ≡ k
    pub session : 0 < k
    pub named : v.number ≡ k
    pub whole : v.front ≡ h

module _ {O C R : Type 0} where
  -- The combiner has opened record j with this call: the record is BUSY, its session waits for this call, and the slot
  -- is in the combiner's hand, or at home and empty.
  pub record IsOpened (s : BoardState O C R) (owns : List (Own C R)) (c : Combiner C) (j : ℕ) (call : C) : Type 0 where
    pub object : c.has_object ≡ true
    pub record_of : 0 < j
    pub is_busy : word s j ≡ BUSY
    pub call_of : (floor : ℕ) × ((own_at owns j).pending ≡ Some (asks call floor))
    pub empty_slot : c.hand ≢ j → home s j ≡ opt.some Empty

module _ {C R : Type 0} where
  -- Seats and sessions.

  -- Seat k is session k's, and its view has what the session knows of its own calls.
  pub record IsSession (slots : ℕ) (owns : List (Own C R)) (k : ℕ) (v : View C R) : Type 0 where
    pub own_is : v.own ≡ own_at owns k
    pub is : v.number ≡ k
    pub small : k < slots
    pub wide : length v.combiner.opened ≡ slots

  -- Seat 0 is no session's. It has made one session for each further seat, until all are made.
  pub record IsMaker (slots seats : ℕ) (v : View C R) : Type 0 where
    pub slots_are : v.slots ≡ slots
    pub number : v.number ≡ 0
    pub none : v.combiner ≡ no_combiner 0
    pub there : 0 < seats
    pub some_slot : 0 < slots
    pub made : v.made + 1 < slots → v.made + 1 ≡ seats

module _ {O C R : Type 0} where
  -- What a seat knows of other seats.

  -- A session that was handed in has no seat left and no call pending; it collected these answers, and the front that
  -- it knew begins the history.
  pub record IsHanded (h : List (Entry C R)) (s : BoardState O C R) (slots : ℕ) (owns : List (Own C R)) (x : Handed C R) : Type 0 where
    pub some : 0 < x.number
    pub small : x.number < slots
    pub there : x.number < length s.views
    pub gone : (seat s x.number).number ≡ 0
    pub settled : (own_at owns x.number).pending ≡ None
    pub collected : (own_at owns x.number).collected ≡ x.collected
    pub begins : IsPrefix x.front h

  -- What a seat knows of others is true: if it says that all sessions are made, there is a seat for each; the front
  -- learned from another seat begins the history; each session that it says was handed in was; and of these it has the logs.
  pub record AreTrue (h : List (Entry C R)) (s : BoardState O C R) (slots : ℕ) (owns : List (Own C R)) (others : Others C R) : Type 0 where
    pub all_made : others.all_made ≡ true → slots ≤ length s.views
    pub beside : IsPrefix others.beside h
    pub handed : (p : ℕ) (x : Handed C R) → get_elem? others.handed p ≡ opt.some x → IsHanded h s slots owns x
    pub logged : others.logs ≡ map (λ x. (x.number, (own_at owns x.number).log)) others.handed

module _ {C R : Type 0} where
  -- The pieces of the history that sessions took.

  -- What a seat knows of the pieces is true: a session's own pieces are those that it took; so are those of the sessions
  -- handed in to it; and the combiner knows all.
  pub record HasPieces (all : List Piece) (v : View C R) : Type 0 where
    pub own : v.number ≢ 0 → v.pieces.own ≡ pieces_of v.number all
    pub handed : (p : ℕ) (x : Handed C R) → get_elem? v.others.handed p ≡ opt.some x → x.pieces ≡ pieces_of x.number all
    pub known : v.combiner.has_object ≡ true → v.pieces.all ≡ all

module _ {O C R : Type 0} where
  -- The pieces that are noted in the load in a slot; none if no load is there.
  abbrev pub pieces_in : opt.Option (SlotValue O C R) → List Piece
  pieces_in opt.none = []
  pieces_in (opt.some Empty) = []
  pieces_in (opt.some (PostedCall call)) = []
  pieces_in (opt.some (ServedReply place reply)) = []
  pieces_in (opt.some (ObjectLoad load)) = load.value.pieces.items

-- The piece was taken by a session of the board, and one that is made.
abbrev pub IsOfSession : ℕ → ℕ → Piece → Type 0
IsOfSession slots seats p = (0 < p.session) × (p.session < slots) × (p.session < seats)

module _ {O C R : Type 0} where
  -- What holds of the pieces between any two atomic steps.
  pub record ArePieces (slots : ℕ) (s : BoardState O C R) : Type 0 where
    -- all pieces that were taken, in order
    pub all : List Piece
    -- each was taken by a session
    pub within : All (IsOfSession slots (length s.views)) all
    -- what each seat knows of them is true
    pub seats : (k : ℕ) → HasPieces all (seat s k)
    -- lock word FREE: the load notes them
    pub home : word s 0 ≡ FREE → pieces_in (home s 0) ≡ all

module _ {O C R : Type 0} where
  -- That no session is lost.

  -- Session j has its seat, or was handed in to a seat.
  abbrev pub IsPresent : BoardState O C R → ℕ → Type 0
  IsPresent s j = ((seat s j).number ≡ j) ⊎ ((k : ℕ) × (p : ℕ) × (x : Handed C R) × (get_elem? (seat s k).others.handed p ≡ opt.some x) × (x.number ≡ j))

  -- What holds of the sessions' seats between any two atomic steps.
  pub record ArePresent (slots : ℕ) (s : BoardState O C R) : Type 0 where
    -- each session that is made has its seat, or was handed in
    pub each : (j : ℕ) → 0 < j → j < slots → j < length s.views → IsPresent s j
    -- none was handed in to the seat of a session
    pub apart : (k : ℕ) → (seat s k).number ≢ 0 → (seat s k).others.handed ≡ []
    -- and none to two seats
    pub once : (k m p q : ℕ) (x y : Handed C R) → get_elem? (seat s k).others.handed p ≡ opt.some x → get_elem? (seat s m).others.handed q ≡ opt.some y → x.number ≡ y.number → k ≡ m

-- Real time.

-- The call that waits for its reply.
abbrev pub call_of : {C : Type 0} → Option (Pending C) → Option C
call_of None = None
call_of (Some p) = Some p.call

module _ {C R : Type 0} where
  -- The session's calls, as it knows them: those that it collected have returned, and the pending one hasn't.
  abbrev pub calls_known : Own C R → Calls C R
  calls_known o = record { returned = map (λ a. (a.call, a.reply)) o.collected; pending = call_of o.pending }

module _ {O C R : Type 0} (obj : Ghosts O C R) where
  -- What holds in real time between any two atomic steps. To publish a call is its invocation, to take its reply the response; a
  -- direct entry is both.
  pub record IsInTime (h : List (Entry C R)) (slots : ℕ) (owns : List (Own C R)) : Type 0 where
    -- all events so far, of all sessions
    pub events : List (Event C R)
    -- the number of sessions, each of which makes one call after another
    pub sessions : ℕ
    pub sessions_are : sessions + 1 ≡ slots
    pub well_formed : IsWellFormed sessions events
    -- the calls so far are linearizable: the history is legal, has the calls of each session, and keeps the order of real time
    pub linear : IsLinearization obj sessions events h
    -- each session has noted its own events, each with its moment, and knows its calls
    pub logs : (j : ℕ) → (own_at owns j).log ≡ noted_by j events
    pub calls : (j : ℕ) → calls_in j events ≡ calls_known (own_at owns j)

module _ {O C R : Type 0} (obj : Ghosts O C R) where
  -- The rule. While the combiner has the object, the object may be ahead of the history by calls that were performed and not
  -- answered yet. When the object goes home, its history is the board's.

  -- What holds of the lock word, the records, the slots and the views between any two atomic steps.
  pub record IsOrderly (s : BoardState O C R) : Type 0 where
    -- the entries of all answered calls, oldest first
    pub history : List (Entry C R)
    -- the number of slots: one for the lock, and one a session
    pub slots : ℕ
    -- what each session knows of its own calls, by number
    pub owns : List (Own C R)
    -- each reply is the one that the object gives at its place
    pub legal : obj.is_legal history
    -- a place in the history fits into a u64
    pub short : length history < 2 ^ 64
    -- the lock and each session have one element of `owns`, one state word and one slot
    pub owns_are : length owns ≡ slots
    pub words_are : length s.words ≡ word_of slots
    pub homes_are : length s.homes ≡ slots
    -- seat 0 makes the sessions
    pub makes : IsMaker slots (length s.views) (seat s 0)
    -- a session that isn't made yet has published nothing
    pub unmade : (j : ℕ) → length s.views ≤ j → own_at owns j ≡ fresh
    -- a seat whose view names a session is that session's
    pub sessions : (k : ℕ) → (seat s k).number ≢ 0 → IsSession slots owns k (seat s k)
    -- a session with a call pending still has its seat
    pub waits : (j : ℕ) → (own_at owns j).pending ≢ None → (seat s j).own ≡ own_at owns j
    -- every seat knows a front of the history
    pub fronts : (k : ℕ) → IsPrefix (seat s k).front history
    -- no seat has heard of more calls of a session than that session has announced
    pub heard : (k j : ℕ) → heard_of (seat s k) j ≤ announced (own_at owns j)
    -- what a seat knows of others is true
    pub others : (k : ℕ) → AreTrue history s slots owns (seat s k).others
    -- every record is in the state that its word names
    pub stands : (i : ℕ) → 0 < i → i < slots → RecordState history i (word s i) (home s i) (own_at owns i)
    -- the combiner's number is in the lock word
    pub combiners : (k : ℕ) → (seat s k).combiner.has_object ≡ true → HasObject history (word s 0) k (seat s k)
    -- lock word FREE: the load is in the lock's slot, with the whole history
    pub free : word s 0 ≡ FREE → (b : Box (Load O C R)) × (home s 0 ≡ opt.some (ObjectLoad b)) × IsHome obj history slots b.value
    -- lock word k: session k is the combiner, and the lock's slot is out
    pub taken : word s 0 ≢ FREE → ((seat s (word s 0)).combiner.has_object ≡ true) × (word s 0 < slots) × (home s 0 ≡ opt.none)
    -- a record that a combiner has opened is BUSY
    pub opens : (k j : ℕ) (call : C) → get_elem? (seat s k).combiner.opened j ≡ opt.some (Some call) → IsOpened s owns (seat s k).combiner j call
    -- a record that is BUSY was opened by the session that the lock word names
    pub opened : (j : ℕ) → 0 < j → word s j ≡ BUSY → (call : C) × (get_elem? (seat s (word s 0)).combiner.opened j ≡ opt.some (Some call))
    -- the pieces of the history that sessions took are noted, and each session knows its own
    pub pieces : ArePieces slots s
    -- no session is lost
    pub present : ArePresent slots s
    -- the calls so far are linearizable
    pub in_time : IsInTime obj history slots owns
