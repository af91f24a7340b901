-- The moves of a board from one state to the next, runs of them, and the order in time that a run keeps.
use Rattle.std.specs.Prelude.{◌≡◌, ◌≢◌, ◌⊎◌, ℕ, ◌+◌, ◌<◌, ◌≤◌, cond, is_some, true, false, Option, Some, None, List, [], ◌∷◌, ◌++◌, length, slice_index, slice_set, Contains}
use mathlib.Core.Option as opt
use lib.ListN.{get_elem?}
use Rattle.std.specs.Global.{Box}
use Rattle.atomic_table.specs.Table.{Act, Valid, carried_after, stepped, step}
use Rattle.sequential.specs.Histories.{Answered}
use Rattle.publication.specs.Words.{word_of}
use Rattle.publication.specs.Views.{Pending}
use Rattle.publication.specs.Rule.{blank, maker, new_session, BoardState}
use Rattle.publication.specs.List.{IsRuled}
use Rattle.publication.specs.StepKinds.{Seated, Kind, starts, posts, looks_at_head, links, enlists, looks_for_reply, takes_reply, looks_at_lock, seizes, releases, walks, walks_on, unlinks, marks_out, relinks, looks_at_record, opened_in, opens, lays, picks, answers, puts_back, enters, copy_of, front_copy_of, joined, learns, compares, retires, leaves, gathered}
use Rattle.publication.specs.Collected.{HasCollected}
use Rattle.publication.specs.declared.view.View.{View}
use Rattle.publication.specs.declared.slot.Load.{Load}
use Rattle.publication.specs.declared.slot.SlotValue.{SlotValue}
use Rattle.publication.specs.declared.slot.SlotValue.TheVariants.{ObjectLoad}
use Rattle.sequential.specs.declared.object.Sequential.{Ghosts}

-- The kinds of step on a word, by name. A direct entry names the call and the reply that it enters.
pub data StepName (C R : Type 0) : Type 0 where
  start : StepName C R
  post : StepName C R
  look_at_head : StepName C R
  link : StepName C R
  enlist : StepName C R
  look_for_reply : StepName C R
  take_reply : StepName C R
  look_at_lock : StepName C R
  seize : StepName C R
  release : StepName C R
  walk : StepName C R
  walk_on : StepName C R
  unlink : StepName C R
  mark_out : StepName C R
  relink : StepName C R
  look_at_record : StepName C R
  open_record : StepName C R
  lay : StepName C R
  pick : StepName C R
  answer_record : StepName C R
  put_back : StepName C R
  enter : C → R → StepName C R
  learn : StepName C R
  compare : StepName C R
  retire : StepName C R
  leave : StepName C R

module _ {O C R : Type 0} (obj : Ghosts O C R) where
  -- The definition of each kind.
  abbrev pub kind_of : StepName C R → Kind O C R
  kind_of start = starts
  kind_of post = posts obj
  kind_of look_at_head = looks_at_head
  kind_of link = links
  kind_of enlist = enlists
  kind_of look_for_reply = looks_for_reply
  kind_of take_reply = takes_reply obj
  kind_of look_at_lock = looks_at_lock
  kind_of seize = seizes obj
  kind_of release = releases
  kind_of walk = walks
  kind_of walk_on = walks_on
  kind_of unlink = unlinks
  kind_of mark_out = marks_out
  kind_of relink = relinks
  kind_of look_at_record = looks_at_record
  kind_of open_record = opens
  kind_of lay = lays
  kind_of pick = picks
  kind_of answer_record = answers obj
  kind_of put_back = puts_back
  kind_of (enter call reply) = enters call reply
  kind_of learn = learns obj
  kind_of compare = compares
  kind_of retire = retires
  kind_of leave = leaves

module _ {O C R : Type 0} where
  -- The seat is the combiner's.
  abbrev pub IsCombiner : Seated O C R → Type 0
  IsCombiner m = m.0.combiner.has_object ≡ true

module _ {O C R : Type 0} where
  -- The slot that the session lays down is its own.
  pub record LaysDownItsOwn (m : Seated O C R) : Type 0 where
    pub session : m.0.number ≢ 0
    pub slot : SlotValue O C R
    pub more : List (ℕ × SlotValue O C R)
    pub carried : m.1 ≡ (m.0.number, slot) ∷ more

module _ {O C R : Type 0} (obj : Ghosts O C R) where
  -- The slot that the seat lays down holds an object with the history that the session knows.
  pub record LaysDownLoad (m : Seated O C R) : Type 0 where
    pub load : Box (Load O C R)
    pub more : List (ℕ × SlotValue O C R)
    pub carried : m.1 ≡ (0, ObjectLoad load) ∷ more
    pub whole : (obj.history load.value.object) ≡ m.0.front

module _ {O C R : Type 0} (obj : Ghosts O C R) where
  -- What the board's calls see to before a step of a kind: a session that starts, publishes, retires or leaves has no call
  -- pending, and lays down its own slot; the combiner's steps are made by the combiner, it answers a
  -- record that it opened, a session takes the reply out of its own record, and the lock word is the one that is seized. A
  -- call is entered directly at a look at the lock word, by a combiner that may publish and has no call pending.
  abbrev pub StepRequires : StepName C R → ℕ → Seated O C R → Type 0
  StepRequires start at m = m.0.own.pending ≡ None
  StepRequires post at m = (m.0.own.pending ≡ None) × LaysDownItsOwn m
  StepRequires take_reply at m = at ≡ word_of m.0.number
  StepRequires seize at m = at ≡ word_of 0
  StepRequires release at m = IsCombiner m × LaysDownLoad obj m
  StepRequires open_record at m = IsCombiner m
  StepRequires lay at m = IsCombiner m
  StepRequires pick at m = IsCombiner m
  StepRequires answer_record at m = IsCombiner m × ((call : C) × (opened_in m.0 m.0.combiner.hand ≡ Some call))
  StepRequires put_back at m = IsCombiner m
  StepRequires (enter call reply) at m = (at ≡ word_of 0) × IsCombiner m × (m.0.own.pending ≡ None) × (m.0.own.retired ≡ false)
  StepRequires retire at m = m.0.own.pending ≡ None
  StepRequires leave at m = (m.0.own.pending ≡ None) × LaysDownItsOwn m
  StepRequires _ at m = Unit {0}

module _ {O C R : Type 0} (obj : Ghosts O C R) where
  -- A step of this kind, made by one seat on one word, leads from state s to state t.
  pub record IsStep (name : StepName C R) (s t : BoardState O C R) : Type 0 where
    -- the seat's id, the word's index, the step's operands, and the value that the word has afterwards
    pub id : ℕ
    pub at : ℕ
    pub first : ℕ
    pub second : ℕ
    pub put : ℕ
    -- the seat's view and carried slots before and after, and the slots that move
    pub before : Seated O C R
    pub after : Seated O C R
    pub act : Act (SlotValue O C R)
    pub seated : get_elem? s.views id ≡ opt.some before.0
    pub asked : StepRequires obj name at before
    pub valid : Valid s.homes before.1 act
    pub carried : after.1 ≡ carried_after before.1 act
    -- what the kind says of the seat before and after, and the state after
    pub told : kind_of obj name (step (length s.homes) at first second opt.none) before (slice_index s.words at) after
    pub is : t ≡ stepped s at put id before.1 after.0 act

module _ {O C R : Type 0} where
  -- A seat is split: one that is no session's, and to which none was handed in, makes a session; or a copy is made of what a seat
  -- knows, or of the front that it knows.
  pub record IsSeatSplit (s t : BoardState O C R) : Type 0 where
    pub id : ℕ
    pub view : View C R
    pub left : View C R
    pub right : View C R
    pub seated : get_elem? s.views id ≡ opt.some view
    pub cut : ((view.number ≡ 0) × (view.others.handed ≡ []) × (left ≡ maker view.slots (view.made + 1)) × (right ≡ new_session view.slots (view.made + 1)))
        ⊎ ((left ≡ view) × ((right ≡ copy_of view) ⊎ (right ≡ front_copy_of view)))
    pub is : t ≡ record { words = s.words; homes = s.homes; views = slice_set s.views id left ++ right ∷ [] }

  -- A seat is joined into another and ends: one that is no session's, and to which none was handed in; or, into the closing seat,
  -- which is no session's, the seat of a session to which none was handed in.
  pub record IsSeatJoin (s t : BoardState O C R) : Type 0 where
    pub id : ℕ
    pub view : View C R
    pub other : ℕ
    pub theirs : View C R
    pub both : View C R
    pub seated : get_elem? s.views id ≡ opt.some view
    pub apart : ¬ (other ≡ id)
    pub beside : get_elem? s.views other ≡ opt.some theirs
    pub join : ((both ≡ joined view theirs) × (theirs.number ≡ 0) × (theirs.others.handed ≡ [])) ⊎ ((both ≡ gathered view theirs) × (view.number ≡ 0) × (theirs.others.handed ≡ []))
    pub is : t ≡ record { words = s.words; homes = s.homes; views = slice_set (slice_set s.views id both) other blank }

module _ {O C R : Type 0} (obj : Ghosts O C R) where
  -- One move of the board: a step on a word, or a split or join of seats.
  abbrev pub IsMove : BoardState O C R → BoardState O C R → Type 0
  IsMove s t = ((name : StepName C R) × IsStep obj name s t) ⊎ (IsSeatSplit s t ⊎ IsSeatJoin s t)

module _ {O C R : Type 0} (obj : Ghosts O C R) where
  -- A run of moves from one state to another; the rule holds after each move.
  pub data IsRun : BoardState O C R → BoardState O C R → Type 0 where
    stop : {s : BoardState O C R} → IsRun s s
    move : {s t u : BoardState O C R} → IsMove obj s t → IsRuled obj t → IsRun t u → IsRun s u

module _ {C R : Type 0} where
  -- How many calls a session with these answers and this pending call has made: those that it published, and those that it
  -- entered directly.
  abbrev pub calls_made : List (Answered C R) → Option (Pending C) → ℕ
  calls_made answers pending = length answers + cond (is_some pending) 1 0

module _ {O C R : Type 0} (obj : Ghosts O C R) where
  -- An answer that any session had collected in state s has a lower place than each answer that a session collected by
  -- state t to a call that it published, or entered directly, after state s.
  abbrev pub RespectsRealTime : BoardState O C R → BoardState O C R → Type 0
  RespectsRealTime s t = (i j : ℕ) (theirs mine later : List (Answered C R)) (their_pending my_pending later_pending : Option (Pending C))
      → HasCollected s i theirs their_pending → HasCollected s j mine my_pending → HasCollected t j later later_pending
      → (x y : Answered C R) (before after : List (Answered C R)) → Contains theirs x → later ≡ before ++ y ∷ after
      → calls_made mine my_pending ≤ length before → x.place < y.place
