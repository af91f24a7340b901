-- The state in which a board opens; the history of a board as a function of its state, and what it has of each session.
use Rattle.std.specs.Prelude.{◌≡◌, ℕ, ◌+◌, ◌==◌, cond, Option, Some, None, List, [], ◌∷◌, ◌++◌, length, replicate, slice_set}
use mathlib.Core.Option as opt
use Rattle.std.specs.Global.{Box}
use Rattle.atomic_table.specs.Table.{opening}
use Rattle.sequential.specs.declared.entry.Entry.{Entry}
use Rattle.sequential.specs.Histories.{Answered}
use Rattle.publication.specs.Words.{word_of, FREE, END}
use Rattle.publication.specs.Views.{Pending, IsAccountedIn, answer}
use Rattle.publication.specs.Rule.{maker, BoardState, word, home, seat}
use Rattle.publication.specs.Collected.{IsSeated}
use Rattle.publication.specs.declared.slot.Load.{Load}
use Rattle.publication.specs.declared.slot.SlotValue.{SlotValue}
use Rattle.publication.specs.declared.slot.SlotValue.TheVariants.{Empty, PostedCall, ServedReply, ObjectLoad}
use Rattle.sequential.specs.declared.object.Sequential.{Ghosts}

module _ {O C R : Type 0} where
  -- A new board for n sessions, none of them made yet: the lock word is FREE, each record OUT, the publication list empty,
  -- the load at home, and seat 0 alone is there.
  abbrev pub new_board : ℕ → Box (Load O C R) → BoardState O C R
  new_board n load = opening (slice_set (replicate (word_of (n + 1)) 0) 1 END) (ObjectLoad load ∷ replicate n Empty) (maker (n + 1) 0)

module _ {O C R : Type 0} (obj : Ghosts O C R) where
  -- The history of the object in a slot, empty if no object is there.
  abbrev pub history_in : opt.Option (SlotValue O C R) → List (Entry C R)
  history_in opt.none = []
  history_in (opt.some Empty) = []
  history_in (opt.some (PostedCall call)) = []
  history_in (opt.some (ServedReply place reply)) = []
  history_in (opt.some (ObjectLoad load)) = (obj.history load.value.object)

module _ {O C R : Type 0} (obj : Ghosts O C R) where
  -- The board's history: the object's while the lock word is FREE, else the front that the combiner knows.
  abbrev pub history_of : BoardState O C R → List (Entry C R)
  history_of s = cond (word s 0 == FREE) (history_in obj (home s 0)) (seat s (word s 0)).front

module _ {O C R : Type 0} (obj : Ghosts O C R) where
  -- The entry is appended to the history: it is the call that its session has pending.
  pub record IsAppended (s t : BoardState O C R) (entry : Entry C R) : Type 0 where
    pub history : history_of obj t ≡ history_of obj s ++ entry ∷ []
    pub floor : ℕ
    pub pending : (seat s entry.session).own.pending ≡ Some (record { call = entry.call; floor = floor })

module _ {O C R : Type 0} (obj : Ghosts O C R) where
  -- The entry is appended to the history by a direct entry: it is a call of the session that the lock word names before and
  -- after. The session has no call pending before or after, and the answers that it has collected grow by this call's, whose
  -- place is the end of the history before.
  pub record IsEnteredDirectly (s t : BoardState O C R) (entry : Entry C R) : Type 0 where
    pub history : history_of obj t ≡ history_of obj s ++ entry ∷ []
    pub combiner : word s 0 ≡ entry.session
    pub still : word t 0 ≡ entry.session
    pub answers : List (Answered C R)
    pub before : IsSeated s entry.session answers None
    pub after : IsSeated t entry.session (answers ++ answer (length (history_of obj s)) entry.call entry.reply ∷ []) None

module _ {O C R : Type 0} (obj : Ghosts O C R) where
  -- The calls of session i in the board's history are those that it collected, or those and its pending call.
  abbrev pub IsAccounted : BoardState O C R → ℕ → List (Answered C R) → Option (Pending C) → Type 0
  IsAccounted s = IsAccountedIn (history_of obj s)
