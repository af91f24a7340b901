-- The core of the publication list: what is published in each record, as calls and replies, and which records a walk meets. The
-- rule of the board says this by words, slots and views.
use Rattle.std.specs.Prelude.{◌≡◌, ◌≢◌, ◌⊎◌, ℕ, true, Some, None}
use mathlib.Core.Option as opt
use lib.ListN.{get_elem?}
use Rattle.publication.specs.Words.{FREE, OUT, POSTED, BUSY, SERVED, CLOSED, EMPTY}
use Rattle.publication.specs.Views.{entry, asks}
use Rattle.publication.specs.Rule.{BoardState, word, home, seat}
use Rattle.publication.specs.StepKinds.{opened_in}
use Rattle.publication.specs.BoardHistory.{history_of}
use Rattle.publication.specs.declared.slot.SlotValue.TheVariants.{Empty, PostedCall, ServedReply}
use Rattle.sequential.specs.declared.object.Sequential.{Ghosts}

-- What is published in a record: nothing; a call that no combiner has opened; a call that the combiner has opened; or the answer
-- to a call, with its place in the history and the reply.
pub data Published (C R : Type 0) : Type 0 where
  nothing : Published C R
  waiting : C → Published C R
  opened : C → Published C R
  answered : C → ℕ → R → Published C R

module _ {O C R : Type 0} where
  -- Session j has this call pending.
  abbrev pub HasCallPending : BoardState O C R → ℕ → C → Type 0
  HasCallPending s j call = (floor : ℕ) × ((seat s j).own.pending ≡ Some (asks call floor))

  -- Nothing is published: the word is EMPTY, OUT or CLOSED. The slot is empty, or the session has it. The session has no call
  -- pending, if it still has its seat.
  pub record HoldsNothing (s : BoardState O C R) (j : ℕ) : Type 0 where
    pub word_is : (word s j ≡ EMPTY) ⊎ ((word s j ≡ OUT) ⊎ (word s j ≡ CLOSED))
    pub slot : (home s j ≡ opt.some Empty) ⊎ (home s j ≡ opt.none)
    pub none : (seat s j).number ≡ j → (seat s j).own.pending ≡ None

  -- The session's pending call is published: the word is POSTED, and the call is in the slot.
  pub record HoldsCall (s : BoardState O C R) (j : ℕ) (call : C) : Type 0 where
    pub word_is : word s j ≡ POSTED
    pub slot : home s j ≡ opt.some (PostedCall call)
    pub pending : HasCallPending s j call

  -- The combiner has opened the session's pending call: the word is BUSY, and the lock word names the combiner. The slot is
  -- empty, or the combiner has it.
  pub record HoldsOpenedCall (s : BoardState O C R) (j : ℕ) (call : C) : Type 0 where
    pub word_is : word s j ≡ BUSY
    pub locked : word s 0 ≢ FREE
    pub opened_is : opened_in (seat s (word s 0)) j ≡ Some call
    pub slot : (home s j ≡ opt.some Empty) ⊎ ((seat s (word s 0)).combiner.hand ≡ j)
    pub pending : HasCallPending s j call

module _ {O C R : Type 0} (obj : Ghosts O C R) where
  -- The session's pending call is answered: the word is SERVED, and the slot has the reply and the place of the call's entry in
  -- the history.
  pub record HoldsReply (s : BoardState O C R) (j : ℕ) (call : C) (place : ℕ) (reply : R) : Type 0 where
    pub word_is : word s j ≡ SERVED
    pub slot : home s j ≡ opt.some (ServedReply place reply)
    pub pending : HasCallPending s j call
    pub entry_is : get_elem? (history_of obj s) place ≡ opt.some (entry j call reply)

  -- This is published in record j.
  abbrev pub IsPublished : BoardState O C R → ℕ → Published C R → Type 0
  IsPublished s j nothing = HoldsNothing s j
  IsPublished s j (waiting call) = HoldsCall s j call
  IsPublished s j (opened call) = HoldsOpenedCall s j call
  IsPublished s j (answered call place reply) = HoldsReply s j call place reply

-- What a step of a combiner makes of what is published in a record: it opens the call, puts it back, or answers it at this
-- place.
abbrev pub IsServedFurther : {C R : Type 0} → ℕ → Published C R → Published C R → Type 0
IsServedFurther end (waiting call) (opened other) = call ≡ other
IsServedFurther end (opened call) (waiting other) = call ≡ other
IsServedFurther end (opened call) (answered other place reply) = (call ≡ other) × (place ≡ end)
IsServedFurther end _ _ = ⊥

-- What a step of its own session makes of what is published in a record: it publishes a call, or collects the reply.
abbrev pub IsPublishedOrCollected : {C R : Type 0} → Published C R → Published C R → Type 0
IsPublishedOrCollected nothing (waiting call) = Unit {0}
IsPublishedOrCollected (answered call place reply) nothing = Unit {0}
IsPublishedOrCollected _ _ = ⊥

module _ {O C R : Type 0} where
  -- The session of record j has a listed call pending.
  abbrev pub HasListedCall : BoardState O C R → ℕ → Type 0
  HasListedCall s j = ((seat s j).own.pending ≢ None) × ((seat s j).own.listed ≡ true)
