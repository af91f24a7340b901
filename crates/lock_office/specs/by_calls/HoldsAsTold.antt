-- What a session was told that it holds, by the answers that it collected and its pending call alone.
use Rattle.std.specs.Prelude.{◌≡◌, ◌≢◌, ◌⊎◌, ℕ, Option, Some, List, ◌∷◌, ◌++◌, All}
use Rattle.lock_modes.specs.declared.Mode.{Mode}
use Rattle.lock_modes.specs.declared.Mode.TheVariants.{S, X}
use Rattle.lock_modes.specs.Order.{IsAtOrBelow}
use Rattle.lock_rules.specs.declared.calls.Call.{Call}
use Rattle.lock_rules.specs.declared.calls.Call.TheVariants.{Lock, Convert, Try, Release, Commit, Abort, Restart}
use Rattle.lock_rules.specs.declared.calls.Reply.{Reply}
use Rattle.lock_rules.specs.declared.calls.Reply.TheVariants.{Granted, Waiting, Deadlock, Clear, Released, Committed, Refused, Withdrawn}
use Rattle.lock_rules.specs.declared.calls.Why.{Why}
use Rattle.lock_rules.specs.declared.calls.Why.TheVariants.{AlreadyOpen, NoTransaction, IsWaiting, IsDoomed}
use Rattle.lock_rules.specs.Entries.{Answered}
use Rattle.lock_rules.specs.State.{State}
use Rattle.lock_rules.specs.Laws.{IsAtOrOver, HasTransaction, HasRequest, HasDoomedTransaction}
use Rattle.publication.specs.Views.{Pending as PendingOf}

-- A pending call.
abbrev pub Pending : Type 0
Pending = PendingOf Call

-- The call requests the resource in this mode.
abbrev pub AsksFor : Call → List ℕ → Mode → Type 0
AsksFor c r m = (c ≡ Lock r m) ⊎ ((c ≡ Convert r m) ⊎ (c ≡ Try r m))

-- The call doesn't give the resource back: it is no commit, no abort, no restart and no release of it.
abbrev pub KeepsLock : List ℕ → Call → Type 0
KeepsLock r c = (c ≢ Commit) × (c ≢ Abort) × (c ≢ Restart) × (c ≢ Release r)

-- The answered call gave nothing of the resource back: it is a call that doesn't, or it was refused.
abbrev pub KeptLock : List ℕ → Answered → Type 0
KeptLock r a = KeepsLock r a.call ⊎ ((why : Why) × (a.reply ≡ Refused why))

-- The session may go on: it has a transaction, which neither waits nor is doomed.
pub record MayGoOn (st : State) (s : ℕ) : Type 0 where
  pub has_transaction : HasTransaction st s
  pub not_waiting : HasRequest st s → ⊥
  pub not_doomed : HasDoomedTransaction st s → ⊥

-- The refusal comes only to a session that may go on: its test is made after the tests whether the session has a transaction,
-- waits and is doomed.
abbrev pub IsRefusedThoughFree : Why → Type 0
IsRefusedThoughFree why = (why ≢ AlreadyOpen) × (why ≢ NoTransaction) × (why ≢ IsWaiting) × (why ≢ IsDoomed)

-- This reply to the call comes only to a session that may go on when it calls. A new request may be answered Waiting or Deadlock:
-- then that request waits, or makes its session a victim, which keeps its locks. A poll with these replies tells of no grant.
abbrev pub TellsOfGrant : Call → Reply → Type 0
TellsOfGrant c (Granted m) = Unit {0}
TellsOfGrant c Waiting = (r : List ℕ) × (m : Mode) × AsksFor c r m
TellsOfGrant c Deadlock = (r : List ℕ) × (m : Mode) × AsksFor c r m
TellsOfGrant c Clear = Unit {0}
TellsOfGrant c Released = Unit {0}
TellsOfGrant c (Committed n) = Unit {0}
TellsOfGrant c (Refused why) = IsRefusedThoughFree why
TellsOfGrant c _ = ⊥

-- The answered call told that the session waited no more and was no victim, so that a request that waited before was granted.
abbrev pub ToldOfGrant : Answered → Type 0
ToldOfGrant a = TellsOfGrant a.call a.reply

-- The answered call took no waiting request back.
abbrev pub TookNothingBack : Answered → Type 0
TookNothingBack a = a.reply ≢ Withdrawn

-- An answer granted the resource in this mode, and no later answered call gave it back.
pub record WasGranted (answers : List Answered) (r : List ℕ) (m : Mode) : Type 0 where
  pub before : List Answered
  pub grant : Answered
  pub after : List Answered
  pub answers_are : answers ≡ before ++ grant ∷ after
  pub asked : (k : Mode) × AsksFor grant.call r k
  pub granted : grant.reply ≡ Granted m
  pub kept : All (KeptLock r) after

-- A request for the resource in this mode was answered Waiting, and a later answer told that it was granted. No answered call
-- between the two took the request back, and none since the request gave the resource back, nor did the one that told.
pub record WasGrantedLater (answers : List Answered) (r : List ℕ) (m : Mode) : Type 0 where
  pub before : List Answered
  pub wait : Answered
  pub between : List Answered
  pub ending : Answered
  pub after : List Answered
  pub answers_are : answers ≡ before ++ wait ∷ (between ++ ending ∷ after)
  pub asked : AsksFor wait.call r m
  pub waited : wait.reply ≡ Waiting
  pub ended : ToldOfGrant ending
  pub kept_waiting : All (KeptLock r) between
  pub not_withdrawn : All TookNothingBack between
  pub kept_telling : KeptLock r ending
  pub kept : All (KeptLock r) after

-- A session with these answers and this pending call was told that it holds the resource in this mode, and has published
-- nothing since that may give it back. A deadlock victim keeps its locks until it aborts or restarts, so a Deadlock ends nothing.
pub record HoldsAsTold (answers : List Answered) (pending : Option Pending) (r : List ℕ) (m : Mode) : Type 0 where
  pub told : WasGranted answers r m ⊎ WasGrantedLater answers r m
  pub kept : (p : Pending) → pending ≡ Some p → KeepsLock r p.call

module _ (HeldAsTold : List ℕ → Mode → Type 0) where
  -- The session was told that it holds the resource, or an ancestor of it, in S, SIX, U or X: it may read the resource.
  pub record MayReadAsTold (x : List ℕ) : Type 0 where
    pub resource : List ℕ
    pub over : IsAtOrOver resource x
    pub mode : Mode
    pub told : HeldAsTold resource mode
    pub reads : IsAtOrBelow S mode

  -- The session was told that it holds the resource, or an ancestor of it, in X: it may write the resource.
  pub record MayWriteAsTold (x : List ℕ) : Type 0 where
    pub resource : List ℕ
    pub over : IsAtOrOver resource x
    pub mode : Mode
    pub told : HeldAsTold resource mode
    pub writes : IsAtOrBelow X mode

-- The same of a session with these answers and this pending call.
abbrev pub ReadsAsTold : List Answered → Option Pending → List ℕ → Type 0
ReadsAsTold answers pending = MayReadAsTold (HoldsAsTold answers pending)

abbrev pub WritesAsTold : List Answered → Option Pending → List ℕ → Type 0
WritesAsTold answers pending = MayWriteAsTold (HoldsAsTold answers pending)
