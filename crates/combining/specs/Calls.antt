-- A whole call of a session, from an idle session to its answer or to a pending call.
use Rattle.std.specs.Prelude.{◌≡◌, ◌⊎◌, ℕ, ◌<◌, ◌≤◌, Option, Some, None, List, [], ◌∷◌, ◌++◌, length}
use mathlib.Core.Option as opt
use mathlib.Core.List.{IsPrefix}
use lib.ListN.{get_elem?}
use Rattle.sequential.specs.Histories.{Answered, calls_of}
use Rattle.publication.specs.Views.{TicketView, Pending, entry, answer, asks}
use Rattle.sequential.specs.declared.object.Sequential.{Ghosts}
use Rattle.combining.specs.Sessions.{IsRefused}

module _ {C R : Type 0} where
  -- What else may have changed of a session that made a call: it may know more of the history, what it has heard of itself, whether
  -- its last call was listed, how often it tried to have one listed, how many calls it put back, and which places it entered.
  abbrev pub later : TicketView C R → Option (Pending C) → List (Answered C R) → TicketView C R → TicketView C R
  later before pending collected after = record before {
    pending = pending;
    collected = collected;
    front = after.front;
    heard = after.heard;
    listed = after.listed;
    tries = after.tries;
    put_backs = after.put_backs;
    entered = after.entered;
  }

  -- The session goes on waiting for the answer to its pending call.
  pub record IsWaitingOn (before after : TicketView C R) : Type 0 where
    pub session : after ≡ later before before.pending before.collected after
    pub longer : IsPrefix before.front after.front
    pub entered : IsPrefix before.entered after.entered

  -- The session went on waiting, and put calls back in the pass that it made last.
  abbrev pub HasStarved : TicketView C R → TicketView C R → Type 0
  HasStarved before after = (between : TicketView C R) × IsWaitingOn before between × IsWaitingOn between after × (between.put_backs < after.put_backs)

module _ {O C R : Type 0} (obj : Ghosts O C R) where
  -- The call is answered: its entry is at this place of the history that the session knows, with this reply.
  pub record IsAnsweredAt (before after : TicketView C R) (call : C) (floor place : ℕ) (reply : R) : Type 0 where
    pub session : after ≡ later before None (before.collected ++ answer place call reply ∷ []) after
    pub longer : IsPrefix before.front after.front
    pub entered : IsPrefix before.entered after.entered
    pub legal : obj.is_legal after.front
    pub stands : get_elem? after.front place ≡ opt.some (entry before.number call reply)
    -- the entry's place is not below the number of entries that the session knew when it made the call
    pub late : floor ≤ place
    -- the session's calls in the known history are those that it collected
    pub calls : calls_of before.number after.front ≡ after.collected

module _ {O C R : Type 0} (obj : Ghosts O C R) where
  -- The pending call of the session is answered.
  abbrev pub IsAnswered : TicketView C R → TicketView C R → ℕ → R → Type 0
  IsAnswered before after place reply =
      (call : C) × (floor : ℕ) × (before.pending ≡ Some (asks call floor)) × IsAnsweredAt obj before after call floor place reply

module _ {O C R : Type 0} (obj : Ghosts O C R) where
  -- The idle session made the call and got its answer.
  abbrev pub IsCalled : TicketView C R → TicketView C R → C → ℕ → R → Type 0
  IsCalled before after call place reply = IsAnsweredAt obj before after call (length before.front) place reply

module _ {C R : Type 0} where
  -- The idle session published the call, which is pending.
  pub record IsCalling (before after : TicketView C R) (call : C) : Type 0 where
    pub floor : ℕ
    pub session : after ≡ later before (Some (asks call floor)) before.collected after
    pub longer : IsPrefix before.front after.front
    pub entered : IsPrefix before.entered after.entered
    -- it was published when the session knew so many entries of the history
    pub late : length before.front ≤ floor

module _ {O C R : Type 0} (obj : Ghosts O C R) where
  -- Memory was refused for the idle session's call, which is pending. The session performed a pass in which it was refused for the
  -- call, or only looked, and then published it; or it published it, and put calls back in the pass that it made last.
  abbrev pub HasStarvedCalling : TicketView C R → TicketView C R → C → Type 0
  HasStarvedCalling before after call = ((between : TicketView C R) × IsRefused obj before between × IsCalling between after call)
      ⊎ ((between : TicketView C R) × IsCalling before between call × IsWaitingOn between after × (between.put_backs < after.put_backs))

module _ {C R : Type 0} where
  -- The session knows no less of the history, and has entered no fewer places.
  pub record HasGoneOn (before after : TicketView C R) : Type 0 where
    pub longer : IsPrefix before.front after.front
    pub entered : IsPrefix before.entered after.entered
