-- A combiner at work, and in the middle of its pass.
use Rattle.std.specs.Prelude.{◌≡◌, ◌≢◌, ◌⊎◌, ℕ, ◌+◌, ◌<◌, ◌≤◌, ◌↔◌, cond, is_some, Bool, true, false, IsTrue, Option, Some, None, List, [], ◌∷◌, ◌++◌, length, map, take, drop, slice_set, slice_index_or, vec_len, vec_capacity}
use Rattle.std.specs.List.{range_with_len}
use mathlib.Core.List.{IsPrefix}
use Rattle.sequential.specs.declared.entry.Entry.{Entry}
use Rattle.sequential.specs.Histories.{calls_of}
use Rattle.sequential.specs.declared.entry.Item.{Item}
use Rattle.sequential.specs.Batches.{IsItemWithin, item_of, asked_by, asked_in}
use Rattle.publication.specs.Views.{BoardView, TicketView}
use Rattle.publication.specs.Boards.{IsOf, IsNumber, OpensNone, opened_at, heard_from, published_by}
use Rattle.publication.specs.List.{IsOn, behind}
use Rattle.publication.specs.Rule.{IsHome}
use Rattle.publication.specs.declared.slot.Load.{Load}
use Rattle.combining.specs.Sessions.{HasTriedToList}
use Rattle.combining.specs.inner.Ages.{sessions_since, noted}
use Rattle.sequential.specs.declared.object.Sequential.{Ghosts}

module _ {C R : Type 0} where
  -- The row has the call of each opened record exactly once: with the items closed one after another, no record is left
  -- open.
  abbrev pub AreOpened : ℕ → List (Option C) → List (Item C R) → Type 0
  AreOpened sessions opened [] = (j : ℕ) → slice_index_or opened j None ≡ None
  AreOpened sessions opened (i ∷ is) =
      IsItemWithin sessions i × (slice_index_or opened i.session None ≡ Some i.call)
      × AreOpened sessions (slice_set opened i.session None) is

  -- The row has an item for this call of this session besides, wherever it was inserted.
  pub record HasInserted (whose : ℕ) (call : C) (old new : List (Item C R)) : Type 0 where
    pub place : ℕ
    pub items : new ≡ take place old ++ (record { session = whose; call = call; reply = None }) ∷ drop place old

  -- At least `count` calls of session j are in the known history, counting one more if the combiner has opened record j.
  abbrev pub HasCalls : ℕ → ℕ → TicketView C R → Type 0
  HasCalls count j t = count ≤ length (calls_of j t.front) + cond (is_some (opened_at t j)) 1 0

  -- For each session, the number of its calls that are in the known history or opened didn't fall.
  abbrev pub KeepsCalls : TicketView C R → TicketView C R → Type 0
  KeepsCalls before after = (count j : ℕ) → HasCalls count j before → HasCalls count j after

  -- The combiner has visited record j: as many calls of session j as it has heard of are in the known history or
  -- opened, and all that it published itself if the record is its own and a call is pending.
  pub record IsVisited (j : ℕ) (t : TicketView C R) : Type 0 where
    pub heard : HasCalls (heard_from t j) j t
    pub own : t.number ≡ j → t.pending ≢ None → HasCalls (published_by t) j t

  -- Each opened record was visited.
  abbrev pub HasVisitedOpened : TicketView C R → Type 0
  HasVisitedOpened t = (j : ℕ) → opened_at t j ≢ None → IsVisited j t

-- The part of the route still ahead of a walk whose next record is given; nothing at the end of the list.
abbrev pub ahead : Option ℕ → List ℕ → List ℕ
ahead None route = []
ahead (Some q) route = q ∷ behind q route

-- The next record of the walk, if there is one, is on the route.
abbrev pub IsNext : Option ℕ → List ℕ → Type 0
IsNext None route = Unit {0}
IsNext (Some q) route = IsOn q route

module _ {C R : Type 0} where
  -- Each record on the route is still ahead of the walk, or was visited.
  abbrev pub HasMet : Option ℕ → TicketView C R → Type 0
  HasMet next t = (j : ℕ) → IsOn j t.route → IsOn j (ahead next t.route) ⊎ IsVisited j t

  -- The same session later in its pass, as it opens records: only these and its route may have changed.
  pub record IsSameSession (before after : TicketView C R) : Type 0 where
    pub same : after ≡ record before { opened = after.opened; route = after.route }
    pub wide : length after.opened ≡ length before.opened

  -- The same session once it has answered so many of the records that it opened: it has entered their places.
  pub record HasAnswered (before after : TicketView C R) (served : ℕ) : Type 0 where
    pub same : after ≡ record before { front = after.front; opened = after.opened; entered = after.entered }
    pub wide : length after.opened ≡ length before.opened
    pub count : length after.front ≡ length before.front + served
    pub entered : after.entered ≡ before.entered ++ range_with_len (length before.front) served

  -- The same session once its row is answered or put back: it has entered the places of the `served` calls that are answered, and
  -- may have put calls back.
  pub record IsAfterRow (before after : TicketView C R) (served : ℕ) : Type 0 where
    pub same : after ≡ record before { front = after.front; opened = after.opened; put_backs = after.put_backs; entered = after.entered }
    pub wide : length after.opened ≡ length before.opened
    pub count : length after.front ≡ length before.front + served
    pub entered : after.entered ≡ before.entered ++ range_with_len (length before.front) served

  -- The session has made a pass as the combiner, and entered the places of the `served` calls that the pass answered.
  pub record HasPassed (before after : TicketView C R) (served : ℕ) : Type 0 where
    pub session : after ≡ record before { front = after.front; route = after.route; put_backs = after.put_backs; entered = after.entered }
    pub count : length after.front ≡ length before.front + served
    pub entered : after.entered ≡ before.entered ++ range_with_len (length before.front) served

module _ {O C R : Type 0} (obj : Ghosts O C R) where
  -- The combiner's object: its history is the one that the combiner knows, followed by the entries of the calls that were
  -- performed and not answered yet, which are those of `unanswered`, in order.
  pub record IsObjectInHand (sessions : ℕ) (object : O) (t : TicketView C R) (unanswered : List (Item C R)) : Type 0 where
    pub sessions_are : (obj.sessions object) ≡ sessions
    pub entries : List (Entry C R)
    pub performed : unanswered ≡ map item_of entries
    pub history : (obj.history object) ≡ t.front ++ entries

module _ {O C R : Type 0} (obj : Ghosts O C R) where
  -- The pass took no piece of the history, and nothing of the object's history was let go that its bound doesn't let go.
  pub record HasTakenNothing (before after : Load O C R) : Type 0 where
    pub pieces : after.pieces.items ≡ before.pieces.items
    pub cut : (obj.cut after.object) ≡ (obj.cut before.object)
    pub bound : (obj.bound after.object) ≡ (obj.bound before.object)

module _ {O C R : Type 0} (obj : Ghosts O C R) where
  -- The combiner at work: it has the object and all that goes with it, fit to be given back, has no record opened, and knows the
  -- whole history. So it is between any two steps of its work: a pass, or a call of its own.
  pub record IsAtWork (board : BoardView) (session : TicketView C R) (load : Load O C R) : Type 0 where
    pub ours : IsOf board session
    pub has_object : session.has_object ≡ true
    pub none : OpensNone session
    pub number : IsNumber board session.number
    pub home : IsHome obj session.front (board.sessions + 1) load
    pub bound_is : obj.bound load.object ≡ board.bound
    pub legal : obj.is_legal session.front

  -- The combiner in its pass: its row has the calls of the records that it has opened.
  pub record HasRow (board : BoardView) (session : TicketView C R) (load : Load O C R) : Type 0 where
    pub ours : IsOf board session
    pub has_object : session.has_object ≡ true
    pub in_hand : IsObjectInHand obj board.sessions load.object session []
    pub legal : obj.is_legal session.front
    pub row : AreOpened board.sessions session.opened load.row.items
    pub few : vec_len load.row < 65536
    pub ages : vec_len load.ages ≡ board.sessions

module _ {O C R : Type 0} where
  -- What work leaves in which a pass was made: the combiner knows no less of the history, has put calls back exactly if the pass is
  -- starved, and if it isn't and left no call that it saw, has served each call that it had heard of. It took no piece of the history.
  pub record HasServed (n : ℕ) (before after : TicketView C R) (old new : Load O C R) (starved left : Bool) : Type 0 where
    pub longer : IsPrefix before.front after.front
    pub put_back : IsTrue starved ↔ (before.put_backs < after.put_backs)
    pub heard : starved ≡ false → left ≡ false → (j : ℕ) → 0 < j → j ≤ n → heard_from before j ≤ length (calls_of j after.front)
    pub taken : new.pieces.items ≡ old.pieces.items

module _ {O C R : Type 0} (obj : Ghosts O C R) (tells_from : O → ℕ → Type 0) where
  -- The first `served` calls of the row are in the history and answered, the others are put back, and the pass is the age of the
  -- sessions that it served. If it served any, the object tells what these calls have brought about.
  pub record HasServedRow (n : ℕ) (before after : TicketView C R) (old new : Load O C R) (served : ℕ) (starved : Bool) : Type 0 where
    pub session : IsAfterRow before after served
    pub none : OpensNone after
    pub put_backs : after.put_backs + served ≡ before.put_backs + vec_len old.row
    pub in_hand : IsObjectInHand obj n new.object after []
    pub longer : IsPrefix before.front after.front
    pub asked : asked_in (drop (length before.front) after.front) ≡ asked_by (take served old.row.items)
    pub legal : obj.is_legal after.front
    pub starved_is : IsTrue starved ↔ (served < vec_len old.row)
    pub few : served ≤ vec_len old.row
    pub calls : starved ≡ false → KeepsCalls before after
    pub room : vec_capacity new.row ≡ vec_capacity old.row
    pub passes : new.passes ≡ old.passes
    pub counts : (new.served ≡ old.served) × (new.starved ≡ old.starved)
    pub taken : HasTakenNothing obj old new
    pub ages : new.ages.items ≡ noted old.ages.items (sessions_since (length before.front) after.front) old.passes
    pub len : vec_len new.ages ≡ vec_len old.ages
    pub tells : 0 < served → tells_from new.object (length before.front)

module _ {O C R : Type 0} (obj : Ghosts O C R) where
  -- The session has made a pass and still has the object. If its pending call wasn't listed, it first tried once more to
  -- have it listed. It knows the entries added before this pass, followed by those that this pass added, `served` of them.
  pub record HasMadePass (sessions : ℕ) (before after : TicketView C R) (load : Load O C R) (served : ℕ) : Type 0 where
    pub between : TicketView C R
    pub is_tried : HasTriedToList before between
    pub session : after ≡ record between {
      front = after.front;
      has_object = true;
      route = after.route;
      put_backs = after.put_backs;
      entered = after.entered;
      taken = load.pieces.items;
    }
    pub lacked : (between.has_object ≡ false) × (between.route ≡ []) × (between.taken ≡ [])
    pub others : List (Entry C R)
    pub own : List (Entry C R)
    pub front : after.front ≡ before.front ++ others ++ own
    pub count : length own ≡ served
    pub entered : after.entered ≡ before.entered ++ range_with_len (length (before.front ++ others)) served
    pub home : IsHome obj after.front (sessions + 1) load
    pub legal : obj.is_legal after.front
