-- Linearizability, as Herlihy and Wing define it (1990): the calls that sessions make of an object, each from its invocation to its
-- response, are as if each took effect at one moment between the two.
use Rattle.std.specs.Prelude.{◌≡◌, ◌≢◌, ◌⊎◌, ℕ, ◌+◌, ◌<◌, ◌≤◌, ◌==◌, if◌then◌else◌, cond, is_some, Option, Some, None, List, [], ◌∷◌, ◌++◌, length, map, All}
use Rattle.sequential.specs.declared.entry.Entry.{Entry}
use Rattle.sequential.specs.declared.object.Sequential.{Ghosts}
use Rattle.sequential.specs.Histories.{Answered, calls_of, IsEntryWithin}

-- What is seen of a call: a session makes it, and later gets the reply.
pub data Event (C R : Type 0) : Type 0 where
  invocation : ℕ → C → Event C R
  response : ℕ → R → Event C R

-- What a session has of its calls: those that have returned, in order, with their replies, and the one that hasn't.
pub record Calls (C R : Type 0) : Type 0 where
  pub returned : List (C × R)
  pub pending : Option C

module _ {C R : Type 0} where
  -- A response answers the pending call.
  abbrev pub after_response : R → Calls C R → Calls C R
  after_response reply d = record { returned = d.returned ++ replied d.pending reply; pending = None }
    where
      replied : Option C → R → List (C × R)
      replied None reply = []
      replied (Some call) reply = (call, reply) ∷ []

  -- After one event more.
  abbrev pub after_event : ℕ → Calls C R → Event C R → Calls C R
  after_event i d (invocation j call) = if j == i then record { returned = d.returned; pending = Some call } else d
  after_event i d (response j reply) = if j == i then after_response reply d else d

  abbrev pub after_events : ℕ → Calls C R → List (Event C R) → Calls C R
  after_events i d [] = d
  after_events i d (e ∷ es) = after_events i (after_event i d e) es

  -- The calls of session i in these events.
  abbrev pub calls_in : ℕ → List (Event C R) → Calls C R
  calls_in i es = after_events i (record { returned = []; pending = None }) es

  -- How many calls a session has made.
  abbrev pub invoked : Calls C R → ℕ
  invoked d = length d.returned + cond (is_some d.pending) 1 0

  -- The event may come after these: a session makes a call when its last one has returned, and gets a reply to a call that hasn't.
  abbrev pub MayFollow : ℕ → List (Event C R) → Event C R → Type 0
  MayFollow n before (invocation i call) = (1 ≤ i) × (i ≤ n) × ((calls_in i before).pending ≡ None)
  MayFollow n before (response i reply) = (1 ≤ i) × (i ≤ n) × ((calls_in i before).pending ≢ None)

  -- Each session, from 1 to n, makes one call after another.
  abbrev pub IsWellFormed : ℕ → List (Event C R) → Type 0
  IsWellFormed n events = (before after : List (Event C R)) (e : Event C R) → events ≡ before ++ e ∷ after → MayFollow n before e

  -- The calls of session i in a sequential history, with their replies.
  abbrev pub performed_by : ℕ → List (Entry C R) → List (C × R)
  performed_by i history = map (λ a. (a.call, a.reply)) (calls_of i history)

  -- These are the calls that have returned, with their replies, and no more; or these and the pending one, with some reply.
  abbrev pub IsCompletionOf : Calls C R → List (C × R) → Type 0
  IsCompletionOf d performed = (performed ≡ d.returned)
      ⊎ ((call : C) × (reply : R) × (d.pending ≡ Some call) × (performed ≡ d.returned ++ (call, reply) ∷ []))

module _ {O C R : Type 0} (obj : Ghosts O C R) where
  -- The sequential history is a linearization of these events of sessions 1 to n.
  pub record IsLinearization (n : ℕ) (events : List (Event C R)) (history : List (Entry C R)) : Type 0 where
    -- the object can have it
    pub legal : obj.is_legal history
    -- each session has the same calls in both, in the same order and with the same replies, but that a call which hasn't returned may
    -- be completed or left out
    pub equal : (i : ℕ) → 1 ≤ i → i ≤ n → IsCompletionOf (calls_in i events) (performed_by i history)
    pub whose : All (IsEntryWithin n) history
    -- it keeps the order of real time: at any moment, the calls that have returned stand before those that are made later
    pub in_time : (before after : List (Event C R)) → events ≡ before ++ after
        → (i j : ℕ) → 1 ≤ i → i ≤ n → 1 ≤ j → j ≤ n → (x y : Answered C R) (first others earlier later : List (Answered C R))
        → calls_of i history ≡ first ++ x ∷ others → length first < length (calls_in i before).returned
        → calls_of j history ≡ earlier ++ y ∷ later → invoked (calls_in j before) ≤ length earlier
        → x.place < y.place

module _ {O C R : Type 0} (obj : Ghosts O C R) where
  -- These events of sessions 1 to n are linearizable: some sequential history is a linearization of them.
  abbrev pub IsLinearizable : ℕ → List (Event C R) → Type 0
  IsLinearizable n events = (history : List (Entry C R)) × IsLinearization obj n events history
