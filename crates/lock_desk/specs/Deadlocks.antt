-- The deadlocks that the calls of a history made, and what is told of each.
use Rattle.std.specs.Prelude.{◌≡◌, ◌≢◌, ℕ, ◌+◌, ◌-◌, true, List, [], ◌∷◌, ◌++◌, length, map, drop, Some, nat_eq}
use Rattle.std.specs.List.{IsDistinct}
use Rattle.lock_rules.specs.Entries.{Entry}
use Rattle.lock_rules.specs.State.{State, empty, held_mode}
use Rattle.lock_rules.specs.Waits.{waits_for, victim_of}
use Rattle.lock_rules.specs.Step.{step}
use Rattle.lock_rules.specs.Listing.{waiting_line}
use Rattle.lock_desk.specs.declared.deadlock_log.Deadlock.{Deadlock}
use Rattle.lock_desk.specs.declared.deadlock_log.Member.{Member}
pub use Rattle.lock_table.specs.Deadlocks.{Moment, deadlocks_of, moments_at}

-- the deadlocks that the calls of these entries make, the first entry being at this place of the history and served in this state
abbrev pub deadlocks_from : ℕ → State → List Entry → List Moment
deadlocks_from place st [] = []
deadlocks_from place st (e ∷ es) = moments_at place e.session (deadlocks_of st e.session e.call) ++ deadlocks_from (place + 1) (step st e.session e.call).state es

-- the deadlocks of the history, oldest first
abbrev pub deadlocks_in : List Entry → List Moment
deadlocks_in history = deadlocks_from 0 empty history

-- the newest n of a list whose oldest is first, all if there are no more
abbrev pub newest : {X : Type 0} → ℕ → List X → List X
newest n xs = drop (length xs - n) xs

-- what is told of each

-- the session of the first of these members, `last` if there is none
abbrev pub first_session : List Member → ℕ → ℕ
first_session [] last = last
first_session (m ∷ ms) last = m.request.session

-- the member tells the waiting request of its session, which waits for session `next`, and the mode in which that holds the
-- resource
pub record IsMember (st : State) (next : ℕ) (m : Member) : Type 0 where
  pub request : waiting_line st m.request.session ≡ Some m.request
  pub waits : waits_for st.table m.request.session next ≡ true
  pub held : m.held ≡ held_mode st.table next m.request.resource

-- each member tells that it waits for the next one, and the last that it waits for session `last`
abbrev pub AreMembers : State → List Member → ℕ → Type 0
AreMembers st [] last = Unit {0}
AreMembers st (m ∷ ms) last = IsMember st (first_session ms last) m × AreMembers st ms last

-- these members are a cycle in the state: the first is the victim for session s, each waits for the next and the last for the
-- victim, and no session is there twice
pub record IsCycleTold (st : State) (s : ℕ) (ms : List Member) : Type 0 where
  pub victim : first_session ms 0 ≡ victim_of st s
  pub some : ms ≢ []
  pub members : AreMembers st ms (victim_of st s)
  pub once : IsDistinct nat_eq (map (λ m. m.request.session) ms)

-- the deadlock of this moment is told
pub record IsDeadlockTold (m : Moment) (d : Deadlock) : Type 0 where
  pub place : d.place ≡ m.place
  pub session : d.session ≡ m.session
  pub cycle : IsCycleTold m.state m.session d.cycle.items

-- exactly the deadlocks of these moments are told, in their order
abbrev pub AreDeadlocksTold : List Moment → List Deadlock → Type 0
AreDeadlocksTold [] [] = Unit {0}
AreDeadlocksTold [] (d ∷ ds) = ⊥
AreDeadlocksTold (m ∷ ms) [] = ⊥
AreDeadlocksTold (m ∷ ms) (d ∷ ds) = IsDeadlockTold m d × AreDeadlocksTold ms ds
