-- Histories with the mode U, worked by hand, and what U promises in every state.
use Rattle.std.specs.Prelude.{◌≡◌, ◌≢◌, ℕ, List, [], ◌∷◌, Some}
use Rattle.lock_modes.specs.declared.Mode.TheVariants.{IS, IX, S, U, X}
use Rattle.lock_rules.specs.declared.calls.Call.TheVariants.{Begin, Lock, Convert, Poll, Commit}
use Rattle.lock_rules.specs.declared.calls.Reply.TheVariants.{Began, Granted, Waiting, Clear, Committed, Refused}
use Rattle.lock_rules.specs.declared.calls.Why.TheVariants.{ParentNotHeld}
use Rattle.lock_rules.specs.Entries.{Entry}
use Rattle.lock_rules.specs.State.{State, held_mode}
use Rattle.lock_rules.specs.Examples.{entry, database}

-- no two sessions hold one resource in U
abbrev pub IsUpdateAlone : State → Type 0
IsUpdateAlone st = (s u : ℕ) (r : List ℕ) → s ≢ u → held_mode st.table s r ≡ Some U → held_mode st.table u r ≡ Some U → ⊥

-- U is granted beside a reader that came first. A reader that comes after U waits, also once the first reader is gone, until
-- the transaction with U has written and committed.
abbrev pub update_beside_readers : List Entry
update_beside_readers =
    entry 1 Begin (Began 1) ∷ entry 2 Begin (Began 2) ∷ entry 3 Begin (Began 3)
    ∷ entry 1 (Lock (database 1) S) (Granted S)
    ∷ entry 2 (Lock (database 1) U) (Granted U)
    ∷ entry 3 (Lock (database 1) S) Waiting
    ∷ entry 1 Commit (Committed 1)
    ∷ entry 3 Poll Waiting
    ∷ entry 2 (Convert (database 1) X) (Granted X)
    ∷ entry 2 Commit (Committed 1)
    ∷ entry 3 Poll Clear
    ∷ []

-- A second U waits for the first. The least mode at or above U and IX is X.
abbrev pub update_with_intention : List Entry
update_with_intention =
    entry 1 Begin (Began 1) ∷ entry 2 Begin (Began 2)
    ∷ entry 1 (Lock (database 1) U) (Granted U)
    ∷ entry 2 (Lock (database 1) U) Waiting
    ∷ entry 1 (Lock (database 1) IX) (Granted X)
    ∷ []

-- U needs IX of the parent, as X does, and is enough of a parent for S but not for X.
abbrev pub update_under_parent : List Entry
update_under_parent =
    entry 1 Begin (Began 1)
    ∷ entry 1 (Lock (database 1) IS) (Granted IS)
    ∷ entry 1 (Lock (1 ∷ 1 ∷ []) U) (Refused ParentNotHeld)
    ∷ entry 1 (Lock (database 1) IX) (Granted IX)
    ∷ entry 1 (Lock (1 ∷ 1 ∷ []) U) (Granted U)
    ∷ entry 1 (Lock (1 ∷ 1 ∷ 1 ∷ []) S) (Granted S)
    ∷ entry 1 (Lock (1 ∷ 1 ∷ 1 ∷ []) X) (Refused ParentNotHeld)
    ∷ entry 1 (Lock (1 ∷ 1 ∷ []) IX) (Granted X)
    ∷ entry 1 (Lock (1 ∷ 1 ∷ 1 ∷ []) X) (Granted X)
    ∷ []

-- Two transactions read a resource and then write it, one after the other and without a deadlock, since both read in U.
abbrev pub updates_one_after_another : List Entry
updates_one_after_another =
    entry 1 Begin (Began 1) ∷ entry 2 Begin (Began 2)
    ∷ entry 1 (Lock (database 1) U) (Granted U)
    ∷ entry 2 (Lock (database 1) U) Waiting
    ∷ entry 1 (Convert (database 1) X) (Granted X)
    ∷ entry 1 Commit (Committed 1)
    ∷ entry 2 Poll Clear
    ∷ entry 2 (Convert (database 1) X) (Granted X)
    ∷ entry 2 Commit (Committed 1)
    ∷ []
