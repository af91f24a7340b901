-- A Try, beside a Lock of the same session, resource and mode.
use Rattle.std.specs.Prelude.{◌≡◌, ◌≢◌, ℕ, ◌↔◌, true, List, Some}
use Rattle.lock_modes.specs.declared.Mode.{Mode}
use Rattle.lock_rules.specs.declared.calls.Call.TheVariants.{Lock, Try}
use Rattle.lock_rules.specs.declared.calls.Reply.TheVariants.{Granted, Refused}
use Rattle.lock_rules.specs.declared.calls.Why.TheVariants.{WouldWait}
use Rattle.lock_rules.specs.State.{State, held_mode}
use Rattle.lock_rules.specs.Queue.{fits}
use Rattle.lock_rules.specs.Effects.{IsNotRefused}
use Rattle.lock_rules.specs.Step.{target_of, step}
use Rattle.lock_laws.specs.Victims.{BeginsToWait}

-- a Lock would begin to wait: it passes its tests, and its target is neither held nor granted at once
abbrev pub WouldLockWait : State → ℕ → List ℕ → Mode → Type 0
WouldLockWait st s r m = (k : Mode) × BeginsToWait st s (Lock r m) r k

-- a Try is refused with WouldWait exactly if a Lock in its place would begin to wait
abbrev pub IsTryRefusedIfLockWaits : State → Type 0
IsTryRefusedIfLockWaits st = (s : ℕ) (r : List ℕ) (m : Mode) → ((step st s (Try r m)).reply ≡ Refused WouldWait) ↔ WouldLockWait st s r m

-- a Try that isn't refused with WouldWait has the reply of a Lock in its place, and leads to the same state
abbrev pub DoesTryActAsLock : State → Type 0
DoesTryActAsLock st = (s : ℕ) (r : List ℕ) (m : Mode) → (step st s (Try r m)).reply ≢ Refused WouldWait → step st s (Try r m) ≡ step st s (Lock r m)

-- a Try for a resource that its session holds is granted if a Lock in its place isn't refused and the target is compatible
-- with the modes of all other holders, whoever waits for the resource
abbrev pub AreConversionsTriedPastWaiters : State → Type 0
AreConversionsTriedPastWaiters st = (s : ℕ) (r : List ℕ) (m k : Mode) → held_mode st.table s r ≡ Some k → IsNotRefused st s (Lock r m)
    → fits st.table s r (target_of (Some k) m) ≡ true → (step st s (Try r m)).reply ≡ Granted (target_of (Some k) m)
