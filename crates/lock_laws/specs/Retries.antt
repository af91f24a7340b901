-- Transactions that stay open, restarted or not, and how old they are beside others.
use Rattle.std.specs.Prelude.{◌≡◌, ◌≢◌, ℕ, ◌<◌, true, false, List, ◌++◌, All}
use Rattle.lock_rules.specs.declared.calls.Call.{Call}
use Rattle.lock_rules.specs.declared.calls.Call.TheVariants.{Commit, Abort}
use Rattle.lock_rules.specs.Entries.{Entry}
use Rattle.lock_rules.specs.State.{State, is_open, is_doomed, number_of}
use Rattle.lock_rules.specs.Legal.{state_of}
use Rattle.lock_laws.specs.Cycles.{DoesDoom}

-- the entry is no commit and no abort of the session: it may be a restart
abbrev pub DoesKeepOpen : ℕ → Entry → Type 0
DoesKeepOpen s e = e.session ≡ s → (e.call ≢ Commit) × (e.call ≢ Abort)

-- a transaction open after the front is open after the rest, with its number, if its session doesn't commit or abort it
abbrev pub DoesNumberStand : List Entry → List Entry → Type 0
DoesNumberStand front rest = (s : ℕ) → is_open (state_of front) s ≡ true → All (DoesKeepOpen s) rest →
    (is_open (state_of (front ++ rest)) s ≡ true) × (number_of (state_of (front ++ rest)) s ≡ number_of (state_of front) s)

-- u has an open transaction, with a lower number than that of s
abbrev pub IsOlder : State → ℕ → ℕ → Type 0
IsOlder st u s = (is_open st u ≡ true) × (number_of st u < number_of st s)

-- while a transaction stays open, nobody becomes older than it: whoever is older after the rest had that transaction after the front
abbrev pub DoesNobodyBecomeOlder : List Entry → List Entry → Type 0
DoesNobodyBecomeOlder front rest = (s u : ℕ) → is_open (state_of front) s ≡ true → All (DoesKeepOpen s) rest → IsOlder (state_of (front ++ rest)) u s →
    IsOlder (state_of front) u s × (number_of (state_of (front ++ rest)) u ≡ number_of (state_of front) u)

-- whoever a call dooms is younger than another open transaction
abbrev pub AreVictimsYounger : State → Type 0
AreVictimsYounger st = (s v : ℕ) (c : Call) → DoesDoom st s c v → (u : ℕ) × IsOlder st u v

-- the session's transaction is open, and older than each other open one
abbrev pub IsOldest : State → ℕ → Type 0
IsOldest st s = (is_open st s ≡ true) × ((u : ℕ) → is_open st u ≡ true → u ≢ s → number_of st s < number_of st u)

-- no call dooms the oldest transaction
abbrev pub IsOldestSpared : State → Type 0
IsOldestSpared st = (s v : ℕ) (c : Call) → IsOldest st v → DoesDoom st s c v → ⊥

-- a transaction that is the oldest after the front, and not doomed, is so after the rest, if its session doesn't commit or abort it
abbrev pub DoesOldestStand : List Entry → List Entry → Type 0
DoesOldestStand front rest = (s : ℕ) → IsOldest (state_of front) s → is_doomed (state_of front) s ≡ false → All (DoesKeepOpen s) rest →
    IsOldest (state_of (front ++ rest)) s × (is_doomed (state_of (front ++ rest)) s ≡ false)
