-- What a listing tells of an abort.
use Rattle.std.specs.Prelude.{◌≡◌, ℕ, ◌==◌, true, false, List, length, filter, None, All}
use Rattle.lock_rules.specs.declared.calls.Call.TheVariants.{Abort}
use Rattle.lock_rules.specs.Entries.{Entry}
use Rattle.lock_rules.specs.State.{State, is_open, is_waiting}
use Rattle.lock_rules.specs.Step.{step}
use Rattle.lock_rules.specs.Legal.{state_of}
use Rattle.lock_rules.specs.Listing.{listing_of}
use Rattle.lock_rules.specs.Ended.{ended_waits}
use Rattle.sequential.specs.Histories.{IsEntryWithin}
use Rattle.lock_report.specs.Jam.{granted_by_abort, jammed_behind}

-- each session is as often in the one list as in the other
abbrev pub AreSameSessions : List ℕ → List ℕ → Type 0
AreSameSessions xs ys = (u : ℕ) → length (filter (λ v. v == u) xs) ≡ length (filter (λ v. v == u) ys)

-- the sessions whose requests the abort of session s would grant, found in the listing of the state
abbrev pub granted_as_listed : ℕ → State → List ℕ
granted_as_listed s st = granted_by_abort s (jammed_behind None (listing_of st))

-- the session has a transaction and doesn't wait, and all that the history calls are calls of sessions 1 to n
pub record CanGrant (n : ℕ) (history : List Entry) (s : ℕ) : Type 0 where
  pub within : All (IsEntryWithin n) history
  pub opened : is_open (state_of history) s ≡ true
  pub idle : is_waiting (state_of history) s ≡ false

-- the abort ends as many waits as the listing says that it grants requests
abbrev pub AreAsManyListed : ℕ → List Entry → ℕ → Type 0
AreAsManyListed n history s =
    length (granted_as_listed s (state_of history)) ≡ length (ended_waits n s (state_of history) (step (state_of history) s Abort).state)

-- it ends the waits of the sessions that the listing says, each of them told once
abbrev pub AreTheSameListed : ℕ → List Entry → ℕ → Type 0
AreTheSameListed n history s = AreSameSessions (granted_as_listed s (state_of history)) (ended_waits n s (state_of history) (step (state_of history) s Abort).state)
