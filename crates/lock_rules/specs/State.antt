-- What the lock manager remembers between two calls, and look-ups in it.
use Rattle.std.specs.Prelude.{ℕ, Bool, false, ◌&&◌, not, if◌then◌else◌, ◌==◌, List, [], ◌∷◌, filter, Option, Some, None, is_some}
use Rattle.lock_modes.specs.declared.Mode.{Mode}
use Rattle.lock_modes.specs.declared.Mode.TheVariants.{NL}
use Rattle.lock_tree.specs.Paths.{same_path}
use Rattle.lock_rules.specs.declared.calls.Transaction.{Transaction}

-- a lock that the session holds, in its mode, or a waiting request of the session, with its target mode
pub record Claim : Type 0 where
  pub session : ℕ
  pub resource : List ℕ
  pub mode : Mode

-- the lock table
pub record Table : Type 0 where
  -- the locks held: one at most for each session and resource, those on one resource in order of session number
  pub held : List Claim
  -- the waiting requests of all resources, in order of arrival: one at most for each session
  pub requests : List Claim

-- the state of the sequential lock manager
pub record State : Type 0 where
  -- how many transactions have begun, which is the number of the newest
  pub count : ℕ
  -- the open transaction of each session, by session number
  pub begun : ℕ → Option Transaction
  pub table : Table

-- the empty lock table
abbrev pub no_locks : Table
no_locks = record { held = []; requests = [] }

-- the state before the first call: no transaction, no lock, no request
abbrev pub empty : State
empty = record { count = 0; begun = λ s. None; table = no_locks }

-- the mode of the session's claim on the resource, None if it has no claim there
abbrev pub mode_in : ℕ → List ℕ → List Claim → Option Mode
mode_in s r [] = None
mode_in s r (c ∷ cs) = if (c.session == s) && same_path c.resource r then Some c.mode else mode_in s r cs

-- the mode of the session's own lock on the resource, None if it has none; a lock on an ancestor doesn't count
abbrev pub held_mode : Table → ℕ → List ℕ → Option Mode
held_mode t s r = mode_in s r t.held

-- the mode, and NL for None: a session without a lock holds NL
abbrev pub mode_or_nothing : Option Mode → Mode
mode_or_nothing None = NL
mode_or_nothing (Some k) = k

-- the waiting request of the session, None if it has none; no session has two
abbrev pub request_of : ℕ → List Claim → Option Claim
request_of s [] = None
request_of s (q ∷ qs) = if q.session == s then Some q else request_of s qs

-- the holders of the resource, each with its mode; in a lock table they are in order of session number
abbrev pub holders : List ℕ → List Claim → List (ℕ × Mode)
holders r [] = []
holders r (c ∷ cs) = if same_path c.resource r then (c.session, c.mode) ∷ holders r cs else holders r cs

-- the claims of the session
abbrev pub claims_of : ℕ → List Claim → List Claim
claims_of s cs = filter (λ c. c.session == s) cs

-- the claims of all other sessions
abbrev pub claims_but : ℕ → List Claim → List Claim
claims_but s cs = filter (λ c. not (c.session == s)) cs

-- the session has an open transaction
abbrev pub is_open : State → ℕ → Bool
is_open st s = is_some (st.begun s)

-- the session has a waiting request
abbrev pub is_waiting : State → ℕ → Bool
is_waiting st s = is_some (request_of s st.table.requests)

-- there is a transaction, and it is doomed
abbrev pub doomed_in : Option Transaction → Bool
doomed_in None = false
doomed_in (Some x) = x.doomed

-- the session's transaction was chosen as a deadlock victim and has not aborted or restarted yet
abbrev pub is_doomed : State → ℕ → Bool
is_doomed st s = doomed_in (st.begun s)

-- the number of the transaction, 0 for None
abbrev pub number_in : Option Transaction → ℕ
number_in None = 0
number_in (Some x) = x.number

-- the number of the session's open transaction, 0 if it has none
abbrev pub number_of : State → ℕ → ℕ
number_of st s = number_in (st.begun s)

-- the state with this transaction for the session, or with none
abbrev pub with_begun : ℕ → Option Transaction → State → State
with_begun s o st = record { count = st.count; begun = λ u. if u == s then o else st.begun u; table = st.table }

-- the state with this lock table
abbrev pub with_table : Table → State → State
with_table t st = record { count = st.count; begun = st.begun; table = t }
