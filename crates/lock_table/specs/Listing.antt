-- The lines that a lock table gives for a listing.
use Rattle.std.specs.Prelude.{ℕ, List, ◌++◌, map, if◌then◌else◌, Option, Some, None}
use Rattle.std.specs.List.{flat_map}
use Rattle.std.specs.Map.{keys_of}
use Rattle.lock_modes.specs.declared.Mode.{Mode}
use Rattle.lock_rules.specs.declared.calls.Transaction.{Transaction}
use Rattle.lock_rules.specs.declared.listing.Claim.{Claim}
use Rattle.lock_rules.specs.declared.listing.ClaimKind.{ClaimKind}
use Rattle.lock_rules.specs.declared.listing.ClaimKind.TheVariants.{Held, Conversion, Fresh}
use Rattle.lock_rules.specs.State.{number_in, doomed_in}
use Rattle.lock_table.specs.declared.lockers.Locker.{Locker}
use Rattle.lock_holders.specs.declared.session_mode.SessionMode.{SessionMode}
use Rattle.lock_table.specs.declared.table.LockTable.{LockTable}
use Rattle.lock_table.specs.inner.Cells.{View}
use Rattle.lock_holders.specs.SessionModes.{has_session, mode_of}
use Rattle.session_locks.specs.Resources.{in_order}
use Rattle.lock_table.specs.inner.Lockers.{Standing, no_standing, standing_of}
use Rattle.lock_table.specs.Changes.{view_at, standing}

-- what a locker says of its session, and nothing if there is no such session
abbrev pub standing_in : Option Locker → Standing
standing_in None = no_standing
standing_in (Some w) = standing_of w

-- the transaction of session `s`, as a listing shows it
abbrev pub transaction_shown : LockTable → ℕ → Transaction
transaction_shown d s = record { number = number_in (standing s d).transaction; doomed = doomed_in (standing s d).transaction }

-- a lock on resource `r` or a request for it, as a line of the listing
abbrev pub line : LockTable → List ℕ → ClaimKind → SessionMode → Claim
line d r kind c = record { resource = r; session = c.session; transaction = transaction_shown d c.session; mode = c.mode; kind = kind }

-- the kind of a request of session `s`, beside these holders
abbrev pub kind_beside : List SessionMode → ℕ → ClaimKind
kind_beside hs s = if has_session s hs then Conversion else Fresh

-- a request for resource `r`, which these hold, as a line of the listing
abbrev pub request_line : LockTable → List ℕ → List SessionMode → SessionMode → Claim
request_line d r hs q = line d r (kind_beside hs q.session) q

-- the lines of a resource with this view: its holders, then its queue
abbrev pub lines_in : LockTable → List ℕ → View → List Claim
lines_in d r v = map (line d r Held) v.holders ++ map (request_line d r v.holders) v.waiting

-- the lines of resource `r`
abbrev pub lines_at : LockTable → List ℕ → List Claim
lines_at d r = lines_in d r (view_at r d)

-- the lines of all resources that have a cell, in the order of resources
abbrev pub lines_of : LockTable → List Claim
lines_of d = flat_map (lines_at d) (in_order (keys_of d.cells.entries))

-- a request of session `s` for this mode of resource `r`, if there is one, as a line of the listing
abbrev pub asked_line : LockTable → ℕ → List ℕ → Option Mode → Option Claim
asked_line d s r None = None
asked_line d s r (Some m) = Some (request_line d r (view_at r d).holders (record { session = s; mode = m }))

-- the request of session `s`, which waits for this resource, as a line of the listing
abbrev pub request_at : LockTable → ℕ → Option (List ℕ) → Option Claim
request_at d s None = None
request_at d s (Some r) = asked_line d s r (mode_of s (view_at r d).waiting)
