-- The lines that a lock table gives for a page of a session's locks.
use Rattle.std.specs.Prelude.{ℕ, List, [], ◌∷◌, Option, Some, None}
use Rattle.std.specs.List.{flat_map}
use Rattle.lock_modes.specs.declared.Mode.{Mode}
use Rattle.lock_rules.specs.declared.listing.Claim.{Claim}
use Rattle.lock_rules.specs.declared.listing.ClaimKind.TheVariants.{Held}
use Rattle.lock_table.specs.declared.table.LockTable.{LockTable}
use Rattle.session_locks.specs.Resources.{first_behind}
use Rattle.lock_table.specs.Changes.{standing, mode_held}
use Rattle.lock_table.specs.Listing.{line}

-- the line of session `s`, which holds resource `r` in this mode, and none if it doesn't hold it
abbrev pub lock_lines : LockTable → ℕ → List ℕ → Option Mode → List Claim
lock_lines d s r None = []
lock_lines d s r (Some m) = line d r Held (record { session = s; mode = m }) ∷ []

-- the line of session `s` on resource `r`
abbrev pub lock_lines_at : LockTable → ℕ → List ℕ → List Claim
lock_lines_at d s r = lock_lines d s r (mode_held d s r)

-- the first `n` locks of session `s` behind `after`
abbrev pub page_of : LockTable → ℕ → Option (List ℕ) → ℕ → List Claim
page_of d s after n = flat_map (lock_lines_at d s) (first_behind n after (standing s d).held)
