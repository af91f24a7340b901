-- What the lockers say of each session.
use Rattle.std.specs.Prelude.{◌≡◌, ℕ, Bool, true, false, not, if◌then◌else◌, ◌⊎◌, List, [], ◌∷◌, ◌++◌, map, filter, Option, Some, None, slice_index_or}
use Rattle.lock_tree.specs.Paths.{same_path}
use Rattle.lock_rules.specs.declared.calls.Transaction.{Transaction}
use Rattle.lock_table.specs.declared.lockers.Locker.{Locker}
use Rattle.lock_table.specs.inner.Cells.{View}
use Rattle.lock_holders.specs.SessionModes.{has_session}
use Rattle.session_locks.specs.Resources.{has_path}
use Rattle.lock_table.specs.inner.Requests.{wanted_in}

-- what a locker says of its session: its open transaction, the resources that it holds, and the resource that it waits for
pub record Standing : Type 0 where
  pub transaction : Option Transaction
  pub held : List (List ℕ)
  pub wanted : Option (List ℕ)

-- a session without a transaction, a lock or a request
abbrev pub no_standing : Standing
no_standing = record { transaction = None; held = []; wanted = None }

-- what a locker says
abbrev pub standing_of : Locker → Standing
standing_of w = record { transaction = w.transaction; held = w.held.items; wanted = wanted_in w.wanted }

-- what the lockers say, by session number. Number 0 is no session's
abbrev pub standings_of : List Locker → List Standing
standings_of ws = no_standing ∷ map standing_of ws

-- what they say of session `s`
abbrev pub standing_at : ℕ → List Standing → Standing
standing_at s ss = slice_index_or ss s no_standing

-- the resources without `r`
abbrev pub paths_but : List ℕ → List (List ℕ) → List (List ℕ)
paths_but r rs = filter (λ q. not (same_path q r)) rs

-- resource `r` is the one waited for
abbrev pub is_wanted : List ℕ → Option (List ℕ) → Bool
is_wanted r None = false
is_wanted r (Some q) = same_path q r

-- the resources with `r`, at the end if it is new
abbrev pub with_path : List ℕ → List (List ℕ) → List (List ℕ)
with_path r rs = if has_path r rs then rs else rs ++ r ∷ []

-- after a grant of `r`: the session holds `r` and doesn't wait
abbrev pub standing_after_grant : List ℕ → Standing → Standing
standing_after_grant r x = record { transaction = x.transaction; held = with_path r x.held; wanted = None }

-- after a request for `r`: granted, or waiting
abbrev pub standing_after_asking : Bool → List ℕ → Standing → Standing
standing_after_asking true r x = standing_after_grant r x
standing_after_asking false r x = record { transaction = x.transaction; held = x.held; wanted = Some r }

-- nothing has changed for the session, or its waiting request for `r` was granted
abbrev pub IsSameOrGranted : List ℕ → Standing → Standing → Type 0
IsSameOrGranted r x y = (y ≡ x) ⊎ ((is_wanted r x.wanted ≡ true) × (y ≡ standing_after_grant r x))

-- so it is for each session
abbrev pub AreSameOrGranted : List ℕ → List Standing → List Standing → Type 0
AreSameOrGranted r old new = (s : ℕ) → IsSameOrGranted r (standing_at s old) (standing_at s new)

-- the lockers and the cell of `r` agree: a session holds `r` in its locker exactly if it is among the holders, and waits for
-- `r` in its locker exactly if it is in the queue
pub record DoAgree (r : List ℕ) (v : View) (ss : List Standing) : Type 0 where
  pub held : (s : ℕ) → has_path r (standing_at s ss).held ≡ has_session s v.holders
  pub wanted : (s : ℕ) → is_wanted r (standing_at s ss).wanted ≡ has_session s v.waiting
