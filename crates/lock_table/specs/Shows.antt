-- The refinement relation between the lock table and the states of
-- the sequential lock manager.
use Rattle.std.specs.Prelude.{◌≡◌, ℕ, List, [], ◌∷◌, if◌then◌else◌, map}
use Rattle.lock_tree.specs.Paths.{same_path}
use Rattle.lock_rules.specs.State as rules
use Rattle.lock_rules.specs.declared.calls.Reply.{Reply}
use Rattle.lock_rules.specs.Step.{Outcome}
use Rattle.lock_rules.specs.Queue.{queue}
use Rattle.lock_holders.specs.declared.session_mode.SessionMode.{SessionMode}
use Rattle.lock_table.specs.declared.table.LockTable.{LockTable}
use Rattle.lock_table.specs.inner.Cells.{View}
use Rattle.lock_table.specs.Changes.{view_at, standing}

-- a claim of the rules without its resource: the session and the mode
abbrev pub short : rules.Claim → SessionMode
short c = record { session = c.session; mode = c.mode }

-- the claims on resource `r`, in their order
abbrev pub claims_on : List ℕ → List rules.Claim → List SessionMode
claims_on r [] = []
claims_on r (c ∷ cs) = if same_path c.resource r then short c ∷ claims_on r cs else claims_on r cs

-- the holders and the queue of resource `r` in a table of the rules
abbrev pub view : List ℕ → rules.Table → View
view r t = record { holders = claims_on r t.held; waiting = map short (queue t r) }

-- lock table `d` represents state `st`: both have the same count, the same transaction of each session, and the same
-- holders and queue of each resource
pub record Shows (d : LockTable) (st : rules.State) : Type 0 where
  pub count : d.count ≡ st.count
  pub transactions : (s : ℕ) → (standing s d).transaction ≡ st.begun s
  pub views : (r : List ℕ) → view_at r d ≡ view r st.table

-- the reply is that of the outcome, and the lock table represents its state
abbrev pub DoesAnswer : Outcome → LockTable → Reply → Type 0
DoesAnswer o d reply = (reply ≡ o.reply) × Shows d o.state
