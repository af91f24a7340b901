-- The waits-for graph: which edges the cells and the lockers
-- determine, and what the rows have of them.
use Rattle.std.specs.Prelude.{◌≡◌, ℕ, ◌+◌, ◌≤◌, Bool, true, false, not, ◌&&◌, ◌||◌, if◌then◌else◌, ◌==◌, List, [], ◌∷◌, take, Option, Some, None, slice_index_or, vec_len}
use Rattle.std.specs.List.{list_any}
use Rattle.waits_for.specs.declared.TheConstants.{MAX_SESSIONS}
use Rattle.waits_for.specs.Pairs.{pairs_of}
use Rattle.lock_modes.specs.declared.Mode.{Mode}
use Rattle.lock_modes.specs.Compatibility.{are_compatible}
use Rattle.lock_rules.specs.State.{number_in}
use Rattle.lock_holders.specs.declared.session_mode.SessionMode.{SessionMode}
use Rattle.lock_table.specs.declared.cells.Cell.{Cell}
use Rattle.lock_table.specs.declared.wait_graph.Waits.{Waits}
use Rattle.lock_table.specs.inner.Cells.{Cells, View, view_of, can_grant, view_after_asking, cell_view}
use Rattle.lock_holders.specs.SessionModes.{has_session, mode_of, with_holder, Ascends, holder_blocks, AreOfSessions}
use Rattle.lock_table.specs.inner.Lockers.{Standing, standing_at}

-- `u` has a request in this queue ahead of that of `s`, or has one and `s` has none
abbrev pub is_ahead : ℕ → ℕ → List SessionMode → Bool
is_ahead u s [] = false
is_ahead u s (q ∷ qs) = if q.session == s then false else ((q.session == u) || is_ahead u s qs)

-- `s` waits here for this target, and `u` blocks it: as a holder with a conflicting mode, or by a request ahead of it
abbrev pub target_blocks : ℕ → ℕ → View → Option Mode → Bool
target_blocks s u v None = false
target_blocks s u v (Some m) = holder_blocks s m u v.holders || is_ahead u s v.waiting

-- `s` waits for the resource of this view, and `u` blocks it
abbrev pub view_blocks : ℕ → ℕ → View → Bool
view_blocks s u v = target_blocks s u v (mode_of s v.waiting)

-- `s` waits for the resource of this cell, and `u` blocks it
abbrev pub cell_blocks : ℕ → ℕ → Cell → Bool
cell_blocks s u c = view_blocks s u (view_of c)

-- `s` waits for resource `r`, if it waits for one, and `u` blocks it
abbrev pub blocks_at : ℕ → ℕ → Cells → Option (List ℕ) → Bool
blocks_at s u cs None = false
blocks_at s u cs (Some r) = view_blocks s u (cell_view r cs)

-- the edge from `s` to `u` that cells and lockers determine: `s` waits, and `u` blocks it
abbrev pub blocks : Cells → List Standing → ℕ → ℕ → Bool
blocks cs ss s u = blocks_at s u cs (standing_at s ss).wanted

-- the rows have exactly the edges that cells and lockers determine, and the number of each open transaction is there
pub record IsCurrent (cs : Cells) (ss : List Standing) (w : Waits) : Type 0 where
  pub pairs : (a b : ℕ) → pairs_of w.rows a b ≡ blocks cs ss (a + 1) (b + 1)
  pub numbers : (a : ℕ) → slice_index_or w.numbers.items a 0 ≡ number_in (standing_at (a + 1) ss).transaction

-- each holder and each waiting session is one of the sessions 1 to `n`
pub record IsOfSessions (n : ℕ) (v : View) : Type 0 where
  pub holders : AreOfSessions n v.holders
  pub waiting : AreOfSessions n v.waiting

-- rows and numbers are those of `n` sessions, and `n` is at most `MAX_SESSIONS`
pub record IsSizedFor (n : ℕ) (w : Waits) : Type 0 where
  pub few : n ≤ MAX_SESSIONS
  pub sessions : w.rows.sessions ≡ n
  pub numbers : vec_len w.numbers ≡ n

-- the rows of the sessions that wait at this resource are current
abbrev pub AreWritten : View → Waits → Type 0
AreWritten v w = (a b : ℕ) → has_session (a + 1) v.waiting ≡ true → pairs_of w.rows a b ≡ view_blocks (a + 1) (b + 1) v

-- the rows of the sessions that wait at this resource are current, and the row of session `s` is empty
pub record IsWritten (s : ℕ) (v : View) (w : Waits) : Type 0 where
  pub within : IsOfSessions w.rows.sessions v
  pub waiting : AreWritten v w
  pub idle : (a b : ℕ) → a + 1 ≡ s → pairs_of w.rows a b ≡ false

-- session `c` has requested a resource whose view is `now`; the rows are still those of the view before, in which it
-- had no request
pub record HasRequestedAt (c : SessionMode) (granted : Bool) (now : View) (w : Waits) : Type 0 where
  pub before : View
  pub written : IsWritten c.session before w
  pub idle : has_session c.session before.waiting ≡ false
  pub granted_is : granted ≡ can_grant c before
  pub after : now ≡ view_after_asking c before

-- the rows are updated for a change of one view: rows of sessions that waited before are dropped, those of sessions
-- that wait after it are current, and all others unchanged
pub record DoFollow (before after : View) (old new : Waits) : Type 0 where
  pub sessions : new.rows.sessions ≡ old.rows.sessions
  pub pairs : (a b : ℕ) → pairs_of new.rows a b ≡ ((pairs_of old.rows a b && not (has_session (a + 1) before.waiting)) || view_blocks (a + 1) (b + 1) after)
  pub numbers : new.numbers ≡ old.numbers

-- edges that a change adds or removes

-- a request for this mode fits beside a session that holds mode `o`, or nothing
abbrev pub fits_beside : Option Mode → Mode → Bool
fits_beside None m = true
fits_beside (Some h) m = are_compatible m h

-- session `s` has a request in this queue that fits beside a session that holds mode `o`, or nothing
abbrev pub has_fitting : ℕ → Option Mode → List SessionMode → Bool
has_fitting s o ws = list_any (λ w. (w.session == s) && fits_beside o w.mode) ws

-- session `s` has a request in this queue that conflicts with mode `m`
abbrev pub has_conflicting : ℕ → Mode → List SessionMode → Bool
has_conflicting s m ws = list_any (λ w. (w.session == s) && not (are_compatible w.mode m)) ws

-- `u` is one of these granted sessions, and `s` has a request in this queue that fits beside it
abbrev pub has_fitting_beside : ℕ → ℕ → List SessionMode → List SessionMode → Bool
has_fitting_beside s u gs ws = list_any (λ g. (g.session == u) && has_fitting s (Some g.mode) ws) gs

-- the holders after these requests are granted, the first one first
abbrev pub with_holders : List SessionMode → List SessionMode → List SessionMode
with_holders [] hs = hs
with_holders (g ∷ gs) hs = with_holders gs (with_holder g hs)

-- the first `n` requests of the queue are granted and not taken off it yet; the rows are still those of the holders before
pub record HasGranted (n : ℕ) (now : View) (w : Waits) : Type 0 where
  pub before : List SessionMode
  pub rising : Ascends before
  pub holders : now.holders ≡ with_holders (take n now.waiting) before
  pub written : AreWritten (record { holders = before; waiting = now.waiting }) w
