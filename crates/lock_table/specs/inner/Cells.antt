-- The view of a resource, which is its holders and its queue, what
-- each operation makes of a view, and the cells.
use Rattle.std.specs.Prelude.{◌≡◌, ℕ, ◌+◌, ◌-◌, ◌≤◌, Bool, true, false, not, ◌&&◌, ◌||◌, if◌then◌else◌, List, [], ◌∷◌, ◌++◌, length, take, position, Option, Some, None, IfSome, vec_len}
use Rattle.std.specs.Map.{lookup, keys_of}
use Rattle.lock_tree.specs.Paths.{same_path}
use Rattle.lock_holders.specs.declared.session_mode.SessionMode.{SessionMode}
use Rattle.lock_holders.specs.SessionModes.{has_session, times, with_holder, without, is_nobody, fits_among, Ascends}
use Rattle.lock_table.specs.declared.cells.GivenUp.{GivenUp}
use Rattle.lock_table.specs.declared.cells.GivenUp.TheVariants as claim
use Rattle.lock_table.specs.declared.cells.RequestStatus.{RequestStatus}
use Rattle.lock_table.specs.declared.cells.RequestStatus.TheVariants.{Granted, Waiting}
use Rattle.lock_table.specs.declared.cells.Cell.{Cell}

-- the holders and the wait queue of one resource
pub record View : Type 0 where
  pub holders : List SessionMode
  pub waiting : List SessionMode

-- no holder and no waiting request
abbrev pub no_view : View
no_view = record { holders = []; waiting = [] }

-- the first request of the queue, if it fits beside the holders
abbrev pub next_grant : List SessionMode → List SessionMode → Option SessionMode
next_grant hs [] = None
next_grant hs (q ∷ qs) = if fits_among q hs then Some q else None

-- the requests of the queue are granted in order, up to the first that does not fit
abbrev pub view_after_grants : List SessionMode → List SessionMode → View
view_after_grants hs [] = record { holders = hs; waiting = [] }
view_after_grants hs (q ∷ qs) = if fits_among q hs then view_after_grants (with_holder q hs) qs else record { holders = hs; waiting = q ∷ qs }

-- the queue of the view is promoted
abbrev pub view_after_promotion : View → View
view_after_promotion v = view_after_grants v.holders v.waiting

-- the lock of session `s`, or its request, is removed; nothing is promoted
abbrev pub view_after_giving_up : GivenUp → ℕ → View → View
view_after_giving_up claim.Lock s v = record { holders = without s v.holders; waiting = v.waiting }
view_after_giving_up claim.Request s v = record { holders = v.holders; waiting = without s v.waiting }

-- a request is given up
abbrev pub is_request : GivenUp → Bool
is_request claim.Lock = false
is_request claim.Request = true

-- the lock of session `s`, or its request, is removed, and the queue is promoted
abbrev pub view_after_freeing : GivenUp → ℕ → View → View
view_after_freeing p s v = view_after_promotion (view_after_giving_up p s v)

-- the request is granted at once: it fits, and it is a conversion or nobody waits
abbrev pub can_grant : SessionMode → View → Bool
can_grant c v = fits_among c v.holders && (has_session c.session v.holders || is_nobody v.waiting)

-- the view after session `c.session` has got the mode `c.mode`
abbrev pub view_with_holder : SessionMode → View → View
view_with_holder c v = record { holders = with_holder c v.holders; waiting = v.waiting }

-- the request was granted at once
abbrev pub is_granted : RequestStatus → Bool
is_granted Granted = true
is_granted Waiting = false

-- the queue with the request inserted behind the conversions at its front, which are the requests of holders
abbrev pub behind_conversions : SessionMode → List SessionMode → List SessionMode → List SessionMode
behind_conversions c hs [] = c ∷ []
behind_conversions c hs (q ∷ qs) = if has_session q.session hs then q ∷ behind_conversions c hs qs else c ∷ q ∷ qs

-- the queue with the request added: a conversion behind the other conversions, a fresh request at the end
abbrev pub queue_with : SessionMode → List SessionMode → List SessionMode → List SessionMode
queue_with c hs qs = if has_session c.session hs then behind_conversions c hs qs else qs ++ c ∷ []

-- the view after a request: granted if it can be granted at once, and else queued
abbrev pub view_after_asking : SessionMode → View → View
view_after_asking c v = if can_grant c v then record { holders = with_holder c v.holders; waiting = v.waiting } else record { holders = v.holders; waiting = queue_with c v.holders v.waiting }

-- one cell

-- the view of the resource of a cell
abbrev pub view_of : Cell → View
view_of c = record { holders = c.holders.items; waiting = c.waiting.items }

-- the list of holders has room for all waiting sessions too
abbrev pub HasRoom : Cell → Type 0
HasRoom c = length c.holders.items + vec_len c.waiting ≤ c.holders.capacity

-- holders are in order of session number, each session has at most one request in the queue, and no session has number
-- 0
pub record IsOnce (v : View) : Type 0 where
  pub rising : Ascends v.holders
  pub once : (s : ℕ) → times s v.waiting ≤ 1
  pub holders : has_session 0 v.holders ≡ false
  pub waiting : has_session 0 v.waiting ≡ false

-- there is a holder or a waiting request
abbrev pub is_busy : View → Bool
is_busy v = not (is_nobody v.holders && is_nobody v.waiting)

-- the invariant of a cell in use, between two operations
pub record IsKeptCell (c : Cell) : Type 0 where
  pub room : HasRoom c
  pub once : IsOnce (view_of c)
  pub busy : is_busy (view_of c) ≡ true

-- the table of cells

-- each resource that is held or waited for, with its cell
abbrev pub Cells : Type 0
Cells = List (List ℕ × Cell)

-- the cell of resource `r`, if it has one
abbrev pub cell_at : List ℕ → Cells → Option Cell
cell_at r cs = lookup (same_path r) cs

-- the view of a resource with this cell, if it has one
abbrev pub view_in : Option Cell → View
view_in None = no_view
view_in (Some c) = view_of c

-- the view of resource `r`
abbrev pub cell_view : List ℕ → Cells → View
cell_view r cs = view_in (cell_at r cs)

-- the invariant of each cell
abbrev pub AreKeptCells : Cells → Type 0
AreKeptCells cs = (r : List ℕ) → IfSome (cell_at r cs) IsKeptCell

-- the view of resource `r` is now `v`, the views of all others are unchanged, and the invariant holds
pub record CellsBecame (r : List ℕ) (v : View) (old new : Cells) : Type 0 where
  pub views : (q : List ℕ) → cell_view q new ≡ (if same_path r q then v else cell_view q old)
  pub kept : AreKeptCells new

-- operation `f` was applied to the view of resource `r`, and the views of all others are unchanged
abbrev pub ViewBecame : List ℕ → (View → View) → Cells → Cells → Type 0
ViewBecame r f old new = CellsBecame r (f (cell_view r old)) old new

-- the place of resource `r`: the index of its cell, or `None` if it has no cell
abbrev pub IsPlace : List ℕ → Cells → Option ℕ → Type 0
IsPlace r cs None = cell_at r cs ≡ None
IsPlace r cs (Some i) = Some i ≡ position (same_path r) (keys_of cs)

-- the resources whose cells are in use: all keys, without the last one if it is provisional
abbrev pub in_use : List (List ℕ) → Bool → List (List ℕ)
in_use rs true = take (length rs - 1) rs
in_use rs false = rs

-- what contracts see of the keys of a table of cells: the resources in use, and whether there is a provisional key
pub record Keys : Type 0 where
  pub used : List (List ℕ)
  pub has_provisional : Bool

-- what contracts see of the table of cells: the cells in use
pub record Table : Type 0 where
  pub entries : Cells
