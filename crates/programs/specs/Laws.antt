-- What the laws of programs say.
use Rattle.std.specs.Prelude.{◌≡◌, ◌⊎◌, ℕ, ◌+◌, ◌<◌, ◌≤◌, true, false, List, length, Some, slice_get}
use Rattle.sequential.specs.declared.entry.Entry.{Entry}
use Rattle.programs.specs.Form.{Form}
use Rattle.programs.specs.Flat.{entry, flat}

module _ {P A C R : Type 0} (form : Form P A C R) where
  -- How many calls of the program were served.
  abbrev pub served : Entry P A → ℕ
  served e = length (form.replies e.call e.reply)

  -- The k-th call of the program that was served is the entry at k places behind its first, with the k-th reply.
  abbrev pub IsPlaced : List (Entry P A) → Entry P A → Type 0
  IsPlaced h e =
      (k : ℕ) → k < served e
      → (c : C) × (r : R) × (slice_get (form.calls e.call) k ≡ Some c) × (slice_get (form.replies e.call e.reply) k ≡ Some r)
      × (slice_get (flat form h) (form.first e.reply + k) ≡ Some (entry e.session c r))

  -- The calls of the one program stand before those of the other.
  abbrev pub IsBefore : Entry P A → Entry P A → Type 0
  IsBefore e f = form.first e.reply + served e ≤ form.first f.reply

  -- No more calls were served than there are, and all replies but the last are such that the program goes on.
  abbrev pub GoesOnBehind : Entry P A → Type 0
  GoesOnBehind e =
      (served e ≤ length (form.calls e.call))
      × ((k : ℕ) (r : R) → k + 1 < served e → slice_get (form.replies e.call e.reply) k ≡ Some r → form.goes_on r ≡ true)

  -- A program of which not all was served was refused memory, or stopped at its last reply.
  abbrev pub StopsAtCause : Entry P A → Type 0
  StopsAtCause e =
      served e < length (form.calls e.call)
      → (form.refused e.reply ≡ true) ⊎ ((k : ℕ) × (r : R) × (k + 1 ≡ served e) × (slice_get (form.replies e.call e.reply) k ≡ Some r) × (form.goes_on r ≡ false))

  -- If memory was refused, one call at least was served, calls are left, and the program goes on behind each reply.
  abbrev pub IsCut : Entry P A → Type 0
  IsCut e =
      form.refused e.reply ≡ true
      → (0 < served e) × (served e < length (form.calls e.call))
      × ((k : ℕ) (r : R) → slice_get (form.replies e.call e.reply) k ≡ Some r → form.goes_on r ≡ true)
