-- Internal to this crate, cited by no public contract: the holders of a resource as two columns, one of session numbers
-- and one of mode codes.
use Rattle.std.specs.Prelude.{◌≡◌, ℕ, ◌<◌, ◌≤◌, List, [], ◌∷◌, length, map, min, slice_index_or}
use Rattle.lock_modes.specs.Codes.{code_of, mode_of_code}
use Rattle.lock_holders.specs.declared.session_mode.SessionMode.{SessionMode}
use Rattle.lock_holders.specs.declared.holder_columns.Columns.TheInside.{Inside}
use Rattle.lock_holders.specs.SessionModes.{Ascends}
use Rattle.lock_holders.specs.Holders.{HolderList}

-- the session number of a holder
abbrev pub number_at : SessionMode → ℕ
number_at h = h.session

-- the code of the mode that a holder has
abbrev pub code_at : SessionMode → ℕ
code_at h = code_of h.mode

-- the holders whose numbers and mode codes are in these two columns
abbrev pub side_by_side : List ℕ → List ℕ → List SessionMode
side_by_side [] cs = []
side_by_side (s ∷ ss) [] = []
side_by_side (s ∷ ss) (c ∷ cs) = record { session = s; mode = mode_of_code c } ∷ side_by_side ss cs

-- what contracts see of the columns: the holders, and the lesser of the capacities of the two small vectors
abbrev pub holders_of : Inside → HolderList
holders_of a = record {
  items = side_by_side a.sessions.items a.codes.items;
  capacity = min a.sessions.capacity a.codes.capacity;
}

-- both columns are as long as the list of holders, codes are codes of modes, and session numbers increase
pub record AreColumns (a : Inside) : Type 0 where
  pub sessions : a.sessions.items ≡ map number_at (side_by_side a.sessions.items a.codes.items)
  pub codes : a.codes.items ≡ map code_at (side_by_side a.sessions.items a.codes.items)
  pub rising : Ascends (side_by_side a.sessions.items a.codes.items)

-- the numbers are strictly increasing
abbrev pub DoRise : List ℕ → Type 0
DoRise ns = (i j d : ℕ) → i < j → j < length ns → slice_index_or ns i d < slice_index_or ns j d

-- the first `n` numbers are less than `s`
abbrev pub AreBelow : ℕ → ℕ → List ℕ → Type 0
AreBelow s n ns = (i d : ℕ) → i < n → slice_index_or ns i d < s

-- the numbers from index `n` on are at least `s`
abbrev pub AreNotBelow : ℕ → ℕ → List ℕ → Type 0
AreNotBelow s n ns = (i d : ℕ) → n ≤ i → i < length ns → s ≤ slice_index_or ns i d
