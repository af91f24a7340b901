-- The holders of one resource, and where a session is among them.
use Rattle.std.specs.Prelude.{◌≡◌, ℕ, ◌<◌, ◌≤◌, List, length, slice_index_or}
use Rattle.lock_holders.specs.declared.session_mode.SessionMode.{SessionMode}
use Rattle.lock_holders.specs.declared.holder_columns.HolderPlace.{HolderPlace}
use Rattle.lock_holders.specs.declared.holder_columns.HolderPlace.TheVariants.{Own, Between}

-- the holders of a resource with their modes, and for how many holders there is room
pub record HolderList : Type 0 where
  pub items : List SessionMode
  pub capacity : ℕ

-- the first `n` holders have numbers below session `s`
abbrev pub AreLesser : ℕ → ℕ → List SessionMode → Type 0
AreLesser s n cs = (i : ℕ) (d : SessionMode) → i < n → (slice_index_or cs i d).session < s

-- the holders from index `n` on have numbers above session `s`
abbrev pub AreGreater : ℕ → ℕ → List SessionMode → Type 0
AreGreater s n cs = (i : ℕ) (d : SessionMode) → n ≤ i → i < length cs → s < (slice_index_or cs i d).session

-- session `s` is the holder at index `n`; those before it have lesser numbers, those behind it greater ones
pub record IsOwn (s : ℕ) (cs : List SessionMode) (n : ℕ) : Type 0 where
  pub within : n < length cs
  pub lesser : AreLesser s n cs
  pub here : (d : SessionMode) → (slice_index_or cs n d).session ≡ s
  pub greater : (i : ℕ) (d : SessionMode) → n < i → i < length cs → s < (slice_index_or cs i d).session

-- session `s` is no holder: those before index `n` have lesser numbers, those from there on greater ones
pub record IsBetween (s : ℕ) (cs : List SessionMode) (n : ℕ) : Type 0 where
  pub within : n ≤ length cs
  pub lesser : AreLesser s n cs
  pub greater : AreGreater s n cs

-- the place is that of session `s` among the holders: its own index, or the index at which it would be inserted
abbrev pub IsPlaceOf : ℕ → List SessionMode → HolderPlace → Type 0
IsPlaceOf s cs (Own n) = IsOwn s cs n
IsPlaceOf s cs (Between n) = IsBetween s cs n
