-- The steps of a search in the waits-for graph. Only private contracts cite these definitions.
use Rattle.std.specs.Prelude.{◌≡◌, ℕ, ◌+◌, ◌<◌, ◌≤◌, ◌⊎◌, Bool, true, false, ◌&&◌, ◌||◌, ◌==◌, if◌then◌else◌, nat_le, nat_lt, List, Option, Some, None, length, slice_index}
use Rattle.std.specs.Int.{bit_at}
use Rattle.waits_for.specs.inner.Bits.{has_bit}
use Rattle.waits_for.specs.Walks.{Reaches, AreOnCircle}

-- Every session that waits for a session is in the set.
abbrev pub HasAllWaiting : (ℕ → ℕ → Bool) → List ℕ → Type 0
HasAllWaiting pairs set = (t u : ℕ) → pairs t u ≡ true → has_bit set t ≡ true

-- Every reached session with an edge to a member of the set is a member.
abbrev pub IsClosedBack : (ℕ → ℕ → Bool) → List ℕ → List ℕ → Type 0
IsClosedBack pairs reached set = (u v : ℕ) → has_bit reached u ≡ true → pairs u v ≡ true → has_bit set v ≡ true → has_bit set u ≡ true

-- u is t, or t reaches it.
abbrev pub IsFrom : (ℕ → ℕ → Bool) → ℕ → ℕ → Type 0
IsFrom pairs t u = (u ≡ t) ⊎ Reaches pairs t u

-- u is t, or reaches it.
abbrev pub IsTo : (ℕ → ℕ → Bool) → ℕ → ℕ → Type 0
IsTo pairs t u = (u ≡ t) ⊎ Reaches pairs u t

-- The set is as it was, or v was added to it, whose row has a member.
abbrev pub DoesAddLead : List ℕ → List ℕ → List ℕ → ℕ → Type 0
DoesAddLead row old new v = (new ≡ old) ⊎ ((u : ℕ) × (has_bit row u ≡ true) × (has_bit old u ≡ true) × ((j : ℕ) → has_bit new j ≡ (has_bit old j || (j == v))))

-- The set has kept its members, and each new member is or reaches a session that each old member is or reaches.
pub record AddsPredecessors (pairs : ℕ → ℕ → Bool) (old new : List ℕ) : Type 0 where
  pub room : length new ≡ length old
  pub kept : (u : ℕ) → has_bit old u ≡ true → has_bit new u ≡ true
  pub lead : (t : ℕ) → ((u : ℕ) → has_bit old u ≡ true → IsTo pairs t u) → (u : ℕ) → has_bit new u ≡ true → IsTo pairs t u

-- Every session on a circle with t is in the set.
abbrev pub HasAllOnCircle : (ℕ → ℕ → Bool) → ℕ → List ℕ → Type 0
HasAllOnCircle pairs t set = (u : ℕ) → AreOnCircle pairs t u → has_bit set u ≡ true

-- If `searched` is the number of a session, every session on a circle with it is in the set.
abbrev pub HasSearched : (ℕ → ℕ → Bool) → ℕ → List ℕ → Type 0
HasSearched pairs searched set = (t : ℕ) → searched ≡ t + 1 → HasAllOnCircle pairs t set

-- Of the positions below n that pass the test, v has the greatest age, and is the least with that age.
pub record IsBest (test : ℕ → Bool) (ages : List ℕ) (n v : ℕ) : Type 0 where
  pub below : v < n
  pub passes : test v ≡ true
  pub greatest : (u : ℕ) → u < n → test u ≡ true → slice_index ages u ≤ slice_index ages v
  pub least : (u : ℕ) → u < n → test u ≡ true → slice_index ages u ≡ slice_index ages v → v ≤ u

-- The best position below n that passes the test, or `None` if none passes.
abbrev pub IsBestBelow : (ℕ → Bool) → List ℕ → ℕ → Option ℕ → Type 0
IsBestBelow test ages n None = (u : ℕ) → u < n → test u ≡ false
IsBestBelow test ages n (Some v) = IsBest test ages n v

-- The best position so far if it is at least as young as u, otherwise u.
abbrev pub younger : List ℕ → Option ℕ → ℕ → ℕ
younger ages None u = u
younger ages (Some v) u = if nat_le (slice_index ages u) (slice_index ages v) then v else u

-- From position `first` on, the test passes the positions below n that the bits of the word stand for.
abbrev pub IsTestOf : (ℕ → Bool) → ℕ → ℕ → ℕ → Type 0
IsTestOf test word first n = (i : ℕ) → i < 64 → test (first + i) ≡ (nat_lt (first + i) n && (bit_at word i == 1))
