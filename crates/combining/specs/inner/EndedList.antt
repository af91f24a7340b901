-- The bits in which a session's passes tell whose waits they have ended.
use Rattle.std.specs.Prelude.{◌≡◌, ℕ, zero, suc, ◌*◌, ◌<◌, ◌≤◌, if◌then◌else◌, List, [], ◌∷◌, length, vec_len}
pub use Rattle.sequential.specs.Bits.{has_bit}
use Rattle.combining.specs.Woken.{WokenView}
use Rattle.combining.specs.declared.woken_set.WokenSet.TheInside.{Inside}

-- The first n sessions whose bit is set, from the last to the first.
abbrev pub marked : List ℕ → ℕ → List ℕ
marked words zero = []
marked words (suc n) = if has_bit words n then suc n ∷ marked words n else marked words n

-- What contracts see of the set.
abbrev pub ended_view_of : Inside → WokenView
ended_view_of a = record { room = a.room; list = marked a.words.items a.room }

-- There is a bit for each session, and the sessions whose bit is set are counted.
pub record IsCounted (a : Inside) : Type 0 where
  pub bits : a.room ≤ 64 * vec_len a.words
  pub small : a.room < 65536
  pub count : a.count ≡ length (marked a.words.items a.room)
