-- Rows of bits, in words of 64. Only private contracts cite these definitions.
use Rattle.std.specs.Prelude.{◌≡◌, ℕ, ◌+◌, ◌-◌, ◌*◌, ◌/◌, ◌<◌, ◌≤◌, Bool, false, ◌&&◌, ◌||◌, if◌then◌else◌, nat_le, nat_lt, zero, suc, List, take}
use Rattle.waits_for.specs.Pairs.{is_met}
pub use Rattle.sequential.specs.Bits.{has_bit}

-- The number of words of a row with a bit for each of n sessions.
abbrev pub words_for : ℕ → ℕ
words_for n = (n + 63) / 64

-- Bit u of row t is set, in rows for n sessions, one after another; false unless t and u are positions of
-- sessions.
abbrev pub marked_in : ℕ → List ℕ → ℕ → ℕ → Bool
marked_in n words t u = nat_lt t n && (nat_lt u n && has_bit words (t * (64 * words_for n) + u))

-- In the rows for n sessions no bit past the last session is set.
abbrev pub IsClearPast : ℕ → List ℕ → Type 0
IsClearPast n words = (t u : ℕ) → t < n → n ≤ u → u < 64 * words_for n → has_bit words (t * (64 * words_for n) + u) ≡ false

-- The number of the first n bits that are not set.
abbrev pub unset_below : ℕ → List ℕ → ℕ
unset_below zero words = 0
unset_below (suc n) words = (if has_bit words n then 0 else 1) + unset_below n words

-- The bits that were set, and a bit from `from` on for each of the first n numbers whose code has a bit of the mask.
abbrev pub HasSetMet : (ℕ → Bool) → ℕ → ℕ → ℕ → List ℕ → List ℕ → List ℕ → Type 0
HasSetMet was from mask n numbers codes words = (j : ℕ) → has_bit words j ≡ (was j || (nat_le from j && is_met mask (j - from) (take n numbers) (take n codes)))
