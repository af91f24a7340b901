-- The list of the sessions whose wait has ended.
use Rattle.std.specs.Prelude.{◌≡◌, ℕ, Bool, true, false, not, ◌&&◌, ◌||◌, ◌==◌, List, length, is_some}
use Rattle.lock_holders.specs.Woken.{WokenListView, is_ended}
use Rattle.lock_table.specs.declared.lockers.Locker.{Locker}
use Rattle.lock_table.specs.inner.Lockers.{standings_of, standing_at}

-- session `u` waits, by these lockers
abbrev pub waits_at : ℕ → List Locker → Bool
waits_at u ws = is_some (standing_at u (standings_of ws)).wanted

-- from the first lockers to the second, exactly the sessions other than `s` are listed in addition that waited and wait no more;
-- none of them has begun to wait. Session 0 is no session, so that with it nobody is left out
pub record DoNoteEnded (s : ℕ) (old new : List Locker) (a b : WokenListView) : Type 0 where
  pub sized : length b.places ≡ length a.places
  pub waits_ended : (u : ℕ) → is_ended b u ≡ (is_ended a u || (not (u == s) && (waits_at u old && not (waits_at u new))))
  pub waits : (u : ℕ) → (u == s) ≡ false → waits_at u new ≡ true → waits_at u old ≡ true
