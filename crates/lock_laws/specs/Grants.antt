-- At which place of a history a session was granted the mode that it holds.
use Rattle.std.specs.Prelude.{◌≡◌, ◌≢◌, ℕ, ◌<◌, List, ◌∷◌, ◌++◌, length, Some}
use Rattle.lock_modes.specs.declared.Mode.{Mode}
use Rattle.lock_modes.specs.Compatibility.{IsCompatible}
use Rattle.lock_rules.specs.Entries.{Entry}
use Rattle.lock_rules.specs.State.{held_mode}
use Rattle.lock_rules.specs.Legal.{state_of}
use Rattle.lock_rules.specs.Laws.{GoTogether}

-- the entry at this place granted the session r in mode k, by its own call or by a promotion that the call made: before it the
-- session didn't hold r in k, and after it and each later entry the session does
pub record IsGrantedAt (es : List Entry) (place s : ℕ) (r : List ℕ) (k : Mode) : Type 0 where
  -- the entries before the grant
  pub before : List Entry
  pub entry : Entry
  -- the entries after it
  pub since : List Entry
  pub history : es ≡ before ++ entry ∷ since
  pub at_place : length before ≡ place
  pub not_before : held_mode (state_of before).table s r ≢ Some k
  pub held_since : (front rest : List Entry) → since ≡ front ++ rest → held_mode (state_of (before ++ entry ∷ front)).table s r ≡ Some k

-- if two sessions hold r, and the second was granted its mode at a later place than the first, the mode granted later is
-- compatible, as a mode asked, with the mode granted first
abbrev pub DoLaterGrantsFit : List Entry → Type 0
DoLaterGrantsFit es = (s u first later : ℕ) (r : List ℕ) (k l : Mode) → s ≢ u → IsGrantedAt es first s r k → IsGrantedAt es later u r l → first < later → IsCompatible l k

-- two sessions that hold r and were granted their modes by one entry, by a promotion, have modes that are compatible in at least
-- one order
abbrev pub DoGrantsOfOneEntryGoTogether : List Entry → Type 0
DoGrantsOfOneEntryGoTogether es = (s u place : ℕ) (r : List ℕ) (k l : Mode) → s ≢ u → IsGrantedAt es place s r k → IsGrantedAt es place u r l → GoTogether k l

-- whoever holds a resource was granted its mode at some place
abbrev pub AreHoldersGranted : List Entry → Type 0
AreHoldersGranted es = (s : ℕ) (r : List ℕ) (k : Mode) → held_mode (state_of es).table s r ≡ Some k → (place : ℕ) × IsGrantedAt es place s r k

-- a session was granted the mode that it holds at one place alone
abbrev pub AreGrantsAtOnePlace : List Entry → Type 0
AreGrantsAtOnePlace es = (s p q : ℕ) (r : List ℕ) (k : Mode) → IsGrantedAt es p s r k → IsGrantedAt es q s r k → p ≡ q
