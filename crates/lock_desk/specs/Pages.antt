-- The locks of one session by pages, and what is promised to a reader of several pages.
use Rattle.std.specs.Prelude.{◌≡◌, ℕ, ◌+◌, ◌≤◌, ◌↔◌, Bool, true, false, ◌&&◌, ◌||◌, ◌==◌, nat_lt, if◌then◌else◌, List, [], ◌∷◌, ◌++◌, length, take, filter, Option, Some, None, is_some, Contains}
use Rattle.lock_modes.specs.declared.Mode.{Mode}
use Rattle.lock_tree.specs.Paths.{same_path}
use Rattle.lock_rules.specs.declared.listing.Claim.{Claim as ListedClaim}
use Rattle.lock_rules.specs.declared.listing.ClaimKind.{ClaimKind}
use Rattle.lock_rules.specs.declared.listing.ClaimKind.TheVariants.{Held, Conversion, Fresh}
use Rattle.lock_rules.specs.Entries.{Entry}
use Rattle.lock_rules.specs.State.{State, held_mode, claims_of}
use Rattle.lock_rules.specs.Legal.{state_of}
use Rattle.lock_rules.specs.Listing.{listing_of, lock_line}
pub use Rattle.session_locks.specs.Resources.{is_behind}

-- a line of this kind is a lock
abbrev pub is_lock : ClaimKind → Bool
is_lock Held = true
is_lock Conversion = false
is_lock Fresh = false

-- the line is a lock of session s on a resource behind `after`
abbrev pub is_lock_of : ℕ → Option (List ℕ) → ListedClaim → Bool
is_lock_of s after l = is_lock l.kind && ((l.session == s) && is_behind after l.resource)

-- the locks of session s on resources behind `after`: those lines of the listing, in its order
abbrev pub locks_of : State → ℕ → Option (List ℕ) → List ListedClaim
locks_of st s after = filter (is_lock_of s after) (listing_of st)

-- one look

-- the locks of session s behind `after` are told exactly, and all its locks are as many as it holds
pub record AreLocksTold (st : State) (s : ℕ) : Type 0 where
  pub locks : (after : Option (List ℕ)) (r : List ℕ) (m : Mode) → Contains (locks_of st s after) (lock_line st s r m) ↔ ((is_behind after r ≡ true) × (held_mode st.table s r ≡ Some m))
  pub count : length (locks_of st s None) ≡ length (claims_of s st.table.held)

-- several looks, one after another

-- a look for a page: the history of the book at that moment, and how many locks are asked for
pub record Look : Type 0 where
  pub history : List Entry
  pub most : ℕ

-- the page of session s behind `after`
abbrev pub page_at : ℕ → Option (List ℕ) → Look → List ListedClaim
page_at s after k = take k.most (locks_of (state_of k.history) s after)

-- the resource behind which the next page begins: that of the last of these lines, `after` if there is none
abbrev pub next_after : Option (List ℕ) → List ListedClaim → Option (List ℕ)
next_after after [] = after
next_after after (l ∷ ls) = next_after (Some l.resource) ls

-- the lines of the pages of session s, each of which begins behind the last lock of the page before, the first one behind `after`
abbrev pub lines_told : ℕ → Option (List ℕ) → List Look → List ListedClaim
lines_told s after [] = []
lines_told s after (k ∷ ks) = page_at s after k ++ lines_told s (next_after after (page_at s after k)) ks

-- one of these pages has fewer locks than were asked for
abbrev pub is_one_short : ℕ → Option (List ℕ) → List Look → Bool
is_one_short s after [] = false
is_one_short s after (k ∷ ks) = nat_lt (length (page_at s after k)) k.most || is_one_short s (next_after after (page_at s after k)) ks

-- how many of these lines are on the resource
abbrev pub lines_on : List ℕ → List ListedClaim → ℕ
lines_on r [] = 0
lines_on r (l ∷ ls) = (if same_path l.resource r then 1 else 0) + lines_on r ls

-- session s holds the resource at each of these looks, in whatever mode
abbrev pub HoldsThroughout : ℕ → List ℕ → List Look → Type 0
HoldsThroughout s r [] = Unit {0}
HoldsThroughout s r (k ∷ ks) = (is_some (held_mode (state_of k.history).table s r) ≡ true) × HoldsThroughout s r ks

-- these pages, whatever was called between the looks, tell no resource twice; and once a page is short, each lock behind `after`
-- that the session held at all looks was told exactly once
pub record DoPagesTell (s : ℕ) (after : Option (List ℕ)) (ks : List Look) : Type 0 where
  pub once : (r : List ℕ) → lines_on r (lines_told s after ks) ≤ 1
  pub all : (r : List ℕ) → is_behind after r ≡ true → HoldsThroughout s r ks → is_one_short s after ks ≡ true → lines_on r (lines_told s after ks) ≡ 1
