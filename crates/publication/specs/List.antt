-- The publication list: the records met from the head word by the links up to the end mark, and what holds of the
-- list between any two atomic steps.
use Rattle.std.specs.Prelude.{◌≡◌, ◌≢◌, ℕ, ◌<◌, ◌⊎◌, ◌==◌, cond, Bool, true, false, Option, Some, None, List, [], ◌∷◌, ◌++◌, length, drop, slice_index}
use Rattle.sequential.specs.Bounds.{Bounds, keeping_nothing}
use mathlib.Core.Option as opt
use Rattle.std.specs.Global.{Box}
use Rattle.publication.specs.Words.{link_of, END, FREE, OUT, CLOSED, EMPTY}
use Rattle.publication.specs.Views.{Listing}
use Rattle.publication.specs.Rule.{BoardState, word, home, seat, IsOrderly}
use Rattle.publication.specs.declared.slot.Load.{Load}
use Rattle.publication.specs.declared.slot.SlotValue.TheVariants.{ObjectLoad}
use Rattle.sequential.specs.declared.object.Sequential.{Ghosts}

-- Record q is on the list.
abbrev pub IsOn : ℕ → List ℕ → Type 0
IsOn q [] = ⊥
IsOn q (x ∷ xs) = (q ≡ x) ⊎ IsOn q xs

-- No record is on the list twice.
abbrev pub AreApart : List ℕ → Type 0
AreApart [] = Unit {0}
AreApart (x ∷ xs) = (IsOn x xs → ⊥) × AreApart xs

-- The number of the list's first record, or END: the value of the head word, or of the link in front of this rest of
-- the list.
abbrev pub head_of : List ℕ → ℕ
head_of [] = END
head_of (x ∷ xs) = x

-- The list's first record, if it has one.
abbrev pub first_of : List ℕ → Option ℕ
first_of [] = None
first_of (x ∷ xs) = Some x

-- The records behind record q.
abbrev pub behind : ℕ → List ℕ → List ℕ
behind q [] = []
behind q (x ∷ xs) = cond (q == x) xs (behind q xs)

-- The list without the record right behind q.
abbrev pub without : ℕ → List ℕ → List ℕ
without q [] = []
without q (x ∷ xs) = cond (q == x) (x ∷ drop 1 xs) (x ∷ without q xs)

-- The list with record w inserted right behind q.
abbrev pub with_behind : ℕ → ℕ → List ℕ → List ℕ
with_behind q w [] = []
with_behind q w (x ∷ xs) = cond (q == x) (x ∷ w ∷ xs) (x ∷ with_behind q w xs)

-- Read from k on by these links, the list is exactly the records met before END.
abbrev pub Chain : (ℕ → ℕ) → ℕ → List ℕ → Type 0
Chain link k [] = k ≡ END
Chain link k (x ∷ xs) = (k ≡ x) × Chain link (link x) xs

module _ {O C R : Type 0} where
  -- The link word of record i; with i = 0, the head word.
  abbrev pub link : BoardState O C R → ℕ → ℕ
  link s i = slice_index s.words (link_of i)

-- The record `off` that the combiner has unlinked isn't on the list, and its link names the record that follows
-- `before`.
pub record IsUnlinked (link : ℕ → ℕ) (few : ℕ) (list : List ℕ) (off before : ℕ) : Type 0 where
  pub gone : IsOn off list → ⊥
  pub small : off < few
  pub front : List ℕ
  pub rest : List ℕ
  pub seam : list ≡ front ++ before ∷ rest
  pub link_is : link off ≡ head_of rest

-- What the combiner knows of the list: its route is the list without the records that were linked at the head since
-- the walk began, and its view names the unlinked record.
pub record IsWalking (list : List ℕ) (off before : ℕ) (w : Listing) : Type 0 where
  pub new : List ℕ
  pub list_is : list ≡ new ++ w.route
  pub off_is : w.off ≡ off
  pub before_is : off ≢ 0 → w.before ≡ before

-- Whether a record has to be on the list, given its state word and whether its session's last published call is
-- listed. EMPTY: yes. OUT: no. CLOSED: either. With a call pending: exactly if the call is listed.
abbrev pub belongs : ℕ → Bool → Option Bool
belongs w listed = cond (w == EMPTY) (Some true) (cond (w == OUT) (Some false) (cond (w == CLOSED) None (Some listed)))

module _ {O C R : Type 0} where
  -- Whether record j has to be on the list.
  abbrev pub is_listed : BoardState O C R → ℕ → Option Bool
  is_listed s j = belongs (word s j) (seat s j).own.listed

  -- What holds of the publication list between any two atomic steps.
  pub record IsLinked (s : BoardState O C R) : Type 0 where
    -- the records on the list, first to last
    pub list : List ℕ
    pub chain : Chain (link s) (link s 0) list
    pub apart : AreApart list
    -- each of them is a session's record
    pub within : (q : ℕ) → IsOn q list → (0 < q) × (q < length s.homes)
    -- the record that the combiner has unlinked, and neither marked OUT nor linked again, or 0; and the record that was
    -- in front of it
    pub off : ℕ
    pub before : ℕ
    pub unlinked : off ≢ 0 → IsUnlinked (link s) (length s.homes) list off before
    -- while the lock word is FREE, no record is in between
    pub whole : word s 0 ≡ FREE → off ≡ 0
    -- each record that has to be on the list is on it, or is `off`
    pub ons : (j : ℕ) → 0 < j → is_listed s j ≡ Some true → IsOn j list ⊎ (j ≡ off)
    -- no record that must not be on the list is on it, or is `off`
    pub offs : (j : ℕ) → 0 < j → is_listed s j ≡ Some false → (IsOn j list → ⊥) × (j ≢ off)
    -- a session that has yet to exchange the head word isn't on the list, and its link has the value that it wrote
    pub heads_seen : (j n : ℕ) → (seat s j).listing.head_seen ≡ Some n → (0 < j) × (is_listed s j ≡ Some false) × (link s j ≡ n)
    -- the combiner knows which record is unlinked, and what its walk meets
    pub walkers : (k : ℕ) → (seat s k).combiner.has_object ≡ true → IsWalking list off before (seat s k).listing

module _ {O C R : Type 0} (obj : Ghosts O C R) where
  -- The whole rule of the board, which every atomic step keeps.
  pub record IsRuled (s : BoardState O C R) : Type 0 where
    pub records : IsOrderly obj s
    pub list : IsLinked s

module _ {O C R : Type 0} (obj : Ghosts O C R) (bound : Bounds) where
  -- The rule of a board whose object keeps so much at most, whenever it is at home.
  pub record IsBounded (s : BoardState O C R) : Type 0 where
    pub ruled : IsRuled obj s
    pub within : (load : Box (Load O C R)) → home s 0 ≡ opt.some (ObjectLoad load) → obj.bound load.value.object ≡ bound

module _ {O : Type 0} (bound : O → Bounds) where
  -- How much the first of these objects keeps at most.
  abbrev pub bound_of : List O → Bounds
  bound_of [] = keeping_nothing
  bound_of (object ∷ objects) = bound object
