-- The publication list as the board's state determines it, and what the laws of the list speak of.
use Rattle.std.specs.Prelude.{◌≡◌, ◌≢◌, ◌⊎◌, ℕ, zero, suc, ◌<◌, ◌≤◌, Bool, Option, Some, None, List, [], ◌∷◌, length}
use Rattle.publication.specs.Words.{link_of, END, FREE}
use Rattle.publication.specs.Rule.{BoardState, word, seat}
use Rattle.publication.specs.List.{IsOn, AreApart, first_of, behind, Chain, link}
use Rattle.publication.specs.declared.view.View.{View}

module _ {O C R : Type 0} where
  -- The publication list of state s: the records met from the head word by the links up to the end mark, each met once,
  -- and each a session's.
  pub record IsPublicationList (s : BoardState O C R) (list : List ℕ) : Type 0 where
    pub chain : Chain (link s) (link s 0) list
    pub apart : AreApart list
    pub within : (q : ℕ) → IsOn q list → (0 < q) × (q < length s.homes)

  -- The board has so few slots, one for the lock and one for each session, that the end mark is no record's number.
  abbrev pub HasRoomForEnd : BoardState O C R → Type 0
  HasRoomForEnd s = length s.homes ≤ END

  -- Session j has its seat at the board and a call pending, which is listed or isn't.
  pub record HasPending (s : BoardState O C R) (j : ℕ) (listed : Bool) : Type 0 where
    pub some : 0 < j
    pub named : (seat s j).number ≡ j
    pub waits : (seat s j).own.pending ≢ None
    pub listed_is : (seat s j).own.listed ≡ listed

  -- There is a combiner, and it has unlinked record j and neither marked it OUT nor linked it again.
  abbrev pub IsUnlinkedNow : BoardState O C R → ℕ → Type 0
  IsUnlinkedNow s j = (word s 0 ≢ FREE) × ((seat s (word s 0)).listing.off ≡ j)

  -- A step that leaves this value in this word, made by the seat with this view, writes the head word only as `enlist`
  -- does: it leaves the value that it found, or it writes the seat's number, and the seat's link names the record that was
  -- the first.
  abbrev pub WritesHeadAsEnlist : BoardState O C R → ℕ → ℕ → View C R → Type 0
  WritesHeadAsEnlist s at put v = at ≡ link_of 0 → (put ≡ link s 0) ⊎ ((put ≡ v.number) × (v.listing.head_seen ≡ Some (link s 0)))

-- The records that a walk of this route meets in at most so many steps from this record on: at each step it asks for the
-- record behind the one that it met last.
abbrev pub met_from : Option ℕ → ℕ → List ℕ → List ℕ
met_from next zero route = []
met_from None (suc steps) route = []
met_from (Some q) (suc steps) route = q ∷ met_from (first_of (behind q route)) steps route
