-- The ages of publication records, and what a clean-up may take off the publication list.
use Rattle.std.specs.Prelude.{◌≡◌, ◌⊎◌, ℕ, ◌+◌, ◌-◌, ◌<◌, List, [], ◌∷◌, map, drop, slice_index, slice_set}
use Rattle.sequential.specs.declared.entry.Entry.{Entry}
use Rattle.sequential.specs.declared.entry.Item.{Item}
use Rattle.publication.specs.List.{IsOn, first_of}
use Rattle.combining.specs.declared.clean_up.TheConstants.{PASSES_KEPT}

module _ {C R : Type 0} where
  -- The sessions of these items, in order.
  abbrev pub sessions_of : List (Item C R) → List ℕ
  sessions_of items = map (λ item. item.session) items

  -- The sessions of the entries behind the first `known` ones, in order.
  abbrev pub sessions_since : ℕ → List (Entry C R) → List ℕ
  sessions_since known front = map (λ entry. entry.session) (drop known front)

-- The ages after pass `passes` served these sessions: the pass becomes the age of each of them, and all other ages
-- stay.
abbrev pub noted : List ℕ → List ℕ → ℕ → List ℕ
noted ages [] passes = ages
noted ages (j ∷ js) passes = noted (slice_set ages (j - 1) passes) js passes

-- Record j was last served more than PASSES_KEPT passes before this one.
abbrev pub IsUnused : List ℕ → ℕ → ℕ → Type 0
IsUnused ages passes j = slice_index ages (j - 1) + PASSES_KEPT < passes

-- What a clean-up may do to the list: its first record stays the first, and only unused records leave it.
pub record IsCleaned (ages : List ℕ) (passes : ℕ) (before after : List ℕ) : Type 0 where
  pub first : first_of after ≡ first_of before
  pub left : (j : ℕ) → IsOn j before → IsOn j after ⊎ IsUnused ages passes j
