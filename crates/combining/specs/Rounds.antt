-- Rounds of a pass that serve so many calls at most, and calls of so much weight.
use Rattle.std.specs.Prelude.{◌≡◌, ◌⊎◌, ℕ, ◌+◌, ◌*◌, ◌<◌, ◌≤◌, List, [], ◌∷◌, ◌++◌, length, max, zero, suc, Contains}
use Rattle.sequential.specs.declared.entry.Entry.{Entry}
use Rattle.sequential.specs.Batches.{asked_in}
use Rattle.sequential.specs.declared.entry.TheConstants.{MAX_SESSIONS}
use Rattle.combining.specs.declared.bounds.PassBound.{PassBound}
use Rattle.combining.specs.declared.bounds.TheConstants.{MAX_WEIGHT}

-- A round may take a call, and a pass may make a round.
abbrev pub IsBound : PassBound → Type 0
IsBound bound = (0 < bound.calls) × (0 < bound.weight) × (0 < bound.rounds)

-- No pass meets the bound: a round has room for a call of each session, whatever it weighs.
abbrev pub IsUnmet : PassBound → Type 0
IsUnmet bound = (MAX_SESSIONS < bound.calls) × (MAX_SESSIONS * MAX_WEIGHT < bound.weight)

-- The bound with 1 in place of each 0.
abbrev pub at_least_one : PassBound → PassBound
at_least_one bound = record { calls = max bound.calls 1; weight = max bound.weight 1; rounds = max bound.rounds 1 }

-- How many calls a pass serves at most.
abbrev pub most_of : PassBound → ℕ
most_of bound = (at_least_one bound).rounds * (at_least_one bound).calls

module _ {C R : Type 0} (weight : List (Entry C R) → ℕ → C → ℕ) where
  -- The weight of these calls in all, each of its session, behind this front of the history.
  abbrev pub weight_of : List (Entry C R) → List (ℕ × C) → ℕ
  weight_of front [] = 0
  weight_of front (a ∷ others) = weight front a.0 a.1 + weight_of front others

  -- One of these calls at most was taken when those before it had the weight `most`: with any weight that none of them exceeds, they
  -- weigh less than `most` and this one in all.
  abbrev pub IsLight : ℕ → List (Entry C R) → List (ℕ × C) → Type 0
  IsLight most front asked = (heaviest : ℕ) → ((session : ℕ) (call : C) → Contains asked (session, call) → weight front session call ≤ heaviest)
      → weight_of front asked < most + heaviest

  -- One round led from the history `before` to the history `after`: it served so many calls at most, and once it had taken calls of so much
  -- weight, it took no further one.
  pub record IsRound (bound : PassBound) (before after : List (Entry C R)) : Type 0 where
    pub entries : List (Entry C R)
    pub history : after ≡ before ++ entries
    pub few : length entries ≤ bound.calls
    pub light : IsLight bound.weight before (asked_in entries)

  -- So many rounds led from the history `before` to the history `after`.
  abbrev pub HaveLed : PassBound → ℕ → List (Entry C R) → List (Entry C R) → Type 0
  HaveLed bound zero before after = after ≡ before
  HaveLed bound (suc made) before after = (between : List (Entry C R)) × HaveLed bound made before between × IsRound bound between after

  -- A pass that served so many calls made no more rounds than it may, each within the bound.
  pub record AreRounds (bound : PassBound) (served : ℕ) (after : List (Entry C R)) : Type 0 where
    pub known : List (Entry C R)
    pub count : length after ≡ length known + served
    pub made : ℕ
    pub few : made ≤ bound.rounds
    pub led : HaveLed bound made known after

  -- The last round of a pass that served so many calls served as many as it may, or calls of as much weight.
  pub record IsFull (bound : PassBound) (served : ℕ) (after : List (Entry C R)) : Type 0 where
    pub before : List (Entry C R)
    pub entries : List (Entry C R)
    pub history : after ≡ before ++ entries
    pub own : length entries ≤ served
    pub full : (bound.calls ≤ length entries) ⊎ (bound.weight ≤ weight_of before (asked_in entries))
