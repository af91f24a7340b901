-- The claims of a listing, sorted by session.
use Rattle.std.specs.Prelude.{◌≡◌, ℕ, List}
use Rattle.std.specs.List.Sorted.{IsNonDecreasingBy}
use Rattle.lock_rules.specs.declared.listing.Claim.{Claim}
use Rattle.lock_report.specs.StateText.{claims_of}

-- the session of a claim
abbrev pub session_of : Claim → ℕ
session_of c = c.session

-- the claims ascend by session
abbrev pub Ascends : List Claim → Type 0
Ascends claims = IsNonDecreasingBy session_of claims

-- `sorted` ascends by session, and each session has the same claims in it as in `claims`, in the same order
pub record IsBySession (claims sorted : List Claim) : Type 0 where
  pub ascends : Ascends sorted
  pub each : (s : ℕ) → claims_of s sorted ≡ claims_of s claims
