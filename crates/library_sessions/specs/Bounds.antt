-- How much the passes of a session's whole calls serve, as the exports state it.
use Rattle.std.specs.Prelude.{◌≡◌, ◌⊎◌, ℕ, ◌+◌, ◌<◌, ◌≤◌, length}
use Rattle.combining.specs.declared.bounds.PassBound.{PassBound}
use Rattle.combining.specs.Woken.{entered_since}
use Rattle.combining.specs.Rounds.{most_of}
use Rattle.library_sessions.specs.declared.session_share.SessionShare.{SessionShare}

-- the bound has these numbers
abbrev pub IsBoundOf : ℕ → ℕ → ℕ → PassBound → Type 0
IsBoundOf calls locks rounds bound = (bound.calls ≡ calls) × (bound.weight ≡ locks) × (bound.rounds ≡ rounds)

-- a number is 0, or is above what a bound may have
abbrev pub IsNoBound : ℕ → ℕ → ℕ → Type 0
IsNoBound calls locks rounds = (calls ≡ 0) ⊎ ((65535 < calls) ⊎ ((locks ≡ 0) ⊎ ((rounds ≡ 0) ⊎ (65535 < rounds))))

-- the share has this bound, and nothing else has changed
pub record HasBound (calls locks rounds : ℕ) (before after : SessionShare) : Type 0 where
  pub bound : IsBoundOf calls locks rounds after.bound
  pub session : after.session ≡ before.session
  pub told : after.told ≡ before.told
  pub office : after.office ≡ before.office
  pub handed : after.handed.items ≡ before.handed.items
  pub sessions : after.sessions ≡ before.sessions
  pub mark : after.mark ≡ before.mark
  pub waker : after.waker ≡ before.waker

-- the session has entered at most as many calls as a pass within the share's bound may serve, and `own` more
abbrev pub HasServedWithin : ℕ → SessionShare → SessionShare → Type 0
HasServedWithin own before after = length (entered_since before.session after.session) ≤ most_of before.bound + own
