-- A request of a session that doesn't wait, as the parts of an explanation look at it.
use Rattle.std.specs.Prelude.{◌≡◌, ◌≤◌, ℕ, None, is_some}
use Rattle.lock_rules.specs.State.{Claim, State, held_mode, request_of}
use Rattle.lock_rules.specs.Effects.{request}
use Rattle.lock_explain.specs.declared.asked.Asked.{Asked}

-- the request, as a claim of the lock table
abbrev pub claim_of : Asked → Claim
claim_of a = request a.session a.resource a.target

-- the session is one of 1 to n, doesn't wait in this state, and holds the resource exactly if the request is a conversion
pub record IsAskedIn (n : ℕ) (st : State) (a : Asked) : Type 0 where
  pub some : 1 ≤ a.session
  pub within : a.session ≤ n
  pub idle : request_of a.session st.table.requests ≡ None
  pub converts : a.converts ≡ is_some (held_mode st.table a.session a.resource)
