-- The victims that a call made, by session number.
use Rattle.std.specs.Prelude.{ℕ, if◌then◌else◌, List, [], ◌∷◌}
use Rattle.lock_rules.specs.State.{State}
use Rattle.lock_explain.specs.Endings.{is_new_victim}
use Rattle.lock_explain.specs.Waiting.{for_sessions, party_of}
use Rattle.lock_explain.specs.declared.explanation.Party.{Party}

-- the session in a list, the empty list if the call didn't make its transaction a victim
abbrev pub new_victim : State → State → ℕ → List Party
new_victim before after u = if is_new_victim before after u then party_of after u ∷ [] else []

-- the sessions, of 1 to n, whose transactions the call made victims
abbrev pub new_victims : ℕ → State → State → List Party
new_victims n before after = for_sessions n (new_victim before after)
