-- The cycles of the waits-for graph that a request closes: the sessions on a cycle with its session, and their waits for one
-- another.
use Rattle.std.specs.Prelude.{ℕ, Bool, ◌&&◌, if◌then◌else◌, List, [], ◌∷◌}
use Rattle.lock_rules.specs.State.{State}
use Rattle.lock_rules.specs.Waits.{waits_for, reaches}
use Rattle.lock_explain.specs.Waiting.{for_sessions, party_of}
use Rattle.lock_explain.specs.declared.explanation.Party.{Party}
use Rattle.lock_explain.specs.declared.explanation.Edge.{Edge}

-- session u is on a cycle with session s: a walk of the waits-for graph leads from s to u, and one leads back
abbrev pub is_on_cycle : State → ℕ → ℕ → Bool
is_on_cycle st s u = reaches st.table s u && reaches st.table u s

-- session u in a list, the empty list if it isn't on a cycle with s
abbrev pub party_on_cycle : State → ℕ → ℕ → List Party
party_on_cycle st s u = if is_on_cycle st s u then party_of st u ∷ [] else []

-- the sessions, of 1 to n, on a cycle with s
abbrev pub cycle_of : ℕ → State → ℕ → List Party
cycle_of n st s = for_sessions n (party_on_cycle st s)

-- the wait of u for v in a list, the empty list unless both are on a cycle with s and u waits for v
abbrev pub edge_of : State → ℕ → ℕ → ℕ → List Edge
edge_of st s u v = if is_on_cycle st s u && (is_on_cycle st s v && waits_for st.table u v) then record { session = u; other = v } ∷ [] else []

-- the waits for one another of the sessions, of 1 to n, on a cycle with s
abbrev pub edges_of : ℕ → State → ℕ → List Edge
edges_of n st s = for_sessions n (λ u. for_sessions n (edge_of st s u))
