-- The waits-for graph of the state in which a request waits, as rows by position: position a is that of session a + 1.
use Rattle.std.specs.Prelude.{◌≡◌, ◌≤◌, ◌+◌, ◌-◌, ℕ, Bool, true, false, ◌&&◌, not, if◌then◌else◌, List, [], ◌∷◌, Option, Some, None, is_some}
use Rattle.std.specs.List.{flat_map}
use Rattle.lock_tree.specs.Paths.{same_path}
use Rattle.waits_for.specs.Pairs.{Pairs, pairs_of}
use Rattle.lock_rules.specs.declared.listing.ClaimKind.{ClaimKind}
use Rattle.lock_rules.specs.declared.listing.ClaimKind.TheVariants.{Held, Conversion, Fresh}
use Rattle.lock_rules.specs.State.{Claim, Table, State, held_mode, request_of}
use Rattle.lock_rules.specs.Waits.{waits_for}
use Rattle.lock_explain.specs.declared.explanation.Party.{Party}
use Rattle.lock_explain.specs.declared.explanation.Edge.{Edge}

-- a line of this kind is a fresh request
abbrev pub is_fresh : ClaimKind → Bool
is_fresh Fresh = true
is_fresh Held = false
is_fresh Conversion = false

-- the request is a fresh one for the resource
abbrev pub is_fresh_on : Table → List ℕ → Option Claim → Bool
is_fresh_on t r None = false
is_fresh_on t r (Some q) = same_path q.resource r && not (is_some (held_mode t q.session q.resource))

-- the session has a fresh request for the resource
abbrev pub waits_behind : Table → List ℕ → ℕ → Bool
waits_behind t r s = is_fresh_on t r (request_of s t.requests)

-- the edges are the waits of the state, which are all by sessions of number 1 at least
pub record AreWaitsOf (p : Pairs) (st : State) : Type 0 where
  pub pairs : (a b : ℕ) → pairs_of p a b ≡ waits_for st.table (a + 1) (b + 1)
  pub some : (s u : ℕ) → waits_for st.table s u ≡ true → 1 ≤ s

-- the session is one of 1 to n
pub record IsPartyWithin (n : ℕ) (p : Party) : Type 0 where
  pub some : 1 ≤ p.session
  pub within : p.session ≤ n

-- the edge from session s to the member, in a list, the empty list if there is none
abbrev pub edge_among : Pairs → ℕ → Party → List Edge
edge_among p s member = if pairs_of p (s - 1) (member.session - 1) then record { session = s; other = member.session } ∷ [] else []

-- the edges from session s to the members
abbrev pub edges_from : Pairs → List Party → ℕ → List Edge
edges_from p members s = flat_map (edge_among p s) members

-- the edges from the members to one another
abbrev pub edges_among : Pairs → List Party → List Edge
edges_among p members = flat_map (λ member. edges_from p members member.session) members
