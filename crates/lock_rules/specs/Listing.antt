-- A listing of the lock table: every lock and every waiting request, resource by resource.
use Rattle.std.specs.Prelude.{◌≡◌, ◌≢◌, ℕ, ◌↔◌, ◌⊎◌, Bool, true, false, if◌then◌else◌, List, [], ◌∷◌, ◌++◌, filter, Option, Some, None, map, is_some, Contains}
use Rattle.std.specs.List.{flat_map}
use Rattle.std.specs.List.Sorted.{IsStrictlySortedBy}
use Rattle.std.specs.declared.cmp.Ordering.{Ordering}
use Rattle.std.specs.declared.cmp.Ordering.TheVariants.{Less, Equal, Greater}
use Rattle.lock_modes.specs.declared.Mode.{Mode}
use Rattle.lock_tree.specs.Paths.{path_cmp, same_path}
use Rattle.lock_rules.specs.declared.calls.Transaction.{Transaction}
use Rattle.lock_rules.specs.declared.listing.Claim.{Claim as ListedClaim}
use Rattle.lock_rules.specs.declared.listing.ClaimKind.{ClaimKind}
use Rattle.lock_rules.specs.declared.listing.ClaimKind.TheVariants.{Held, Conversion, Fresh}
use Rattle.lock_rules.specs.State.{Claim, State, held_mode, holders, request_of, is_doomed, number_of}
use Rattle.lock_rules.specs.Queue.{conversions, fresh_requests}

-- the order is `Less`
abbrev pub is_less : Ordering → Bool
is_less Less = true
is_less Equal = false
is_less Greater = false

-- resource a comes before resource b
abbrev pub comes_before : List ℕ → List ℕ → Bool
comes_before a b = is_less (path_cmp a b)

-- the ascending list with this resource in it: entered at its place in the order of resources, unless it is there already
abbrev pub with_path : List ℕ → List (List ℕ) → List (List ℕ)
with_path r [] = r ∷ []
with_path r (x ∷ xs) = if same_path r x then x ∷ xs else (if comes_before r x then r ∷ x ∷ xs else x ∷ with_path r xs)

-- the resources of these claims, each once, in the order of resources
abbrev pub resources_of : List Claim → List (List ℕ)
resources_of [] = []
resources_of (c ∷ cs) = with_path c.resource (resources_of cs)

-- the open transaction of the session, as a listing shows it
abbrev pub transaction_of : State → ℕ → Transaction
transaction_of st s = record { number = number_of st s; doomed = is_doomed st s }

-- a lock or a request of the state's table, as a line of the listing
abbrev pub listed_as : State → ClaimKind → Claim → ListedClaim
listed_as st kind c = record { resource = c.resource; session = c.session; transaction = transaction_of st c.session; mode = c.mode; kind = kind }

-- the lines of the resource: its holders by session number, then its queue in its order, conversions first
abbrev pub listed_on : State → List ℕ → List ListedClaim
listed_on st r =
    map (λ h. listed_as st Held (record { session = h.0; resource = r; mode = h.1 })) (holders r st.table.held)
    ++ map (listed_as st Conversion) (conversions st.table r)
    ++ map (listed_as st Fresh) (fresh_requests st.table r)

-- the listing of the whole lock table: the lines of each resource that is held or waited for, in the order of resources
abbrev pub listing_of : State → List ListedClaim
listing_of st = flat_map (listed_on st) (resources_of (st.table.held ++ st.table.requests))

-- the kind of a request of the session on the resource
abbrev pub kind_of_request : State → Claim → ClaimKind
kind_of_request st q = if is_some (held_mode st.table q.session q.resource) then Conversion else Fresh

-- the session's waiting request as a line of the listing, None if it doesn't wait
abbrev pub listed_request : State → Option Claim → Option ListedClaim
listed_request st None = None
listed_request st (Some q) = Some (listed_as st (kind_of_request st q) q)

-- the waiting request of the session, as a line of the listing
abbrev pub waiting_line : State → ℕ → Option ListedClaim
waiting_line st s = listed_request st (request_of s st.table.requests)

-- what the listing shows

-- the resources of the listing
abbrev pub listed_resources : State → List (List ℕ)
listed_resources st = resources_of (st.table.held ++ st.table.requests)

-- the session holds the resource or waits for it
abbrev pub HasClaimOn : State → ℕ → List ℕ → Type 0
HasClaimOn st s r = ((m : Mode) × (held_mode st.table s r ≡ Some m)) ⊎ ((q : Claim) × (request_of s st.table.requests ≡ Some q) × (q.resource ≡ r))

-- the session's lock on the resource in this mode, as a line of the listing
abbrev pub lock_line : State → ℕ → List ℕ → Mode → ListedClaim
lock_line st s r m = listed_as st Held (record { session = s; resource = r; mode = m })

-- the listing shows the lock table: the locks that are held, the requests that wait, and nothing else
pub record DoesListingShow (st : State) : Type 0 where
  -- each resource comes before those after it, so none is there twice
  pub rising : IsStrictlySortedBy path_cmp (listed_resources st)
  -- a resource is listed exactly if somebody holds it or waits for it
  pub listed : (r : List ℕ) → Contains (listed_resources st) r ↔ ((s : ℕ) × HasClaimOn st s r)
  -- the lines of the listing on a resource are that resource's lines, in their order
  pub lines : (r : List ℕ) → filter (λ l. same_path l.resource r) (listing_of st) ≡ listed_on st r
  -- a lock is listed exactly if the session holds the resource in that mode
  pub locks : (s : ℕ) (r : List ℕ) (m : Mode) → Contains (listing_of st) (lock_line st s r m) ↔ (held_mode st.table s r ≡ Some m)
  -- any other line is listed exactly if it is the waiting request of its session
  pub requests : (l : ListedClaim) → l.kind ≢ Held → Contains (listing_of st) l ↔ (waiting_line st l.session ≡ Some l)
  -- each line has the open transaction of its session
  pub transactions : (l : ListedClaim) → Contains (listing_of st) l → st.begun l.session ≡ Some l.transaction
