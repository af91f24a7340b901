-- The laws, as relations: what holds of every history, and of every state that a history leads to.
use Rattle.std.specs.Prelude.{◌≡◌, ◌≢◌, ℕ, ◌<◌, ◌≤◌, ◌↔◌, true, false, ◌⊎◌, None, List, [], ◌∷◌, ◌++◌, length, Some, slice_get, All, Contains}
use Rattle.lock_modes.specs.declared.Mode.{Mode}
use Rattle.lock_modes.specs.declared.Mode.TheVariants.{S, X}
use Rattle.lock_modes.specs.Order.{IsAtOrBelow, need_of}
use Rattle.lock_modes.specs.Compatibility.{IsCompatible}
use Rattle.lock_tree.specs.Paths.{is_ancestor, parent_of, has_parent}
use Rattle.lock_rules.specs.declared.calls.Call.{Call}
use Rattle.lock_rules.specs.declared.calls.Call.TheVariants.{Release, Commit, Abort, Withdraw, Restart}
use Rattle.lock_rules.specs.declared.calls.Reply.TheVariants.{Refused}
use Rattle.lock_rules.specs.declared.calls.Why.{Why}
use Rattle.lock_rules.specs.Entries.{Entry, Answered}
use Rattle.lock_rules.specs.declared.calls.Transaction.{Transaction}
use Rattle.lock_rules.specs.declared.calls.TheConstants.{MAX_LOCKS}
use Rattle.waits_for.specs.Walks.{Reaches, AreOnCircle}
use Rattle.lock_rules.specs.State.{Claim, Table, State, claims_but, held_mode, request_of, holders, claims_of, is_open, is_doomed, number_of, with_table}
use Rattle.lock_rules.specs.Queue.{queue, fits, after_grant, after_promotion, with_request}
use Rattle.lock_rules.specs.Waits.{waits_for, after_victim}
use Rattle.lock_rules.specs.Step.{tests, first_failing, step}
use Rattle.lock_rules.specs.Legal.{state_of}

-- histories

-- each entry's reply is the one that `step` gives in the state after the entries before it
abbrev pub AreRepliesOfSteps : List Entry → Type 0
AreRepliesOfSteps es = (front rest : List Entry) (e : Entry) → es ≡ front ++ e ∷ rest → e.reply ≡ (step (state_of front) e.session e.call).reply

-- refusals

-- a call is refused for a reason exactly if that is the refusal of its first test that fails
abbrev pub IsRefusalExact : State → Type 0
IsRefusalExact st = (s : ℕ) (c : Call) (why : Why) → ((step st s c).reply ≡ Refused why) ↔ (first_failing (tests st s c) ≡ Some why)

-- a refused call changes nothing
abbrev pub DoesRefusalKeep : State → Type 0
DoesRefusalKeep st = (s : ℕ) (c : Call) (why : Why) → (step st s c).reply ≡ Refused why → (step st s c).state ≡ st

-- grants and promotions

-- the session holds r in mode m and waits no more; its other locks, the locks of others, and their requests in order stay
pub record IsGrantOf (s : ℕ) (r : List ℕ) (m : Mode) (t t' : Table) : Type 0 where
  pub held : held_mode t' s r ≡ Some m
  pub elsewhere : (x : List ℕ) → x ≢ r → held_mode t' s x ≡ held_mode t s x
  pub others_hold : (u : ℕ) (x : List ℕ) → u ≢ s → held_mode t' u x ≡ held_mode t u x
  pub waits_no_more : request_of s t'.requests ≡ None
  pub others_wait : (u : ℕ) → u ≢ s → request_of u t'.requests ≡ request_of u t.requests
  pub in_order : t'.requests ≡ claims_but s t.requests

-- the table after each of these requests is granted, one after another
abbrev pub after_grants : List Claim → Table → Table
after_grants [] t = t
after_grants (q ∷ qs) t = after_grants qs (after_grant q.session q.resource q.mode t)

-- the list begins with these requests
abbrev pub IsFront : List Claim → List Claim → Type 0
IsFront front qs = (rest : List Claim) × (qs ≡ front ++ rest)

-- each request of the front fits once those before it are granted
abbrev pub EachFits : Table → List Claim → Type 0
EachFits t front = (before rest : List Claim) (q : Claim) → front ≡ before ++ q ∷ rest → fits (after_grants before t) q.session q.resource q.mode ≡ true

-- the longest front of the resource's queue in which each request fits once those before it are granted
pub record IsLongestFront (t : Table) (r : List ℕ) (front : List Claim) : Type 0 where
  pub front_of_queue : IsFront front (queue t r)
  pub each_fits : EachFits t front
  pub longest : (other : List Claim) → IsFront other (queue t r) → EachFits t other → length other ≤ length front

-- a promotion of a resource grants exactly the requests of its longest front that fits
abbrev pub DoesPromotionGrantLongest : Table → Type 0
DoesPromotionGrantLongest t = (r : List ℕ) → (front : List Claim) × (IsLongestFront t r front × (after_promotion r t ≡ after_grants front t))

-- t' is t after the longest front that fits is granted on each of these resources, one after another
abbrev pub ArePromotionsLongest : List (List ℕ) → Table → Table → Type 0
ArePromotionsLongest [] t t' = t' ≡ t
ArePromotionsLongest (r ∷ rs) t t' = (front : List Claim) × IsLongestFront t r front × ArePromotionsLongest rs (after_grants front t) t'

-- states

-- the session numbers of these holders rise
abbrev pub AreSessionsRising : List (ℕ × Mode) → Type 0
AreSessionsRising [] = Unit {0}
AreSessionsRising (a ∷ []) = Unit {0}
AreSessionsRising (a ∷ b ∷ rest) = (a.0 < b.0) × AreSessionsRising (b ∷ rest)

-- the holders of a resource are exactly the sessions that hold it, each with its mode, by session number
pub record AreHoldersListed (st : State) : Type 0 where
  pub rising : (r : List ℕ) → AreSessionsRising (holders r st.table.held)
  pub listed : (s : ℕ) (r : List ℕ) (m : Mode) → Contains (holders r st.table.held) (s, m) ↔ (held_mode st.table s r ≡ Some m)

-- the locks of a session are exactly what it holds, and no two of them are on one resource
pub record AreLocksOnce (st : State) : Type 0 where
  pub once : (s : ℕ) (front rest : List Claim) (c : Claim) → claims_of s st.table.held ≡ front ++ c ∷ rest → All (λ d. d.resource ≢ c.resource) (front ++ rest)
  pub listed : (s : ℕ) (c : Claim) → Contains (claims_of s st.table.held) c ↔ ((c.session ≡ s) × (held_mode st.table s c.resource ≡ Some c.mode))

-- no session has two waiting requests
abbrev pub IsOneRequestEach : State → Type 0
IsOneRequestEach st = (front rest : List Claim) (q : Claim) → st.table.requests ≡ front ++ q ∷ rest → request_of q.session (front ++ rest) ≡ None

-- no session holds more than MAX_LOCKS locks
abbrev pub AreLocksBounded : State → Type 0
AreLocksBounded st = (s : ℕ) → length (claims_of s st.table.held) ≤ MAX_LOCKS

-- a mode fits exactly if it is compatible with the mode of each other session that holds the resource
abbrev pub IsFitExact : State → Type 0
IsFitExact st = (s : ℕ) (r : List ℕ) (m : Mode) →
    (fits st.table s r m ≡ true) ↔ ((u : ℕ) (k : Mode) → u ≢ s → held_mode st.table u r ≡ Some k → IsCompatible m k)

-- the two modes are compatible in at least one order: the one that was asked last beside the one that was granted first
abbrev pub GoTogether : Mode → Mode → Type 0
GoTogether a b = IsCompatible a b ⊎ IsCompatible b a

-- two holders of one resource have modes that are compatible in at least one order
abbrev pub AreHoldersCompatible : State → Type 0
AreHoldersCompatible st = (s u : ℕ) (r : List ℕ) (k l : Mode) → s ≢ u → held_mode st.table s r ≡ Some k → held_mode st.table u r ≡ Some l → GoTogether k l

-- the first request of a queue doesn't fit
abbrev pub DoesNobodyWaitNeedlessly : State → Type 0
DoesNobodyWaitNeedlessly st = (r : List ℕ) (q : Claim) (qs : List Claim) → queue st.table r ≡ q ∷ qs → fits st.table q.session r q.mode ≡ false

-- the session's lock on r is in mode m or one above it
abbrev pub HoldsAtLeast : Table → ℕ → List ℕ → Mode → Type 0
HoldsAtLeast t s r m = (k : Mode) × (held_mode t s r ≡ Some k) × IsAtOrBelow m k

-- if r has a parent, the session holds it in a mode at or above what m needs
abbrev pub IsUnderParent : Table → ℕ → List ℕ → Mode → Type 0
IsUnderParent t s r m = has_parent r ≡ true → HoldsAtLeast t s (parent_of r) (need_of m)

-- every lock obeys the parent rule: its session holds the parent in a mode at or above what the lock's mode needs
abbrev pub AreLocksUnderParents : State → Type 0
AreLocksUnderParents st = (s : ℕ) (r : List ℕ) (m : Mode) → held_mode st.table s r ≡ Some m → IsUnderParent st.table s r m

-- every waiting request obeys the parent rule
abbrev pub AreRequestsUnderParents : State → Type 0
AreRequestsUnderParents st = (s : ℕ) (q : Claim) → request_of s st.table.requests ≡ Some q → IsUnderParent st.table s q.resource q.mode

-- if a session holds a lock somewhere below r, it holds a lock on a child of r
abbrev pub AreChildrenHeld : State → Type 0
AreChildrenHeld st = (s : ℕ) (r x : List ℕ) (m : Mode) → r ≢ [] → is_ancestor r x ≡ true → held_mode st.table s x ≡ Some m →
    (child : List ℕ) × (k : Mode) × (has_parent child ≡ true) × (parent_of child ≡ r) × (held_mode st.table s child ≡ Some k)

-- y is x or an ancestor of x
abbrev pub IsAtOrOver : List ℕ → List ℕ → Type 0
IsAtOrOver y x = (y ≢ []) × ((y ≡ x) ⊎ (is_ancestor y x ≡ true))

-- the session may read x: it holds x or an ancestor of x in S or above, which is S, SIX, U or X
abbrev pub Reads : Table → ℕ → List ℕ → Type 0
Reads t s x = (y : List ℕ) × IsAtOrOver y x × HoldsAtLeast t s y S

-- the session may write x: it holds x or an ancestor of x in X
abbrev pub Writes : Table → ℕ → List ℕ → Type 0
Writes t s x = (y : List ℕ) × IsAtOrOver y x × HoldsAtLeast t s y X

-- a resource that one session may write, no other session may read or write, whether or not anybody holds it
abbrev pub IsAccessCompatible : State → Type 0
IsAccessCompatible st = (s u : ℕ) (x : List ℕ) → s ≢ u → Writes st.table s x → Reads st.table u x ⊎ Writes st.table u x → ⊥

-- transactions

-- the session has an open transaction
abbrev pub HasTransaction : State → ℕ → Type 0
HasTransaction st s = (x : Transaction) × (st.begun s ≡ Some x)

-- the session's open transaction is doomed
abbrev pub HasDoomedTransaction : State → ℕ → Type 0
HasDoomedTransaction st s = (x : Transaction) × (st.begun s ≡ Some x) × (x.doomed ≡ true)

-- the session has a waiting request
abbrev pub HasRequest : State → ℕ → Type 0
HasRequest st s = (q : Claim) × (request_of s st.table.requests ≡ Some q)

-- the session holds a lock or has a waiting request
abbrev pub HasClaim : State → ℕ → Type 0
HasClaim st s = ((r : List ℕ) × (m : Mode) × (held_mode st.table s r ≡ Some m)) ⊎ ((q : Claim) × (request_of s st.table.requests ≡ Some q))

-- every session that holds a lock or waits has an open transaction
abbrev pub AreOwnersOpen : State → Type 0
AreOwnersOpen st = (s : ℕ) → HasClaim st s → is_open st s ≡ true

-- open transactions of different sessions have different numbers
abbrev pub AreNumbersDistinct : State → Type 0
AreNumbersDistinct st = (s u : ℕ) → is_open st s ≡ true → is_open st u ≡ true → number_of st s ≡ number_of st u → s ≡ u

-- no open transaction has a number above how many have begun
abbrev pub AreNumbersCounted : State → Type 0
AreNumbersCounted st = (s : ℕ) → is_open st s ≡ true → number_of st s ≤ st.count

-- deadlocks

-- u holds the resource of the request in a mode that conflicts with its target
abbrev pub HoldsInConflict : Table → ℕ → Claim → Type 0
HoldsInConflict t u q = (k : Mode) × (held_mode t u q.resource ≡ Some k) × (IsCompatible q.mode k → ⊥)

-- u has a request in the list before the first request of s
abbrev pub StandsBefore : ℕ → ℕ → List Claim → Type 0
StandsBefore u s qs = (before after : List Claim) × (q p : Claim) × (qs ≡ before ++ q ∷ after) × (q.session ≡ s) × (request_of s before ≡ None) × (request_of u before ≡ Some p)

-- s has a request, and another session u holds its resource in a conflicting mode or has an earlier request in its queue
abbrev pub WaitsFor : Table → ℕ → ℕ → Type 0
WaitsFor t s u = (u ≢ s) × (q : Claim) × (request_of s t.requests ≡ Some q) × (HoldsInConflict t u q ⊎ StandsBefore u s (queue t q.resource))

-- the waits-for graph has an edge from s to u exactly if s waits for u
abbrev pub AreWaitsExact : Table → Type 0
AreWaitsExact t = (s u : ℕ) → (waits_for t s u ≡ true) ↔ WaitsFor t s u

-- the waits-for graph has no cycle
abbrev pub HasNoCircle : State → Type 0
HasNoCircle st = (s : ℕ) → Reaches (waits_for st.table) s s → ⊥

-- a session whose transaction is doomed has no request
abbrev pub DoDoomedWaitForNothing : State → Type 0
DoDoomedWaitForNothing st = (s : ℕ) → is_doomed st s ≡ true → request_of s st.table.requests ≡ None

-- v is on a cycle with s, and no session on a cycle with s has a younger transaction
pub record IsVictim (st : State) (s v : ℕ) : Type 0 where
  pub on_circle : AreOnCircle (waits_for st.table) s v
  pub youngest : (u : ℕ) → AreOnCircle (waits_for st.table) s u → number_of st u ≤ number_of st v

-- these are victims one after another, each in the state that those before it leave, until s is on no cycle
abbrev pub AreVictims : ℕ → List ℕ → State → State → Type 0
AreVictims s [] st last = (Reaches (waits_for st.table) s s → ⊥) × (last ≡ st)
AreVictims s (v ∷ vs) st last = IsVictim st s v × AreVictims s vs (after_victim v st) last

-- a request that begins to wait has one list of victims at most, and one state after them
abbrev pub AreVictimsDetermined : State → Type 0
AreVictimsDetermined st = (s : ℕ) (r : List ℕ) (k : Mode) (vs ws : List ℕ) (last end : State) → is_open st s ≡ true
    → AreVictims s vs (with_table (with_request s r k st.table) st) last → AreVictims s ws (with_table (with_request s r k st.table) st) end → (vs ≡ ws) × (last ≡ end)

-- grants stand

-- the entry is no commit, abort or restart of the session, and no release of r by it
abbrev pub DoesKeepLock : ℕ → List ℕ → Entry → Type 0
DoesKeepLock s r e = e.session ≡ s → (e.call ≢ Commit) × (e.call ≢ Abort) × (e.call ≢ Restart) × (e.call ≢ Release r)

-- a lock held after the front is held after the rest, in the same mode or one above, if the session doesn't give it back
abbrev pub DoesGrantStand : List Entry → List Entry → Type 0
DoesGrantStand front rest = (s : ℕ) (r : List ℕ) (k : Mode) → held_mode (state_of front).table s r ≡ Some k → All (DoesKeepLock s r) rest → HoldsAtLeast (state_of (front ++ rest)).table s r k

-- dooms and requests stand

-- the entry is no abort or restart of the session
abbrev pub DoesKeepDoom : ℕ → Entry → Type 0
DoesKeepDoom s e = e.session ≡ s → (e.call ≢ Abort) × (e.call ≢ Restart)

-- a transaction doomed after the front is open and doomed after the rest, if its session doesn't abort or restart in the rest
abbrev pub DoesDoomStand : List Entry → List Entry → Type 0
DoesDoomStand front rest = (s : ℕ) (x : Transaction) → (state_of front).begun s ≡ Some x → x.doomed ≡ true → All (DoesKeepDoom s) rest → (state_of (front ++ rest)).begun s ≡ Some x

-- the session waits no more: it holds the request's resource in the target mode, or its transaction is doomed
abbrev pub IsRequestOver : ℕ → Claim → State → Type 0
IsRequestOver s q st = (request_of s st.table.requests ≡ None) × ((held_mode st.table s q.resource ≡ Some q.mode) ⊎ HasDoomedTransaction st s)

-- the call cancels its session's waiting request
abbrev pub DoesCancelRequest : Call → Type 0
DoesCancelRequest c = (c ≡ Abort) ⊎ ((c ≡ Withdraw) ⊎ (c ≡ Restart))

-- from st on the session waits with this request: through all entries, or up to its abort, its withdrawal, its restart or an
-- entry that ends the wait
abbrev pub DoesWaitOn : ℕ → Claim → State → List Entry → Type 0
DoesWaitOn s q st [] = request_of s st.table.requests ≡ Some q
DoesWaitOn s q st (e ∷ es) = (request_of s st.table.requests ≡ Some q)
    × (((e.session ≡ s) × DoesCancelRequest e.call) ⊎ (IsRequestOver s q (step st e.session e.call).state ⊎ DoesWaitOn s q (step st e.session e.call).state es))

-- a request that waits after the front waits on through the rest, as DoesWaitOn says
abbrev pub DoesRequestStand : List Entry → List Entry → Type 0
DoesRequestStand front rest = (s : ℕ) (q : Claim) → request_of s (state_of front).table.requests ≡ Some q → DoesWaitOn s q (state_of front) rest
