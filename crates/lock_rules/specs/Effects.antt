-- What a call that isn't refused brings about, as relations.
use Rattle.std.specs.Prelude.{◌≡◌, ◌≢◌, ℕ, ◌+◌, ◌↔◌, true, false, ◌⊎◌, List, [], ◌∷◌, ◌++◌, length, map, Option, Some, None}
use Rattle.lock_modes.specs.declared.Mode.{Mode}
use Rattle.lock_modes.specs.Order.{IsLeastUpperBound}
use Rattle.lock_rules.specs.declared.calls.Call.{Call}
use Rattle.lock_rules.specs.declared.calls.Call.TheVariants.{Begin, Lock, Convert, Poll, Release, Commit, Abort, Try, Withdraw}
use Rattle.lock_rules.specs.declared.calls.Reply.TheVariants.{Began, Granted, Waiting, Deadlock, Clear, Released, Committed, Aborted, Refused, Withdrawn}
use Rattle.lock_rules.specs.declared.calls.Why.{Why}
use Rattle.lock_rules.specs.State.{Claim, Table, State, held_mode, request_of, claims_of, claims_but, is_open, is_waiting, is_doomed, with_table}
use Rattle.lock_rules.specs.Queue.{conversions, fresh_requests, queue, fits, locks_but, with_request}
use Rattle.lock_rules.specs.Waits.{doom, resource_of_request, after_victim}
use Rattle.lock_rules.specs.Step.{Outcome, step}
use Rattle.lock_rules.specs.Laws.{IsGrantOf, HoldsAtLeast, HasTransaction, HasDoomedTransaction, HasRequest, ArePromotionsLongest, AreVictims}

-- the call isn't refused
abbrev pub IsNotRefused : State → ℕ → Call → Type 0
IsNotRefused st s c = (why : Why) → (step st s c).reply ≢ Refused why

-- the session has a new transaction with the next number, not doomed; no lock, no request and no other transaction changes
pub record IsBeginOf (s : ℕ) (st st' : State) : Type 0 where
  pub count : st'.count ≡ st.count + 1
  pub own : st'.begun s ≡ Some (record { number = st.count + 1; doomed = false })
  pub others : (u : ℕ) → u ≢ s → st'.begun u ≡ st.begun u
  pub table : st'.table ≡ st.table

-- a begin that isn't refused opens a transaction and replies with its number
abbrev pub DoesBeginOpen : State → Type 0
DoesBeginOpen st = (s : ℕ) → IsNotRefused st s Begin → ((step st s Begin).reply ≡ Began (st.count + 1)) × IsBeginOf s st (step st s Begin).state

-- a poll changes nothing; it replies Deadlock exactly if the session is doomed, Waiting exactly if it waits and isn't
-- doomed, and Clear exactly if it has a transaction, doesn't wait and isn't doomed
pub record IsPollReport (s : ℕ) (st : State) (o : Outcome) : Type 0 where
  pub keeps : o.state ≡ st
  pub deadlock : (o.reply ≡ Deadlock) ↔ HasDoomedTransaction st s
  pub waiting : (o.reply ≡ Waiting) ↔ (HasRequest st s × (HasDoomedTransaction st s → ⊥))
  pub clear : (o.reply ≡ Clear) ↔ (HasTransaction st s × (HasRequest st s → ⊥) × (HasDoomedTransaction st s → ⊥))

-- IsPollReport holds for every session
abbrev pub DoesPollReport : State → Type 0
DoesPollReport st = (s : ℕ) → IsPollReport s st (step st s Poll)

-- the session's locks and its request stay
pub record IsUnchanged (u : ℕ) (t t' : Table) : Type 0 where
  pub held : (x : List ℕ) → held_mode t' u x ≡ held_mode t u x
  pub request : request_of u t'.requests ≡ request_of u t.requests

-- the session's waiting request q was granted, and its locks on other resources stay
pub record IsPromotionOf (u : ℕ) (q : Claim) (t t' : Table) : Type 0 where
  pub waited : request_of u t.requests ≡ Some q
  pub waits_no_more : request_of u t'.requests ≡ None
  pub held : held_mode t' u q.resource ≡ Some q.mode
  pub elsewhere : (x : List ℕ) → x ≢ q.resource → held_mode t' u x ≡ held_mode t u x

-- the session gives back its lock on r and no other, and r is promoted; each other session is unchanged, or its request for
-- r is granted
pub record IsReleaseOf (s : ℕ) (r : List ℕ) (st st' : State) : Type 0 where
  pub given_back : held_mode st'.table s r ≡ None
  pub request : request_of s st'.table.requests ≡ None
  pub elsewhere : (u : ℕ) (x : List ℕ) → x ≢ r → held_mode st'.table u x ≡ held_mode st.table u x
  pub others_hold : (u : ℕ) (k : Mode) → u ≢ s → held_mode st.table u r ≡ Some k → HoldsAtLeast st'.table u r k
  pub others : (u : ℕ) → u ≢ s → IsUnchanged u st.table st'.table ⊎ ((q : Claim) × IsPromotionOf u q st.table st'.table × (q.resource ≡ r))
  pub promotion : ArePromotionsLongest (r ∷ []) (record { held = locks_but s r st.table.held; requests = st.table.requests }) st'.table
  pub transactions : (st'.begun ≡ st.begun) × (st'.count ≡ st.count)

-- a release that isn't refused replies Released and gives back one lock
abbrev pub DoesReleaseTakeOneLock : State → Type 0
DoesReleaseTakeOneLock st = (s : ℕ) (r : List ℕ) → IsNotRefused st s (Release r) →
    ((step st s (Release r)).reply ≡ Released) × IsReleaseOf s r st (step st s (Release r)).state

-- the session neither holds the resource nor waits for it
abbrev pub HasNoClaimOn : Table → ℕ → List ℕ → Type 0
HasNoClaimOn t s x = (held_mode t s x ≡ None) × ((q : Claim) → request_of s t.requests ≡ Some q → q.resource ≢ x)

-- the resources that the end of the session's transaction, or its restart, promotes: that of its request, and those of its locks
abbrev pub resources_touched : ℕ → Table → List (List ℕ)
resources_touched s t = resource_of_request (request_of s t.requests) ++ map (λ c. c.resource) (claims_of s t.held)

-- the session has no lock or request left, and what it held or waited for is promoted; each other session is unchanged, or its
-- request for one of these resources is granted
pub record AreClaimsTaken (s : ℕ) (st st' : State) : Type 0 where
  pub holds_nothing : (x : List ℕ) → held_mode st'.table s x ≡ None
  pub waits_no_more : request_of s st'.table.requests ≡ None
  pub others_hold : (u : ℕ) (x : List ℕ) (k : Mode) → u ≢ s → held_mode st.table u x ≡ Some k → HoldsAtLeast st'.table u x k
  pub others : (u : ℕ) → u ≢ s → IsUnchanged u st.table st'.table ⊎ ((q : Claim) × IsPromotionOf u q st.table st'.table × (HasNoClaimOn st.table s q.resource → ⊥))
  pub promotion : ArePromotionsLongest (resources_touched s st.table) (record { held = claims_but s st.table.held; requests = claims_but s st.table.requests }) st'.table
  pub others_open : (u : ℕ) → u ≢ s → st'.begun u ≡ st.begun u
  pub count : st'.count ≡ st.count

-- the session has no transaction left, and its claims are taken
pub record IsEndOf (s : ℕ) (st st' : State) : Type 0 where
  pub closed : is_open st' s ≡ false
  pub taken : AreClaimsTaken s st st'

-- a commit that isn't refused ends the transaction, and replies with how many locks it held
abbrev pub DoesCommitTakeAllLocks : State → Type 0
DoesCommitTakeAllLocks st = (s : ℕ) → IsNotRefused st s Commit →
    ((step st s Commit).reply ≡ Committed (length (claims_of s st.table.held))) × IsEndOf s st (step st s Commit).state

-- an abort that isn't refused ends the transaction, and replies with how many locks it held
abbrev pub DoesAbortTakeAllLocks : State → Type 0
DoesAbortTakeAllLocks st = (s : ℕ) → IsNotRefused st s Abort →
    ((step st s Abort).reply ≡ Aborted (length (claims_of s st.table.held))) × IsEndOf s st (step st s Abort).state

-- k is the target of a request: the mode asked, or for a holder the least mode at or above both its mode and the one asked
abbrev pub IsTarget : Option Mode → Mode → Mode → Type 0
IsTarget None m k = k ≡ m
IsTarget (Some h) m k = IsLeastUpperBound h m k

-- the mode fits, and the session holds the resource or nobody waits for it
abbrev pub IsFree : Table → ℕ → List ℕ → Mode → Type 0
IsFree t s r k = (fits t s r k ≡ true) × ((held_mode t s r ≢ None) ⊎ (queue t r ≡ []))

-- a request of the session for the resource in mode k
abbrev pub request : ℕ → List ℕ → Mode → Claim
request s r k = record { session = s; resource = r; mode = k }

-- the session begins to wait, and no lock changes; a conversion is queued behind the conversions, a fresh request last
pub record IsWaitOf (s : ℕ) (r : List ℕ) (k : Mode) (t t' : Table) : Type 0 where
  pub held : (u : ℕ) (x : List ℕ) → held_mode t' u x ≡ held_mode t u x
  pub waiting : request_of s t'.requests ≡ Some (request s r k)
  pub others_wait : (u : ℕ) → u ≢ s → request_of u t'.requests ≡ request_of u t.requests
  pub conversion : held_mode t s r ≢ None → queue t' r ≡ conversions t r ++ request s r k ∷ fresh_requests t r
  pub fresh : held_mode t s r ≡ None → queue t' r ≡ queue t r ++ request s r k ∷ []
  pub elsewhere : (x : List ℕ) → x ≢ r → queue t' x ≡ queue t x

-- the session is one of these
abbrev pub IsAmong : ℕ → List ℕ → Type 0
IsAmong u [] = ⊥
IsAmong u (v ∷ vs) = (u ≡ v) ⊎ IsAmong u vs

-- one of these sessions waits for the resource
abbrev pub IsWantedBy : List ℕ → Table → List ℕ → Type 0
IsWantedBy vs t x = (v : ℕ) × (p : Claim) × IsAmong v vs × (request_of v t.requests ≡ Some p) × (p.resource ≡ x)

-- the session waited and waits no more, its transaction is doomed, and it keeps its locks
pub record IsDoomOf (v : ℕ) (st st' : State) : Type 0 where
  pub waited : (p : Claim) × (request_of v st.table.requests ≡ Some p)
  pub waits_no_more : request_of v st'.table.requests ≡ None
  pub doomed : st'.begun v ≡ doom (st.begun v)
  pub held : (x : List ℕ) → held_mode st'.table v x ≡ held_mode st.table v x

-- each victim is doomed and keeps its locks; each other session is unchanged, or its request for a resource that a victim
-- waited for is granted
pub record DoVictimsKeepLocks (vs : List ℕ) (st st' : State) : Type 0 where
  pub victims : (v : ℕ) → IsAmong v vs → IsDoomOf v st st'
  pub others : (u : ℕ) → (IsAmong u vs → ⊥) → IsUnchanged u st.table st'.table ⊎ ((q : Claim) × IsPromotionOf u q st.table st'.table × IsWantedBy vs st.table q.resource)
  pub others_begun : (u : ℕ) → (IsAmong u vs → ⊥) → st'.begun u ≡ st.begun u
  pub count : st'.count ≡ st.count

-- DoVictimsKeepLocks holds for the victims of any request that a session without one begins
abbrev pub DoVictimsKeepTheirLocks : State → Type 0
DoVictimsKeepTheirLocks st = (s : ℕ) (r : List ℕ) (k : Mode) (vs : List ℕ) (last : State) → is_waiting st s ≡ false
    → AreVictims s vs (with_table (with_request s r k st.table) st) last → DoVictimsKeepLocks vs (with_table (with_request s r k st.table) st) last

-- a victim's request is removed, and then its resource is promoted
abbrev pub DoesDoomPromote : State → Type 0
DoesDoomPromote st = (v : ℕ) (q : Claim) → request_of v st.table.requests ≡ Some q
    → ArePromotionsLongest (q.resource ∷ []) (record { held = st.table.held; requests = claims_but v st.table.requests }) (after_victim v st).table

-- the reply is Deadlock if the asker is doomed, else Waiting if its request still waits, else Granted with the target
pub record IsReplyAfterWait (s : ℕ) (k : Mode) (o : Outcome) : Type 0 where
  pub deadlock : is_doomed o.state s ≡ true → o.reply ≡ Deadlock
  pub waiting : is_doomed o.state s ≡ false → request_of s o.state.table.requests ≢ None → o.reply ≡ Waiting
  pub granted : is_doomed o.state s ≡ false → request_of s o.state.table.requests ≡ None → o.reply ≡ Granted k

-- the request begins to wait, and the victims that it makes, one after another, lead to the state after the call
pub record IsWaitSettled (s : ℕ) (r : List ℕ) (k : Mode) (st : State) (o : Outcome) : Type 0 where
  pub wait : IsWaitOf s r k st.table (with_request s r k st.table)
  pub victims : List ℕ
  pub one_after_another : AreVictims s victims (with_table (with_request s r k st.table) st) o.state
  pub told : IsReplyAfterWait s k o

-- the answer to a request for target k: if the session holds r in k already, Granted and no change; if the request is free,
-- a grant; else a wait, with the victims that it makes
pub record IsAnswerTo (s : ℕ) (r : List ℕ) (k : Mode) (st : State) (o : Outcome) : Type 0 where
  pub held_already : held_mode st.table s r ≡ Some k → (o.reply ≡ Granted k) × (o.state ≡ st)
  pub at_once : held_mode st.table s r ≢ Some k → IsFree st.table s r k → (o.reply ≡ Granted k) × IsGrantOf s r k st.table o.state.table × (o.state.begun ≡ st.begun) × (o.state.count ≡ st.count)
  pub later : held_mode st.table s r ≢ Some k → (IsFree st.table s r k → ⊥) → IsWaitSettled s r k st o

-- a Lock that isn't refused is answered by IsAnswerTo for its target
abbrev pub IsLockAnswered : State → Type 0
IsLockAnswered st = (s : ℕ) (r : List ℕ) (m : Mode) → IsNotRefused st s (Lock r m) →
    (k : Mode) × IsTarget (held_mode st.table s r) m k × IsAnswerTo s r k st (step st s (Lock r m))

-- a Convert that isn't refused is answered by IsAnswerTo for its target
abbrev pub IsConvertAnswered : State → Type 0
IsConvertAnswered st = (s : ℕ) (r : List ℕ) (m : Mode) → IsNotRefused st s (Convert r m) →
    (k : Mode) × IsTarget (held_mode st.table s r) m k × IsAnswerTo s r k st (step st s (Convert r m))

-- a Try that isn't refused does what a Lock does, and is granted
abbrev pub IsTryAnswered : State → Type 0
IsTryAnswered st = (s : ℕ) (r : List ℕ) (m : Mode) → IsNotRefused st s (Try r m) →
    (step st s (Try r m) ≡ step st s (Lock r m)) × ((k : Mode) × IsTarget (held_mode st.table s r) m k × ((step st s (Try r m)).reply ≡ Granted k))

-- a Try changes no request and no transaction: nobody begins to wait, is granted what it waits for, or becomes a victim
abbrev pub DoesTryLeaveWaits : State → Type 0
DoesTryLeaveWaits st = (s : ℕ) (r : List ℕ) (m : Mode) →
    ((step st s (Try r m)).state.table.requests ≡ st.table.requests) × ((step st s (Try r m)).state.begun ≡ st.begun)

-- the session's request is taken back, and its resource promoted; the session keeps its transaction and its locks, and each
-- other session is unchanged, or its request for that resource is granted
pub record IsWithdrawalOf (s : ℕ) (q : Claim) (st st' : State) : Type 0 where
  pub waited : request_of s st.table.requests ≡ Some q
  pub waits_no_more : request_of s st'.table.requests ≡ None
  pub held : (x : List ℕ) → held_mode st'.table s x ≡ held_mode st.table s x
  pub others : (u : ℕ) → u ≢ s → IsUnchanged u st.table st'.table ⊎ ((p : Claim) × IsPromotionOf u p st.table st'.table × (p.resource ≡ q.resource))
  pub promotion : ArePromotionsLongest (q.resource ∷ []) (record { held = st.table.held; requests = claims_but s st.table.requests }) st'.table
  pub transactions : (st'.begun ≡ st.begun) × (st'.count ≡ st.count)

-- a withdrawal that isn't refused replies Withdrawn and takes the session's request back
abbrev pub DoesWithdrawTakeRequest : State → Type 0
DoesWithdrawTakeRequest st = (s : ℕ) → IsNotRefused st s Withdraw →
    ((step st s Withdraw).reply ≡ Withdrawn) × ((q : Claim) × IsWithdrawalOf s q st (step st s Withdraw).state)

-- a Lock on a resource that the session holds does what a Convert does
abbrev pub IsLockOfHeldConvert : State → Type 0
IsLockOfHeldConvert st = (s : ℕ) (r : List ℕ) (m k : Mode) → held_mode st.table s r ≡ Some k → step st s (Lock r m) ≡ step st s (Convert r m)

-- if a Lock replies Granted, the session holds the resource in that mode
abbrev pub IsGrantedHeld : State → Type 0
IsGrantedHeld st = (s : ℕ) (r : List ℕ) (m k : Mode) → (step st s (Lock r m)).reply ≡ Granted k → held_mode (step st s (Lock r m)).state.table s r ≡ Some k

-- if a Convert replies Granted, the session holds the resource in that mode
abbrev pub IsConversionHeld : State → Type 0
IsConversionHeld st = (s : ℕ) (r : List ℕ) (m k : Mode) → (step st s (Convert r m)).reply ≡ Granted k → held_mode (step st s (Convert r m)).state.table s r ≡ Some k
