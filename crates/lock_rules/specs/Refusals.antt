-- What each refusal means, as relations, beside the tests of Step that compute, and the order of the tests.
use Rattle.std.specs.Prelude.{◌≡◌, ◌≢◌, ℕ, ◌<◌, ◌≤◌, ◌↔◌, true, List, [], ◌∷◌, ◌++◌, length, map, None, Some, All, Contains}
use Rattle.lock_modes.specs.declared.Mode.{Mode}
use Rattle.lock_modes.specs.declared.Mode.TheVariants.{NL}
use Rattle.lock_modes.specs.Order.{need_of}
use Rattle.lock_tree.specs.Paths.{is_ancestor, parent_of, has_parent}
use Rattle.lock_rules.specs.declared.calls.Call.{Call}
use Rattle.lock_rules.specs.declared.calls.Call.TheVariants.{Begin, Lock, Convert, Poll, Release, Commit, Abort, Try, Withdraw, Restart}
use Rattle.lock_rules.specs.declared.calls.Reply.TheVariants.{Refused}
use Rattle.lock_rules.specs.declared.calls.Why.{Why}
use Rattle.lock_rules.specs.declared.calls.Why.TheVariants.{AlreadyOpen, NoTransaction, IsWaiting, IsDoomed, NothingAsked, NotHeld, ParentNotHeld, ChildHeld, TooManyLocks, WouldWait, NotWaiting}
use Rattle.lock_rules.specs.declared.calls.TheConstants.{MAX_LOCKS}
use Rattle.lock_rules.specs.State.{Table, State, held_mode, claims_of}
use Rattle.lock_rules.specs.Step.{tests, step}
use Rattle.lock_rules.specs.Kinds.{number_of_why}
use Rattle.lock_rules.specs.Laws.{HoldsAtLeast, HasTransaction, HasDoomedTransaction, HasRequest}
use Rattle.lock_rules.specs.Effects.{IsNotRefused, IsTarget, IsFree}

-- r has a parent, and the session doesn't hold it in a mode at or above what the target of this request needs
abbrev pub LacksParent : Table → ℕ → List ℕ → Mode → Type 0
LacksParent t s r m = (k : Mode) × IsTarget (held_mode t s r) m k × (has_parent r ≡ true) × (HoldsAtLeast t s (parent_of r) (need_of k) → ⊥)

-- the session itself holds a lock on a descendant of r
abbrev pub HoldsBelow : Table → ℕ → List ℕ → Type 0
HoldsBelow t s r = (x : List ℕ) × (k : Mode) × (is_ancestor r x ≡ true) × (held_mode t s x ≡ Some k)

-- the session doesn't hold r, and it holds MAX_LOCKS locks
abbrev pub HoldsMaxLocks : Table → ℕ → List ℕ → Type 0
HoldsMaxLocks t s r = (held_mode t s r ≡ None) × (length (claims_of s t.held) ≡ MAX_LOCKS)

-- the session doesn't hold r in the target of this request, and the target isn't free
abbrev pub WaitsIfAsked : Table → ℕ → List ℕ → Mode → Type 0
WaitsIfAsked t s r m = (k : Mode) × IsTarget (held_mode t s r) m k × (held_mode t s r ≢ Some k) × (IsFree t s r k → ⊥)

-- what each refusal says of the session and its call; which refusals a call can get is in refusals_of
abbrev pub Fails : State → ℕ → Call → Why → Type 0
Fails st s c AlreadyOpen = HasTransaction st s
Fails st s c NoTransaction = HasTransaction st s → ⊥
Fails st s c IsWaiting = HasRequest st s
Fails st s c IsDoomed = HasDoomedTransaction st s
Fails st s (Lock r m) NothingAsked = m ≡ NL
Fails st s (Convert r m) NothingAsked = m ≡ NL
Fails st s (Convert r m) NotHeld = held_mode st.table s r ≡ None
Fails st s (Release r) NotHeld = held_mode st.table s r ≡ None
Fails st s (Lock r m) ParentNotHeld = LacksParent st.table s r m
Fails st s (Convert r m) ParentNotHeld = LacksParent st.table s r m
Fails st s (Release r) ChildHeld = HoldsBelow st.table s r
Fails st s (Lock r m) TooManyLocks = HoldsMaxLocks st.table s r
Fails st s (Try r m) NothingAsked = m ≡ NL
Fails st s (Try r m) ParentNotHeld = LacksParent st.table s r m
Fails st s (Try r m) TooManyLocks = HoldsMaxLocks st.table s r
Fails st s (Try r m) WouldWait = WaitsIfAsked st.table s r m
Fails st s Withdraw NotWaiting = HasRequest st s → ⊥
Fails st s _ _ = ⊥

-- the refusals that a call can get, in the order of its tests, which is the order of their numbers
abbrev pub refusals_of : Call → List Why
refusals_of Begin = AlreadyOpen ∷ []
refusals_of (Lock r m) = NoTransaction ∷ IsWaiting ∷ IsDoomed ∷ NothingAsked ∷ ParentNotHeld ∷ TooManyLocks ∷ []
refusals_of (Convert r m) = NoTransaction ∷ IsWaiting ∷ IsDoomed ∷ NothingAsked ∷ NotHeld ∷ ParentNotHeld ∷ []
refusals_of Poll = NoTransaction ∷ []
refusals_of (Release r) = NoTransaction ∷ IsWaiting ∷ IsDoomed ∷ NotHeld ∷ ChildHeld ∷ []
refusals_of Commit = NoTransaction ∷ IsWaiting ∷ IsDoomed ∷ []
refusals_of Abort = NoTransaction ∷ []
refusals_of (Try r m) = NoTransaction ∷ IsWaiting ∷ IsDoomed ∷ NothingAsked ∷ ParentNotHeld ∷ TooManyLocks ∷ WouldWait ∷ []
refusals_of Withdraw = NoTransaction ∷ IsDoomed ∷ NotWaiting ∷ []
refusals_of Restart = NoTransaction ∷ []

-- the refusal is one of the call's, its test fails, and no test before it does
abbrev pub IsFirstToFail : State → ℕ → Call → Why → Type 0
IsFirstToFail st s c why = (before after : List Why) × (refusals_of c ≡ before ++ why ∷ after) × Fails st s c why × All (λ w. Fails st s c w → ⊥) before

-- a call is refused for a reason exactly if that reason's test is the first to fail
abbrev pub AreRefusalsMeant : State → Type 0
AreRefusalsMeant st = (s : ℕ) (c : Call) (why : Why) → ((step st s c).reply ≡ Refused why) ↔ IsFirstToFail st s c why

-- a call isn't refused exactly if none of its tests fails
abbrev pub AreOthersAccepted : State → Type 0
AreOthersAccepted st = (s : ℕ) (c : Call) → IsNotRefused st s c ↔ All (λ w. Fails st s c w → ⊥) (refusals_of c)

-- an abort is refused only with NoTransaction, and exactly if the session has no transaction
abbrev pub DoesAbortNeedTransaction : State → Type 0
DoesAbortNeedTransaction st = (s : ℕ) (why : Why) → ((step st s Abort).reply ≡ Refused why) ↔ ((why ≡ NoTransaction) × (HasTransaction st s → ⊥))

-- a commit is never refused if the session has a transaction, doesn't wait and isn't doomed
abbrev pub IsClearCommitAccepted : State → Type 0
IsClearCommitAccepted st = (s : ℕ) → HasTransaction st s → (HasRequest st s → ⊥) → (HasDoomedTransaction st s → ⊥) → IsNotRefused st s Commit

-- a request for a resource that the session holds is never refused with TooManyLocks
abbrev pub AreConversionsUnbounded : State → Type 0
AreConversionsUnbounded st = (s : ℕ) (r : List ℕ) (m k : Mode) → held_mode st.table s r ≡ Some k →
    ((step st s (Lock r m)).reply ≢ Refused TooManyLocks) × ((step st s (Convert r m)).reply ≢ Refused TooManyLocks)

-- the order of the tests

-- the numbers of these refusals rise
abbrev pub AreNumbersRising : List Why → Type 0
AreNumbersRising [] = Unit {0}
AreNumbersRising (v ∷ []) = Unit {0}
AreNumbersRising (v ∷ w ∷ rest) = (number_of_why v < number_of_why w) × AreNumbersRising (w ∷ rest)

-- the tests of a call, one after another, give the refusals that the call can get
abbrev pub DoTestsGiveRefusals : State → Type 0
DoTestsGiveRefusals st = (s : ℕ) (c : Call) → map (λ t. t.1) (tests st s c) ≡ refusals_of c

-- the call has this test, and it fails
abbrev pub IsFailingTest : State → ℕ → Call → Why → Type 0
IsFailingTest st s c why = Contains (refusals_of c) why × Fails st s c why

-- of the call's tests that fail, this one has the lowest number
abbrev pub IsLowestToFail : State → ℕ → Call → Why → Type 0
IsLowestToFail st s c why = IsFailingTest st s c why × ((w : Why) → IsFailingTest st s c w → number_of_why why ≤ number_of_why w)

-- a call is refused for a reason exactly if, of its tests that fail, that of the reason has the lowest number
abbrev pub AreRefusalsLowest : State → Type 0
AreRefusalsLowest st = (s : ℕ) (c : Call) (why : Why) → ((step st s c).reply ≡ Refused why) ↔ IsLowestToFail st s c why
