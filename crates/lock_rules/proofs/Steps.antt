-- Each call keeps what holds of the table between two calls.
use Rattle.std.proofs.Common.{◌≡◌, ℕ, ◌+◌, ◌<◌, Bool, true, false, cond, not, eqb, ◌&&◌, List, [], ◌∷◌, ◌++◌, length, Option, Some, None, refl, arith, length-append}
use Rattle.std.specs.Prelude.{is_some}
use Rattle.std.proofs.lemmas.Bool.{and_parts}
use Rattle.lock_modes.specs.declared.Mode.{Mode}
use Rattle.lock_modes.proofs.Order.{at_or_below-refl}
use Rattle.lock_rules.specs.declared.calls.Call.{Call}
use Rattle.lock_rules.specs.declared.calls.Call.TheVariants.{Begin, Lock, Convert, Poll, Release, Commit, Abort, Try, Withdraw, Restart}
use Rattle.lock_rules.specs.declared.calls.Why.{Why}
use Rattle.lock_rules.specs.declared.calls.Why.TheVariants.{WouldWait}
use Rattle.lock_rules.specs.Entries.{Entry}
use Rattle.lock_modes.specs.Order.{at_or_below}
use Rattle.lock_rules.specs.State.{Claim, Table, State, no_locks, empty, held_mode, mode_or_nothing, request_of, is_waiting, with_table}
use Rattle.lock_rules.specs.Queue.{fits, after_grant, is_granted_at_once, with_request}
use Rattle.lock_rules.specs.Waits.{waits_for}
use Rattle.waits_for.specs.Walks.{IsWalk}
use Rattle.lock_rules.specs.Step.{lock_tests, would_wait, is_nothing, lacks_parent, target_of, tests, first_failing, after_wait, is_held, after_asking, act, outcome_of, step}
use Rattle.lock_rules.specs.Legal.{state_after, state_of}
use Rattle.lock_rules.specs.Sound.{Stands}
use Rattle.lock_rules.proofs.Marks.{below-sup, sup-some}
use Rattle.lock_rules.proofs.Sound.{Rises, granted-alters, unfit_at-alters}
use Rattle.lock_rules.proofs.Promote.{granted-follows}
use Rattle.lock_rules.proofs.Cuts.{IsQuiescent, released-lawful, ended-lawful, cancelled-follows, cancelled-unfit}
use Rattle.lock_rules.proofs.Begins.{new, begins-sound, begins-beside, begins-unfit}
use Rattle.lock_rules.proofs.Settle.{settled-lawful}

-- the empty table is as between two calls
pub none-lawful : IsQuiescent no_locks
none-lawful = record {
  sound = record { order = λ r. refl; once = λ s. omega arith; raising = λ s q e. absurd (cc); asked_under = λ s q e. absurd (cc); held_under = λ s r k e. absurd (cc); agree = λ s u r k l n e f. absurd (cc) };
  no_circle = none;
  unfit = λ x q qs e. absurd (cc);
}
  where
    and-false : (b : Bool) → (b && false) ≡ true → ⊥
    and-false true h = cc
    and-false false h = cc

    none : (s : ℕ) (ws : List ℕ) → IsWalk (waits_for no_locks) s ws s → ⊥
    none s [] walk = and-false (not (eqb s s)) walk
    none s (w ∷ ws) walk = and-false (not (eqb w s)) walk.0

-- the table is as between two calls again, and no lock fell
pub record IsKept (t t' : Table) : Type 0 where
  pub lawful : IsQuiescent t'
  pub rises : Rises t t'

-- it is kept if nothing changes
same-kept : (t : Table) → IsQuiescent t → IsKept t t
same-kept t i = record { lawful = i; rises = λ s x. at_or_below-refl (mode_or_nothing (held_mode t s x)) }

-- a request keeps it: one that is granted, or one that begins to wait and has its deadlocks resolved
pub asked-kept : (st : State) (s : ℕ) (r : List ℕ) (m : Mode) → IsQuiescent st.table → request_of s st.table.requests ≡ None → at_or_below (mode_or_nothing (held_mode st.table s r)) m ≡ true → Stands st.table s r m → IsKept st.table (after_asking st s r m).table
asked-kept st s r m i n up under = held_already (is_held (held_mode st.table s r) m)
  where
    none : (q : Claim) → request_of s st.table.requests ≡ Some q → ⊥
    none q k = cc

    decided : (b : Bool) → is_granted_at_once st.table s r m ≡ b → IsKept st.table (cond b (with_table (after_grant s r m st.table) st) (after_wait st s r m)).table
    decided true e =
        let fit = (and_parts (fits st.table s r m) _ e).0 in
        let f = granted-follows s r m st.table i.sound up under fit in
        record {
          lawful = record {
            sound = f.sound;
            no_circle = f.circle i.no_circle;
            unfit = λ x. unfit_at-alters s st.table (after_grant s r m st.table) x (granted-alters s r m st.table) (f.rises s x) (λ q k. absurd (none q k)) i.sound (i.unfit x);
          };
          rises = f.rises;
        }
    decided false e =
        let sound = begins-sound s r m st.table i.sound n up under in
        let few : length (st.table.requests ++ new s r m ∷ []) < length st.table.requests + 2 = omega (arith, length-append st.table.requests (new s r m ∷ [])) in
        let z = settled-lawful (length st.table.requests + 2) s (with_table (with_request s r m st.table) st) sound (begins-beside s r m st.table n i.no_circle) (begins-unfit s r m st.table i.sound sound n e i.unfit) few in
        record { lawful = z.lawful; rises = z.follows.rises }

    held_already : (b : Bool) → IsKept st.table (cond b st (cond (is_granted_at_once st.table s r m) (with_table (after_grant s r m st.table) st) (after_wait st s r m))).table
    held_already true = same-kept st.table i
    held_already false = decided (is_granted_at_once st.table s r m) refl

-- all tests of the list pass
abbrev pub AllPass : List (Bool × Why) → Type 0
AllPass [] = Unit {0}
AllPass (t ∷ ts) = (t.0 ≡ false) × AllPass ts

-- if no test is the first to fail, all pass
pub all-pass : (ts : List (Bool × Why)) → first_failing ts ≡ None → AllPass ts
all-pass [] h = tt
all-pass (t ∷ ts) h = go t.0 refl h (all-pass ts)
  where
    go : (b : Bool) → t.0 ≡ b → cond b (Some t.1) (first_failing ts) ≡ None → (first_failing ts ≡ None → AllPass ts) → (t.0 ≡ false) × AllPass ts
    go true e h next = absurd (cc)
    go false e h next = (e, next h)

-- what isn't some is None
pub is-none : {A : Type 0} (o : Option A) → is_some o ≡ false → o ≡ None
is-none None h = refl
is-none (Some q) h = cc

-- a request that passes its tests keeps it
may-ask : (st : State) (s : ℕ) (r : List ℕ) (m : Mode) → IsQuiescent st.table → is_waiting st s ≡ false → is_nothing m ≡ false → lacks_parent st.table s r (target_of (held_mode st.table s r) m) ≡ false → IsKept st.table (after_asking st s r (target_of (held_mode st.table s r) m)).table
may-ask st s r m i w n p =
    asked-kept st s r (target_of (held_mode st.table s r) m) i (is-none (request_of s st.table.requests) w) (below-sup (mode_or_nothing (held_mode st.table s r)) m)
    (p, sup-some (mode_or_nothing (held_mode st.table s r)) m n)

-- if all tests of a list pass, so do those of its front
pub front-passes : (ts us : List (Bool × Why)) → first_failing (ts ++ us) ≡ None → first_failing ts ≡ None
front-passes [] us h = refl
front-passes (t ∷ ts) us h = go t.0 h (front-passes ts us)
  where
    go : (b : Bool) → cond b (Some t.1) (first_failing (ts ++ us)) ≡ None → (first_failing (ts ++ us) ≡ None → first_failing ts ≡ None) → cond b (Some t.1) (first_failing ts) ≡ None
    go true e next = absurd (cc)
    go false e next = next e

-- if all tests of a list pass, so does the last
pub last-passes : (ts : List (Bool × Why)) (u : Bool × Why) → first_failing (ts ++ u ∷ []) ≡ None → u.0 ≡ false
last-passes [] u h = (all-pass (u ∷ []) h).0
last-passes (t ∷ ts) u h = go t.0 h (last-passes ts u)
  where
    go : (b : Bool) → cond b (Some t.1) (first_failing (ts ++ u ∷ [])) ≡ None → (first_failing (ts ++ u ∷ []) ≡ None → u.0 ≡ false) → u.0 ≡ false
    go true e next = absurd (cc)
    go false e next = next e

-- a Try that passes its tests passes those of a Lock
pub try-locks : (st : State) (s : ℕ) (r : List ℕ) (m : Mode) → first_failing (tests st s (Try r m)) ≡ None → first_failing (tests st s (Lock r m)) ≡ None
try-locks st s r m = front-passes (lock_tests st s r m) ((would_wait st.table s r (target_of (held_mode st.table s r) m), WouldWait) ∷ [])

-- a Lock that passes its tests keeps it
pub lock-kept : (st : State) (s : ℕ) (r : List ℕ) (m : Mode) → IsQuiescent st.table → first_failing (tests st s (Lock r m)) ≡ None → IsKept st.table (after_asking st s r (target_of (held_mode st.table s r) m)).table
lock-kept st s r m i h = let p = all-pass (tests st s (Lock r m)) h in may-ask st s r m i p.1.0 p.1.1.1.0 p.1.1.1.1.0

-- a Convert that passes its tests keeps it
pub convert-kept : (st : State) (s : ℕ) (r : List ℕ) (m : Mode) → IsQuiescent st.table → first_failing (tests st s (Convert r m)) ≡ None → IsKept st.table (after_asking st s r (target_of (held_mode st.table s r) m)).table
convert-kept st s r m i h = let p = all-pass (tests st s (Convert r m)) h in may-ask st s r m i p.1.0 p.1.1.1.0 p.1.1.1.1.1.0

-- every call that passes its tests keeps it
pub act-lawful : (st : State) (s : ℕ) (c : Call) → IsQuiescent st.table → first_failing (tests st s c) ≡ None → IsQuiescent (act st s c).state.table
act-lawful st s Begin i h = i
act-lawful st s (Lock r m) i h = (lock-kept st s r m i h).lawful
act-lawful st s (Convert r m) i h = (convert-kept st s r m i h).lawful
act-lawful st s Poll i h = i
act-lawful st s (Release r) i h =
    let p = all-pass (tests st s (Release r)) h in
    released-lawful s r st.table i (is-none (request_of s st.table.requests) p.1.0) p.1.1.1.1.0
act-lawful st s Commit i h = ended-lawful s st.table i
act-lawful st s Abort i h = ended-lawful s st.table i
act-lawful st s (Try r m) i h = (lock-kept st s r m i (try-locks st s r m h)).lawful
act-lawful st s Withdraw i h =
    let f = cancelled-follows s st.table i.sound in
    record { sound = f.sound; no_circle = f.circle i.no_circle; unfit = cancelled-unfit s st.table i.sound i.unfit }
act-lawful st s Restart i h = ended-lawful s st.table i

-- every call keeps it, refused or not
pub step-lawful : (st : State) (s : ℕ) (c : Call) → IsQuiescent st.table → IsQuiescent (step st s c).state.table
step-lawful st s c i = go (first_failing (tests st s c)) refl
  where
    go : (o : Option Why) → first_failing (tests st s c) ≡ o → IsQuiescent (outcome_of o st s c).state.table
    go None e = act-lawful st s c i e
    go (Some w) e = i

-- every list of calls keeps it
pub after-lawful : (es : List Entry) (st : State) → IsQuiescent st.table → IsQuiescent (state_after st es).table
after-lawful [] st i = i
after-lawful (e ∷ es) st i = after-lawful es (step st e.session e.call).state (step-lawful st e.session e.call i)

-- it holds in every state that a history leads to
pub state-lawful : (es : List Entry) → IsQuiescent (state_of es).table
state-lawful es = after-lawful es empty none-lawful
