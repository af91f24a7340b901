-- Which answers come only to a session that has a transaction, which neither waits nor is doomed.
use Rattle.std.proofs.Common.{◌≡◌, ◌≢◌, inl, inr, ℕ, Bool, true, false, not, cond, List, [], ◌∷◌, refl}
use Rattle.lock_modes.specs.declared.Mode.{Mode}
use Rattle.lock_rules.specs.declared.calls.Call.{Call}
use Rattle.lock_rules.specs.declared.calls.Call.TheVariants.{Begin, Lock, Convert, Poll, Release, Commit, Abort, Try, Withdraw, Restart}
use Rattle.lock_rules.specs.declared.calls.Reply.TheVariants.{Granted, Waiting, Deadlock, Clear}
use Rattle.lock_rules.specs.declared.calls.Why.{Why}
use Rattle.lock_rules.specs.declared.calls.Why.TheVariants.{AlreadyOpen, NoTransaction, IsWaiting, IsDoomed, NothingAsked, NotHeld, ParentNotHeld, ChildHeld, TooManyLocks, WouldWait, NotWaiting}
use Rattle.lock_rules.specs.State.{State, held_mode, is_open, is_waiting, is_doomed}
use Rattle.lock_rules.specs.Step.{tests, first_failing, outcome_of, act, step, target_of, after_asking}
use Rattle.lock_rules.proofs.Sessions.{open-decides, waiting-decides, doomed-decides}
use Rattle.lock_office.specs.by_calls.HoldsAsTold.{MayGoOn, IsRefusedThoughFree, AsksFor, TellsOfGrant}

-- The tests of a session that may go on: it has a transaction, doesn't wait and isn't doomed.
abbrev IsFree : Bool → Bool → Bool → Type 0
IsFree opened waits doomed = (opened ≡ true) × (waits ≡ false) × (doomed ≡ false)

abbrev Test : Type 0
Test = Bool × Why

abbrev tail : List Test → List Test
tail [] = []
tail (t ∷ ts) = ts

-- A call with these three tests first tells of a grant only if the session passes them.
passed : (st : State) (s : ℕ) (c : Call) (opened waits doomed : Bool) (rest : List Test)
    → TellsOfGrant c (outcome_of (first_failing ((not opened, NoTransaction) ∷ (waits, IsWaiting) ∷ (doomed, IsDoomed) ∷ rest)) st s c).reply → IsFree opened waits doomed
passed st s c false waits doomed rest t = absurd (t.1 refl)
passed st s c true true doomed rest t = absurd (t.2 refl)
passed st s c true false true rest t = absurd (t.3 refl)
passed st s c true false false rest t = (refl, refl, refl)

-- A begin, an abort and a restart tell of no grant.
begin-tells-nothing : (st : State) (s : ℕ) (opened : Bool) → TellsOfGrant Begin (outcome_of (first_failing ((opened, AlreadyOpen) ∷ [])) st s Begin).reply → ⊥
begin-tells-nothing st s false t = t
begin-tells-nothing st s true t = t.0 refl

abort-tells-nothing : (st : State) (s : ℕ) (opened : Bool) → TellsOfGrant Abort (outcome_of (first_failing ((not opened, NoTransaction) ∷ [])) st s Abort).reply → ⊥
abort-tells-nothing st s false t = t.1 refl
abort-tells-nothing st s true t = t

restart-tells-nothing : (st : State) (s : ℕ) (opened : Bool) → TellsOfGrant Restart (outcome_of (first_failing ((not opened, NoTransaction) ∷ [])) st s Restart).reply → ⊥
restart-tells-nothing st s false t = t.1 refl
restart-tells-nothing st s true t = t

-- A poll is no request.
polls-ask-nothing : (r : List ℕ) (m : Mode) → AsksFor Poll r m → ⊥
polls-ask-nothing r m (inl e) = cc e
polls-ask-nothing r m (inr (inl e)) = cc e
polls-ask-nothing r m (inr (inr e)) = cc e

polled : (waits doomed : Bool) → TellsOfGrant Poll (cond doomed Deadlock (cond waits Waiting Clear)) → (waits ≡ false) × (doomed ≡ false)
polled waits true t = absurd (polls-ask-nothing t.0 t.1 t.2)
polled true false t = absurd (polls-ask-nothing t.0 t.1 t.2)
polled false false t = (refl, refl)

poll-tells : (st : State) (s : ℕ) (opened : Bool) → TellsOfGrant Poll (outcome_of (first_failing ((not opened, NoTransaction) ∷ [])) st s Poll).reply
    → IsFree opened (is_waiting st s) (is_doomed st s)
poll-tells st s false t = absurd (t.1 refl)
poll-tells st s true t = let p = polled (is_waiting st s) (is_doomed st s) t in (refl, p.0, p.1)

-- A withdrawal tells if it comes too late.
withdrawal-tells : (st : State) (s : ℕ) (opened doomed waits : Bool)
    → TellsOfGrant Withdraw (outcome_of (first_failing ((not opened, NoTransaction) ∷ (doomed, IsDoomed) ∷ (not waits, NotWaiting) ∷ [])) st s Withdraw).reply → IsFree opened waits doomed
withdrawal-tells st s false doomed waits t = absurd (t.1 refl)
withdrawal-tells st s true true waits t = absurd (t.3 refl)
withdrawal-tells st s true false true t = absurd t
withdrawal-tells st s true false false t = (refl, refl, refl)

tells-free : (st : State) (s : ℕ) (c : Call) → TellsOfGrant c (step st s c).reply → IsFree (is_open st s) (is_waiting st s) (is_doomed st s)
tells-free st s Begin t = absurd (begin-tells-nothing st s (is_open st s) t)
tells-free st s (Lock r m) t = passed st s (Lock r m) (is_open st s) (is_waiting st s) (is_doomed st s) (tail (tail (tail (tests st s (Lock r m))))) t
tells-free st s (Convert r m) t = passed st s (Convert r m) (is_open st s) (is_waiting st s) (is_doomed st s) (tail (tail (tail (tests st s (Convert r m))))) t
tells-free st s Poll t = poll-tells st s (is_open st s) t
tells-free st s (Release r) t = passed st s (Release r) (is_open st s) (is_waiting st s) (is_doomed st s) (tail (tail (tail (tests st s (Release r))))) t
tells-free st s Commit t = passed st s Commit (is_open st s) (is_waiting st s) (is_doomed st s) [] t
tells-free st s Abort t = absurd (abort-tells-nothing st s (is_open st s) t)
tells-free st s (Try r m) t = passed st s (Try r m) (is_open st s) (is_waiting st s) (is_doomed st s) (tail (tail (tail (tests st s (Try r m))))) t
tells-free st s Withdraw t = withdrawal-tells st s (is_open st s) (is_doomed st s) (is_waiting st s) t
tells-free st s Restart t = absurd (restart-tells-nothing st s (is_open st s) t)

-- If the reply tells of a grant, the session may go on.
pub goes-on : (st : State) (s : ℕ) (c : Call) → TellsOfGrant c (step st s c).reply → MayGoOn st s
goes-on st s c t = let f = tells-free st s c t in record {
  has_transaction = (open-decides st s).0 f.0;
  not_waiting = λ w. let e = (waiting-decides st s).1 w in let g = f.1 in absurd (cc (e, g));
  not_doomed = λ d. let e = (doomed-decides st s).1 d in let g = f.2 in absurd (cc (e, g));
}

-- Conversely: a session that may go on gets such an answer to each call but a begin, an abort and a restart.

-- No waiting session and no victim gets one of these refusals.

abbrev EachLater : List Test → Type 0
EachLater [] = Unit {0}
EachLater (t ∷ ts) = IsRefusedThoughFree t.1 × EachLater ts

-- A call with these tests alone tells of a grant, whether one of them refuses it or it acts.
by-later : (st : State) (s : ℕ) (c : Call) (t : Test) (b : Bool) (rest : List Test) → IsRefusedThoughFree t.1 → TellsOfGrant c (outcome_of (first_failing rest) st s c).reply
    → TellsOfGrant c (outcome_of (first_failing ((b, t.1) ∷ rest)) st s c).reply
by-later st s c t true rest late tells = late
by-later st s c t false rest late tells = tells

later : (st : State) (s : ℕ) (c : Call) (ts : List Test) → EachLater ts → TellsOfGrant c (act st s c).reply → TellsOfGrant c (outcome_of (first_failing ts) st s c).reply
later st s c [] all acts = acts
later st s c (t ∷ ts) all acts = by-later st s c t t.0 ts all.0 (later st s c ts all.1 acts)

pass : (st : State) (s : ℕ) (c : Call) (opened waits doomed : Bool) (rest : List Test) → IsFree opened waits doomed → TellsOfGrant c (outcome_of (first_failing rest) st s c).reply
    → TellsOfGrant c (outcome_of (first_failing ((not opened, NoTransaction) ∷ (waits, IsWaiting) ∷ (doomed, IsDoomed) ∷ rest)) st s c).reply
pass st s c false waits doomed rest f t = absurd (let e = f.0 in cc e)
pass st s c true true doomed rest f t = absurd (let e = f.1 in cc e)
pass st s c true false true rest f t = absurd (let e = f.2 in cc e)
pass st s c true false false rest f t = t

-- A request that passes its tests tells of an earlier grant, whatever its reply.
answered-request : (c : Call) (r : List ℕ) (m k : Mode) (doomed waits : Bool) → AsksFor c r m → TellsOfGrant c (cond doomed Deadlock (cond waits Waiting (Granted k)))
answered-request c r m k true waits asks = (r, m, asks)
answered-request c r m k false true asks = (r, m, asks)
answered-request c r m k false false asks = tt

-- The refusals by later tests.
nothing-asked : IsRefusedThoughFree NothingAsked
nothing-asked = ((λ e. cc e), (λ e. cc e), (λ e. cc e), (λ e. cc e))

not-held : IsRefusedThoughFree NotHeld
not-held = ((λ e. cc e), (λ e. cc e), (λ e. cc e), (λ e. cc e))

parent-not-held : IsRefusedThoughFree ParentNotHeld
parent-not-held = ((λ e. cc e), (λ e. cc e), (λ e. cc e), (λ e. cc e))

child-held : IsRefusedThoughFree ChildHeld
child-held = ((λ e. cc e), (λ e. cc e), (λ e. cc e), (λ e. cc e))

too-many-locks : IsRefusedThoughFree TooManyLocks
too-many-locks = ((λ e. cc e), (λ e. cc e), (λ e. cc e), (λ e. cc e))

would-wait : IsRefusedThoughFree WouldWait
would-wait = ((λ e. cc e), (λ e. cc e), (λ e. cc e), (λ e. cc e))

pub not-waiting : IsRefusedThoughFree NotWaiting
not-waiting = ((λ e. cc e), (λ e. cc e), (λ e. cc e), (λ e. cc e))

polled-free : (opened waits doomed : Bool) → IsFree opened waits doomed → TellsOfGrant Poll (cond doomed Deadlock (cond waits Waiting Clear))
polled-free opened waits true f = absurd (let e = f.2 in cc e)
polled-free opened true false f = absurd (let e = f.1 in cc e)
polled-free opened false false f = tt

poll-free : (st : State) (s : ℕ) (opened : Bool) → IsFree opened (is_waiting st s) (is_doomed st s) → TellsOfGrant Poll (outcome_of (first_failing ((not opened, NoTransaction) ∷ [])) st s Poll).reply
poll-free st s false f = absurd (let e = f.0 in cc e)
poll-free st s true f = polled-free true (is_waiting st s) (is_doomed st s) f

withdrawal-free : (st : State) (s : ℕ) (opened waits doomed : Bool) → IsFree opened waits doomed
    → TellsOfGrant Withdraw (outcome_of (first_failing ((not opened, NoTransaction) ∷ (doomed, IsDoomed) ∷ (not waits, NotWaiting) ∷ [])) st s Withdraw).reply
withdrawal-free st s false waits doomed f = absurd (let e = f.0 in cc e)
withdrawal-free st s true true doomed f = absurd (let e = f.1 in cc e)
withdrawal-free st s true false true f = absurd (let e = f.2 in cc e)
withdrawal-free st s true false false f = not-waiting

free-tells : (st : State) (s : ℕ) (c : Call) → c ≢ Begin → c ≢ Abort → c ≢ Restart → IsFree (is_open st s) (is_waiting st s) (is_doomed st s) → TellsOfGrant c (step st s c).reply
free-tells st s Begin b a g f = absurd (b refl)
free-tells st s (Lock r m) b a g f =
    let k : Mode = target_of (held_mode st.table s r) m in
    let after = after_asking st s r k in
    let rest : List Test = tail (tail (tail (tests st s (Lock r m)))) in
    pass st s (Lock r m) (is_open st s) (is_waiting st s) (is_doomed st s) rest f
    (later st s (Lock r m) rest (nothing-asked, (parent-not-held, (too-many-locks, tt)))
    (answered-request (Lock r m) r m k (is_doomed after s) (is_waiting after s) (inl refl)))
free-tells st s (Convert r m) b a g f =
    let k : Mode = target_of (held_mode st.table s r) m in
    let after = after_asking st s r k in
    let rest : List Test = tail (tail (tail (tests st s (Convert r m)))) in
    pass st s (Convert r m) (is_open st s) (is_waiting st s) (is_doomed st s) rest f
    (later st s (Convert r m) rest (nothing-asked, (not-held, (parent-not-held, tt)))
    (answered-request (Convert r m) r m k (is_doomed after s) (is_waiting after s) (inr (inl refl))))
free-tells st s Poll b a g f = poll-free st s (is_open st s) f
free-tells st s (Release r) b a g f =
    let rest : List Test = tail (tail (tail (tests st s (Release r)))) in
    pass st s (Release r) (is_open st s) (is_waiting st s) (is_doomed st s) rest f
    (later st s (Release r) rest (not-held, (child-held, tt)) tt)
free-tells st s Commit b a g f = pass st s Commit (is_open st s) (is_waiting st s) (is_doomed st s) [] f tt
free-tells st s Abort b a g f = absurd (a refl)
free-tells st s (Try r m) b a g f =
    let k : Mode = target_of (held_mode st.table s r) m in
    let after = after_asking st s r k in
    let rest : List Test = tail (tail (tail (tests st s (Try r m)))) in
    pass st s (Try r m) (is_open st s) (is_waiting st s) (is_doomed st s) rest f
    (later st s (Try r m) rest (nothing-asked, (parent-not-held, (too-many-locks, (would-wait, tt))))
    (answered-request (Try r m) r m k (is_doomed after s) (is_waiting after s) (inr (inr refl))))
free-tells st s Withdraw b a g f = withdrawal-free st s (is_open st s) (is_waiting st s) (is_doomed st s) f
free-tells st s Restart b a g f = absurd (g refl)

-- A test of what doesn't hold is false.
off : {P : Type 0} (b : Bool) → (b ≡ true → P) → (P → ⊥) → b ≡ false
off true holds not-so = absurd (not-so (holds refl))
off false holds not-so = refl

pub always-told : (st : State) (s : ℕ) (c : Call) → c ≢ Begin → c ≢ Abort → c ≢ Restart → MayGoOn st s → TellsOfGrant c (step st s c).reply
always-told st s c b a g f =
    free-tells st s c b a g
    ((open-decides st s).1 f.has_transaction, off (is_waiting st s) (waiting-decides st s).0 f.not_waiting, off (is_doomed st s) (doomed-decides st s).0 f.not_doomed)
