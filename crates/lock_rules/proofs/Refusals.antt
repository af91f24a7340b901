-- The tests of each call decide what the refusals mean, in the same order.
use Rattle.std.proofs.Common.{◌≡◌, ◌≢◌, ℕ, ◌+◌, ◌≤◌, Bool, true, false, cond, not, eqb, leb, ◌&&◌, ◌↔◌, inl, inr, List, [], ◌∷◌, ◌++◌, length, Option, Some, None, is_some, refl, sym, ◌∙◌, ap, arith, subst, Decides}
use Rattle.std.specs.List.{All, list_any}
use Rattle.std.proofs.lemmas.Bool.{and_parts, and_from, or_cases, not-true, leb-true, le-leb, cases_Bool}
use Rattle.std.proofs.lemmas.Bool.Decides.{Decides-not}
use Rattle.std.proofs.lemmas.List.Elements.{All-head, All-tail, All-nil, All-cons}
use Rattle.lock_modes.specs.declared.Mode.{Mode}
use Rattle.lock_modes.specs.declared.Mode.TheVariants.{NL, IS, IX, S, SIX, U, X}
use Rattle.lock_modes.specs.Order.{at_or_below, need_of}
use Rattle.lock_modes.proofs.Order.{order-tests, sup_only}
use Rattle.lock_tree.specs.Paths.{same_path, is_ancestor, parent_of, has_parent}
use Rattle.lock_rules.specs.declared.calls.Call.{Call}
use Rattle.lock_rules.specs.declared.calls.Call.TheVariants.{Begin, Lock, Convert, Poll, Release, Commit, Abort, Try, Withdraw, Restart}
use Rattle.lock_rules.specs.declared.calls.Reply.TheVariants.{Began, Granted, Waiting, Deadlock, Clear, Committed, Aborted, Refused, Restarted}
use Rattle.lock_rules.specs.declared.calls.Why.{Why}
use Rattle.lock_rules.specs.declared.calls.Why.TheVariants.{NoTransaction, IsWaiting, IsDoomed}
use Rattle.lock_rules.specs.declared.calls.TheConstants.{MAX_LOCKS}
use Rattle.lock_rules.specs.State.{Claim, Table, State, mode_in, held_mode, mode_or_nothing, claims_of, is_open, is_waiting, is_doomed}
use Rattle.lock_rules.specs.Step.{is_nothing, target_of, lacks_parent, holds_child, tests, first_failing, after_asking, act, outcome_of, step, would_wait, is_held}
use Rattle.lock_rules.specs.Laws.{AreLocksBounded, DoesRefusalKeep}
use Rattle.lock_rules.specs.Effects.{IsTarget, IsFree}
use Rattle.lock_rules.specs.Refusals.{LacksParent, HoldsBelow, Fails, refusals_of, AreRefusalsMeant, AreOthersAccepted, DoesAbortNeedTransaction, IsClearCommitAccepted, WaitsIfAsked}
use Rattle.lock_rules.specs.Restarts.{DoesRestartNeedTransaction}
use Rattle.lock_rules.proofs.Lists.{same_path-refl}
use Rattle.lock_rules.proofs.Alters.{true≢false}
use Rattle.lock_rules.proofs.Marks.{sup-some, below-sup}
use Rattle.lock_rules.proofs.Sound.{under-parent}
use Rattle.lock_rules.proofs.Cuts.{child-held}
use Rattle.lock_rules.proofs.Requests.{target, covers, not-covered, free-granted, not-free}
use Rattle.lock_rules.proofs.Taken.{passes}
use Rattle.lock_rules.proofs.Sessions.{open-decides, waiting-decides, doomed-decides}
use Rattle.lock_rules.specs.Queue.{is_granted_at_once}

-- each test of a call

-- the test for NL decides whether the mode is NL
nothing-decides : (m : Mode) → Decides (is_nothing m) (m ≡ NL)
nothing-decides NL = (λ h. refl, λ h. refl)
nothing-decides IS = (λ h. absurd (cc), λ h. absurd (cc))
nothing-decides IX = (λ h. absurd (cc), λ h. absurd (cc))
nothing-decides S = (λ h. absurd (cc), λ h. absurd (cc))
nothing-decides SIX = (λ h. absurd (cc), λ h. absurd (cc))
nothing-decides U = (λ h. absurd (cc), λ h. absurd (cc))
nothing-decides X = (λ h. absurd (cc), λ h. absurd (cc))

-- the test for no lock decides whether there is none
unheld-decides : (o : Option Mode) → Decides (not (is_some o)) (o ≡ None)
unheld-decides None = (λ h. refl, λ h. refl)
unheld-decides (Some k) = (λ h. absurd (cc), λ h. absurd (cc))

-- the target of a request is `target_of`
pub one-target : (o : Option Mode) (m k : Mode) → IsTarget o m k → k ≡ target_of o m
one-target None m k h = h
one-target (Some a) m k h = sup_only a m k h

-- the test of the parent rule decides LacksParent, if the mode asked isn't NL
parent-decides : (t : Table) (s : ℕ) (r : List ℕ) (m : Mode) → (m ≢ NL) → Decides (lacks_parent t s r (target_of (held_mode t s r) m)) (LacksParent t s r m)
parent-decides t s r m asked = (lacks, test)
  where
    lacks : lacks_parent t s r (target_of (held_mode t s r) m) ≡ true → LacksParent t s r m
    lacks h =
        let p = and_parts (has_parent r) (not (at_or_below (need_of (target_of (held_mode t s r) m)) (mode_or_nothing (held_mode t s (parent_of r))))) h in (
          target_of (held_mode t s r) m,
          target (held_mode t s r) m,
          p.0,
          λ k. true≢false (ap (λ (o : Option Mode). at_or_below (need_of (target_of (held_mode t s r) m)) (mode_or_nothing o)) k.1 ∙ order-tests k.2) (not-true _ p.1),
        )

    some : is_nothing (target_of (held_mode t s r) m) ≡ false
    some = sup-some (mode_or_nothing (held_mode t s r)) m (elim (cases_Bool (is_nothing m)) [ inl e ↦ absurd (asked ((nothing-decides m).0 e)) | inr e ↦ e ])

    test : LacksParent t s r m → lacks_parent t s r (target_of (held_mode t s r) m) ≡ true
    test h = elim (cases_Bool (lacks_parent t s r (target_of (held_mode t s r) m))) [
      | inl e ↦ e
      | inr e ↦
          let u = under-parent (has_parent r) (target_of (held_mode t s r) m) (held_mode t s (parent_of r)) some e h.2 in
          absurd (h.3 (u.0, u.1, rw (one-target (held_mode t s r) m h.0 h.1) u.2))
    ]

-- a lock on a descendant that the test finds is held in some mode
below-held : (s : ℕ) (r : List ℕ) (cs : List Claim) → holds_child (record { held = cs; requests = [] }) s r ≡ true → HoldsBelow (record { held = cs; requests = [] }) s r
below-held s r [] h = absurd (cc)
below-held s r (c ∷ cs) h = elim (or_cases (eqb c.session s && is_ancestor r c.resource) (list_any (λ d. eqb d.session s && is_ancestor r d.resource) cs) h) [
  | inl k ↦
      let p = and_parts (eqb c.session s) (is_ancestor r c.resource) k in
      (c.resource, c.mode, p.1, ap (λ (b : Bool). cond b (Some c.mode) (mode_in s c.resource cs)) (and_from (eqb c.session s) (same_path c.resource c.resource) p.0 (same_path-refl c.resource)))
  | inr k ↦ let w = below-held s r cs k in later w.0 w.1 w.2 w.3
]
  where
    later : (x : List ℕ) (k : Mode) → is_ancestor r x ≡ true → mode_in s x cs ≡ Some k → HoldsBelow (record { held = c ∷ cs; requests = [] }) s r
    later x k a e = go (eqb c.session s && same_path c.resource x) refl
      where
        go : (b : Bool) → (eqb c.session s && same_path c.resource x) ≡ b → HoldsBelow (record { held = c ∷ cs; requests = [] }) s r
        go true f = (x, c.mode, a, ap (λ (b : Bool). cond b (Some c.mode) (mode_in s x cs)) f)
        go false f = (x, k, a, ap (λ (b : Bool). cond b (Some c.mode) (mode_in s x cs)) f ∙ e)

-- the test for too many locks decides whether there are MAX_LOCKS and none on the resource
full-decides : (max n : ℕ) (o : Option Mode) → n ≤ max → Decides (not (is_some o) && leb max n) ((o ≡ None) × (n ≡ max))
full-decides max n None l = (λ h. (refl, omega (arith, leb-true max n h)), λ h. le-leb max n (omega (arith, h.1)))
full-decides max n (Some k) l = (λ h. absurd (cc), λ h. let e = h.0 in absurd (cc))

-- the test of a try decides whether its request would wait
wait-decides : (t : Table) (s : ℕ) (r : List ℕ) (m : Mode) → Decides (would_wait t s r (target_of (held_mode t s r) m)) (WaitsIfAsked t s r m)
wait-decides t s r m = (waits, test)
  where
    k : Mode
    k = target_of (held_mode t s r) m

    waits : would_wait t s r k ≡ true → WaitsIfAsked t s r m
    waits h =
        let p = and_parts (not (is_held (held_mode t s r) k)) (not (is_granted_at_once t s r k)) h in
        (k, target (held_mode t s r) m, λ e. true≢false (covers (held_mode t s r) k e) (not-true _ p.0), λ f. true≢false (free-granted t s r k f) (not-true _ p.1))

    test : WaitsIfAsked t s r m → would_wait t s r k ≡ true
    test w =
        let e : w.0 ≡ k = one-target (held_mode t s r) m w.0 w.1 in
        let other : held_mode t s r ≢ Some k = subst (λ (x : Mode). held_mode t s r ≢ Some x) e w.2 in
        let busy : IsFree t s r k → ⊥ = subst (λ (x : Mode). IsFree t s r x → ⊥) e w.3 in
        and_from (not (is_held (held_mode t s r) k)) (not (is_granted_at_once t s r k))
        (ap not (not-covered (held_mode t s r) k (below-sup (mode_or_nothing (held_mode t s r)) m) other)) (ap not (not-free t s r k busy))

-- each test gives the refusal at its place in the list and decides what it says, if no earlier one is so
abbrev AreMeant : (Why → Type 0) → List (Bool × Why) → List Why → Type 0
AreMeant F [] [] = Unit {0}
AreMeant F (t ∷ ts) (w ∷ ws) = (t.1 ≡ w) × Decides t.0 (F w) × ((F w → ⊥) → AreMeant F ts ws)
AreMeant F _ _ = ⊥

-- the tests of every call decide what its refusals say
call-meant : (st : State) (s : ℕ) → AreLocksBounded st → (c : Call) → AreMeant (Fails st s c) (tests st s c) (refusals_of c)
call-meant st s few Begin = (refl, open-decides st s, λ a. tt)
call-meant st s few (Lock r m) = (refl, Decides-not (is_open st s) (open-decides st s), λ a. (refl, waiting-decides st s, λ b. (refl, doomed-decides st s, λ d. (refl, nothing-decides m, λ asked. (refl, parent-decides st.table s r m asked, λ e. (refl, full-decides MAX_LOCKS (length (claims_of s st.table.held)) (held_mode st.table s r) (few s), λ f. tt))))))
call-meant st s few (Convert r m) = (refl, Decides-not (is_open st s) (open-decides st s), λ a. (refl, waiting-decides st s, λ b. (refl, doomed-decides st s, λ d. (refl, nothing-decides m, λ asked. (refl, unheld-decides (held_mode st.table s r), λ e. (refl, parent-decides st.table s r m asked, λ f. tt))))))
call-meant st s few Poll = (refl, Decides-not (is_open st s) (open-decides st s), λ a. tt)
call-meant st s few (Release r) = (refl, Decides-not (is_open st s) (open-decides st s), λ a. (refl, waiting-decides st s, λ b. (refl, doomed-decides st s, λ d. (refl, unheld-decides (held_mode st.table s r), λ e. (refl, child-decides st.table s r, λ f. tt)))))
  where
    child-decides : (t : Table) (s : ℕ) (r : List ℕ) → Decides (holds_child t s r) (HoldsBelow t s r)
    child-decides t s r = (λ h. below-held s r t.held h, λ h. child-held s r h.0 h.1 t.held h.3 h.2)
call-meant st s few Commit = (refl, Decides-not (is_open st s) (open-decides st s), λ a. (refl, waiting-decides st s, λ b. (refl, doomed-decides st s, λ d. tt)))
call-meant st s few Abort = (refl, Decides-not (is_open st s) (open-decides st s), λ a. tt)
call-meant st s few (Try r m) = (refl, Decides-not (is_open st s) (open-decides st s), λ a. (refl, waiting-decides st s, λ b. (refl, doomed-decides st s, λ d. (refl, nothing-decides m, λ asked. (refl, parent-decides st.table s r m asked, λ e. (refl, full-decides MAX_LOCKS (length (claims_of s st.table.held)) (held_mode st.table s r) (few s), λ f. (refl, wait-decides st.table s r m, λ g. tt)))))))
call-meant st s few Withdraw = (refl, Decides-not (is_open st s) (open-decides st s), λ a. (refl, doomed-decides st s, λ b. (refl, Decides-not (is_waiting st s) (waiting-decides st s), λ d. tt)))
call-meant st s few Restart = (refl, Decides-not (is_open st s) (open-decides st s), λ a. tt)

-- the first test that fails

-- why is in the list, what it says is so, and what no refusal before it says is
abbrev IsFirst : (Why → Type 0) → List Why → Why → Type 0
IsFirst F ws why = (before after : List Why) × (ws ≡ before ++ why ∷ after) × F why × All (λ w. F w → ⊥) before

-- if a test is the first to fail, its refusal is the first that is so
first-meant : (F : Why → Type 0) (ts : List (Bool × Why)) (ws : List Why) → AreMeant F ts ws → (why : Why) → first_failing ts ≡ Some why → IsFirst F ws why
first-meant F [] ws a why h = absurd (cc)
first-meant F (t ∷ ts) [] a why h = absurd a
first-meant F (t ∷ ts) (w ∷ ws) a why h = go t.0 refl h (λ n k. first-meant F ts ws (a.2 n) why k)
  where
    go : (b : Bool) → t.0 ≡ b → cond b (Some t.1) (first_failing ts) ≡ Some why → ((F w → ⊥) → first_failing ts ≡ Some why → IsFirst F ws why) → IsFirst F (w ∷ ws) why
    go true e h next = let same : w ≡ why = let f = a.0 in cc in ([], ws, ap (λ (x : Why). x ∷ ws) same, subst F same (a.1.0 e), All-nil (λ (x : Why). F x → ⊥))
    go false e h next =
        let n : F w → ⊥ = λ f. true≢false (a.1.1 f) e in
        let r = next n h in
        (w ∷ r.0, r.1, ap (λ (xs : List Why). w ∷ xs) r.2, r.3, All-cons (λ (x : Why). F x → ⊥) w r.0 n r.4)

-- if a refusal is the first that is so, its test is the first to fail
meant-first : (F : Why → Type 0) (ts : List (Bool × Why)) (ws : List Why) → AreMeant F ts ws → (why : Why) → IsFirst F ws why → first_failing ts ≡ Some why
meant-first F [] [] a why ([], after, e, f, n) = absurd (cc)
meant-first F [] [] a why (b ∷ before, after, e, f, n) = absurd (cc)
meant-first F [] (w ∷ ws) a why h = absurd a
meant-first F (t ∷ ts) [] a why h = absurd a
meant-first F (t ∷ ts) (w ∷ ws) a why ([], after, e, f, n) =
    let same : why ≡ w = cc in
    ap (λ (b : Bool). cond b (Some t.1) (first_failing ts)) (a.1.1 (subst F same f)) ∙ ap (λ (x : Why). Some x) (a.0 ∙ sym same)
meant-first F (t ∷ ts) (w ∷ ws) a why (b ∷ before, after, e, f, n) =
    let same : b ≡ w = cc in
    let rest : ws ≡ before ++ why ∷ after = cc in
    let fails : F w → ⊥ = subst (λ (x : Why). F x → ⊥) same (All-head (λ (x : Why). F x → ⊥) b before n) in
    let pass : t.0 ≡ false = elim (cases_Bool t.0) [ inl y ↦ absurd (fails (a.1.0 y)) | inr y ↦ y ] in
    ap (λ (x : Bool). cond x (Some t.1) (first_failing ts)) pass ∙ meant-first F ts ws (a.2 fails) why (before, after, rest, f, All-tail (λ (x : Why). F x → ⊥) b before n)

-- if no test fails, no refusal of the list is so
none-fails : (F : Why → Type 0) (ts : List (Bool × Why)) (ws : List Why) → AreMeant F ts ws → first_failing ts ≡ None → All (λ w. F w → ⊥) ws
none-fails F [] [] a h = All-nil (λ (x : Why). F x → ⊥)
none-fails F [] (w ∷ ws) a h = absurd a
none-fails F (t ∷ ts) [] a h = absurd a
none-fails F (t ∷ ts) (w ∷ ws) a h = go t.0 refl h (λ n k. none-fails F ts ws (a.2 n) k)
  where
    go : (b : Bool) → t.0 ≡ b → cond b (Some t.1) (first_failing ts) ≡ None → ((F w → ⊥) → first_failing ts ≡ None → All (λ w. F w → ⊥) ws) → All (λ w. F w → ⊥) (w ∷ ws)
    go true e h next = absurd (cc)
    go false e h next = let n : F w → ⊥ = λ f. true≢false (a.1.1 f) e in All-cons (λ (x : Why). F x → ⊥) w ws n (next n h)

-- if no refusal of the list is so, no test fails
all-pass-none : (F : Why → Type 0) (ts : List (Bool × Why)) (ws : List Why) → AreMeant F ts ws → All (λ w. F w → ⊥) ws → first_failing ts ≡ None
all-pass-none F [] ws a n = refl
all-pass-none F (t ∷ ts) [] a n = absurd a
all-pass-none F (t ∷ ts) (w ∷ ws) a n =
    let fails = All-head (λ (x : Why). F x → ⊥) w ws n in
    let pass : t.0 ≡ false = elim (cases_Bool t.0) [ inl y ↦ absurd (fails (a.1.0 y)) | inr y ↦ y ] in
    ap (λ (x : Bool). cond x (Some t.1) (first_failing ts)) pass ∙ all-pass-none F ts ws (a.2 fails) (All-tail (λ (x : Why). F x → ⊥) w ws n)

-- a call that passes its tests isn't refused

-- the reply to a request isn't a refusal
pub ask-answers : (d w : Bool) (k : Mode) (why : Why) → cond d Deadlock (cond w Waiting (Granted k)) ≡ Refused why → ⊥
ask-answers true w k why e = cc
ask-answers false true k why e = cc
ask-answers false false k why e = cc

-- the reply to a poll isn't a refusal
poll-answers : (d w : Bool) (why : Why) → cond d Deadlock (cond w Waiting Clear) ≡ Refused why → ⊥
poll-answers true w why e = cc
poll-answers false true why e = cc
poll-answers false false why e = cc

-- the reply to a begin isn't a refusal
begin-answers : (n : ℕ) (why : Why) → Began n ≡ Refused why → ⊥
begin-answers n why e = cc

-- the replies to a commit, an abort and a restart aren't refusals
end-answers : (n : ℕ) (why : Why) → (Committed n ≡ Refused why → ⊥) × (Aborted n ≡ Refused why → ⊥) × (Restarted n ≡ Refused why → ⊥)
end-answers n why = (λ e. cc, λ e. cc, λ e. cc)

-- no call that acts replies with a refusal
act-answers : (st : State) (s : ℕ) (c : Call) (why : Why) → (act st s c).reply ≡ Refused why → ⊥
act-answers st s Begin why = begin-answers (st.count + 1) why
act-answers st s (Lock r m) why =
    let k = target_of (held_mode st.table s r) m in
    ask-answers (is_doomed (after_asking st s r k) s) (is_waiting (after_asking st s r k) s) k why
act-answers st s (Convert r m) why =
    let k = target_of (held_mode st.table s r) m in
    ask-answers (is_doomed (after_asking st s r k) s) (is_waiting (after_asking st s r k) s) k why
act-answers st s Poll why = poll-answers (is_doomed st s) (is_waiting st s) why
act-answers st s (Release r) why = λ e. cc
act-answers st s Commit why = (end-answers (length (claims_of s st.table.held)) why).0
act-answers st s Abort why = (end-answers (length (claims_of s st.table.held)) why).1
act-answers st s (Try r m) why =
    let k = target_of (held_mode st.table s r) m in
    ask-answers (is_doomed (after_asking st s r k) s) (is_waiting (after_asking st s r k) s) k why
act-answers st s Withdraw why = λ e. cc
act-answers st s Restart why = (end-answers (length (claims_of s st.table.held)) why).2

-- a refusal comes from the tests
outcome-refused : (o : Option Why) (st : State) (s : ℕ) (c : Call) (why : Why) → (outcome_of o st s c).reply ≡ Refused why → o ≡ Some why
outcome-refused None st s c why e = absurd (act-answers st s c why e)
outcome-refused (Some w) st s c why e = same w why e
  where
    same : (a b : Why) → Refused a ≡ Refused b → Some a ≡ Some b
    same a b f = cc

-- a refusal changes nothing
outcome-keeps : (o : Option Why) (st : State) (s : ℕ) (c : Call) (why : Why) → (outcome_of o st s c).reply ≡ Refused why → (outcome_of o st s c).state ≡ st
outcome-keeps None st s c why e = absurd (act-answers st s c why e)
outcome-keeps (Some w) st s c why e = refl

-- a refused call changes nothing
pub refused-keeps : (st : State) → DoesRefusalKeep st
refused-keeps st s c why = outcome-keeps (first_failing (tests st s c)) st s c why

-- a call is refused for a reason exactly if that is its first test that fails
pub refused-first : (st : State) (s : ℕ) (c : Call) (why : Why) → ((step st s c).reply ≡ Refused why) ↔ (first_failing (tests st s c) ≡ Some why)
refused-first st s c why = (outcome-refused (first_failing (tests st s c)) st s c why, λ e. ap (λ (o : Option Why). (outcome_of o st s c).reply) e)

-- the laws

-- a call is refused for a reason exactly if that reason is the first that is so
pub refusals-meant : (st : State) → AreLocksBounded st → AreRefusalsMeant st
refusals-meant st few s c why = (
  λ h. first-meant (Fails st s c) (tests st s c) (refusals_of c) (call-meant st s few c) why ((refused-first st s c why).0 h),
  λ h. (refused-first st s c why).1 (meant-first (Fails st s c) (tests st s c) (refusals_of c) (call-meant st s few c) why h),
)

-- a call isn't refused exactly if no reason of its list is so
pub others-accepted : (st : State) → AreLocksBounded st → AreOthersAccepted st
others-accepted st few s c = (
  λ h. none-fails (Fails st s c) (tests st s c) (refusals_of c) (call-meant st s few c) (passes st s c h),
  λ n why h.
      unlike (first_failing (tests st s c)) why (all-pass-none (Fails st s c) (tests st s c) (refusals_of c) (call-meant st s few c) n) ((refused-first st s c why).0 h),
)
  where
    unlike : (o : Option Why) (w : Why) → o ≡ None → o ≡ Some w → ⊥
    unlike o w e f = cc

-- the first refusal of a list with one is that one
alone : (F : Why → Type 0) (why : Why) → IsFirst F (NoTransaction ∷ []) why → (why ≡ NoTransaction) × F NoTransaction
alone F why ([], after, e, f, n) = let same : why ≡ NoTransaction = cc in (same, subst F same f)
alone F why (b ∷ [], after, e, f, n) = absurd (cc)
alone F why (b ∷ d ∷ before, after, e, f, n) = absurd (cc)

-- so is that one, if it is so
alone-first : (F : Why → Type 0) (why : Why) → why ≡ NoTransaction → F NoTransaction → IsFirst F (NoTransaction ∷ []) why
alone-first F why e f = ([], [], ap (λ (w : Why). w ∷ []) (sym e), subst F (sym e) f, All-nil (λ (w : Why). F w → ⊥))

-- an abort is refused only without a transaction
pub abort-needs : (st : State) → AreLocksBounded st → DoesAbortNeedTransaction st
abort-needs st few s why = (
  λ h. alone (Fails st s Abort) why ((refusals-meant st few s Abort why).0 h),
  λ h. (refusals-meant st few s Abort why).1 (alone-first (Fails st s Abort) why h.0 h.1),
)

-- so is a restart
pub restart-needs : (st : State) → AreLocksBounded st → DoesRestartNeedTransaction st
restart-needs st few s why = (
  λ h. alone (Fails st s Restart) why ((refusals-meant st few s Restart why).0 h),
  λ h. (refusals-meant st few s Restart why).1 (alone-first (Fails st s Restart) why h.0 h.1),
)

-- a commit of a session that is open, doesn't wait and isn't doomed isn't refused
pub commit-accepted : (st : State) → AreLocksBounded st → IsClearCommitAccepted st
commit-accepted st few s opened free whole =
    let P : Why → Type 0 = λ (w : Why). Fails st s Commit w → ⊥ in
    (others-accepted st few s Commit).1
    (All-cons P NoTransaction (IsWaiting ∷ IsDoomed ∷ []) (λ n. n opened) (All-cons P IsWaiting (IsDoomed ∷ []) free (All-cons P IsDoomed [] whole (All-nil P))))
