-- The victims of a call, the youngest first, are those that the rule chooses one after another.
use Rattle.std.proofs.Common.{◌≡◌, ℕ, ◌<◌, ◌≤◌, Bool, true, false, cond, eqb, ltb, inl, inr, List, [], ◌∷◌, map, length, ◌==◌, Option, is_some, refl, sym, ◌∙◌, ap, subst, arith}
use Rattle.std.specs.List.{All}
use Rattle.std.specs.List.Sorted.{IsStrictlySortedBy}
use Rattle.std.specs.declared.cmp.Ordering.TheVariants.{Less, Equal, Greater}
use Rattle.std.proofs.lemmas.Bool.{eqb-true}
use Rattle.std.proofs.lemmas.Bool.Decides.{nat_tests}
use Rattle.std.proofs.lemmas.List.{nil_from_length}
use Rattle.std.proofs.lemmas.List.Elements.{All-from_recursion, All-contains}
use Rattle.std.proofs.lemmas.Map.Keys.{sorted_head, sorted_tail}
use Rattle.lock_rules.specs.declared.calls.Call.{Call}
use Rattle.lock_rules.specs.Entries.{Entry}
use Rattle.lock_rules.specs.State.{Claim, State, number_of, with_table}
use Rattle.waits_for.specs.Walks.{Reaches}
use Rattle.lock_rules.specs.Waits.{waits_for}
use Rattle.lock_rules.specs.Queue.{with_request}
use Rattle.lock_rules.specs.Step.{step}
use Rattle.lock_rules.specs.Legal.{state_of}
use Rattle.lock_rules.specs.Laws.{AreVictims}
use Rattle.lock_rules.specs.Effects.{IsAmong, IsWaitSettled, DoVictimsKeepLocks}
use Rattle.sequential.proofs.Members.{Member, contains-member, member-contains}
use Rattle.lock_rules.proofs.Steps.{state-lawful}
use Rattle.lock_rules.proofs.Owners.{state-numbered, waiting-numbered}
use Rattle.lock_rules.proofs.Doomed.{keep-theirs, among-or-not}
use Rattle.sequential.specs.Histories.{IsEntryWithin}
use Rattle.lock_explain.specs.declared.explanation.Party.{Party}
use Rattle.lock_explain.specs.Endings.{AreNewVictims, youngest_first}
use Rattle.lock_explain.specs.Waiting.{BeginsToWait, party_of, waiting_state}
use Rattle.lock_explain.proofs.Beginnings.{IsClear, doomed-new, made-answered, made-clear, made-session, no-new}
use Rattle.lock_explain.proofs.FallingVictims.{IsFalling, same-falling, victims-fall, victims-number}

-- the sessions of parties

-- the session of each
abbrev pub sessions_of : List Party → List ℕ
sessions_of ps = map (λ (p : Party). p.session) ps

-- the session of a party of the list
pub member-among : (p : Party) (ps : List Party) → Member p ps → IsAmong p.session (sessions_of ps)
member-among p [] m = absurd m
member-among p (q ∷ ps) (inl e) = inl (ap (λ (x : Party). x.session) (sym e))
member-among p (q ∷ ps) (inr m) = inr (member-among p ps m)

-- a session of the list is that of a party of it
among-member : (u : ℕ) (ps : List Party) → IsAmong u (sessions_of ps) → (p : Party) × Member p ps × (u ≡ p.session)
among-member u [] i = absurd i
among-member u (q ∷ ps) (inl e) = (q, inl refl, e)
among-member u (q ∷ ps) (inr i) = let r = among-member u ps i in (r.0, inr r.1, r.2)

-- a party before another has the greater number
before-above : (p q : Party) → youngest_first p q ≡ Less → q.transaction < p.transaction
before-above p q h = let e = go (ltb q.transaction p.transaction) (eqb q.transaction p.transaction) h in grind (arith, nat_tests, e)
  where
    go : (b c : Bool) → cond b Less (cond c Equal Greater) ≡ Less → b ≡ true
    go true c h = refl
    go false true h = absurd (cc)
    go false false h = absurd (cc)

-- the sessions of parties, the youngest first, fall by the numbers of their transactions
sessions-fall : (age : ℕ → ℕ) (ps : List Party) → ((p : Party) → Member p ps → p.transaction ≡ age p.session) → IsStrictlySortedBy youngest_first ps → IsFalling age (sessions_of ps)
sessions-fall age [] h f = tt
sessions-fall age (p ∷ ps) h f = (
  λ u i. (
      let r = among-member u ps i in
      let less = All-contains (λ q. youngest_first p q ≡ Less) ps r.0 (All-from_recursion (λ q. youngest_first p q ≡ Less) ps (sorted_head youngest_first p ps f)) (member-contains r.0 ps r.1) in
      let lt = before-above p r.0 less in
      let same = ap age r.2 in
      omega (arith, lt, same, h p (inl refl), h r.0 (inr r.1))),
  sessions-fall age ps (λ q m. h q (inr m)) (sorted_tail youngest_first p ps f),
)

-- the victims of a call

-- the new victims of a request that begins to wait are those that the rule chooses
pub chosen : (n s : ℕ) (history : List Entry) (c : Call) (q : Claim) (victims : List Party) → All (IsEntryWithin n) history → 1 ≤ s → s ≤ n → BeginsToWait (state_of history) s c q → AreNewVictims n (state_of history) (step (state_of history) s c).state victims
    → AreVictims s (sessions_of victims) (waiting_state (state_of history) q) (step (state_of history) s c).state
chosen n s history c q victims a some most b new =
    let start : with_table (with_request s q.resource q.mode st.table) st ≡ waiting_state st q = ap (λ (i : ℕ). with_table (with_request i q.resource q.mode st.table) st) (sym own) in
    subst (λ (vs : List ℕ). AreVictims s vs (waiting_state st q) after) (sym same) (subst (λ (x : State). AreVictims s w.victims x after) start w.one_after_another)
  where
    st : State
    st = state_of history

    after : State
    after = (step (state_of history) s c).state

    waiting : State
    waiting = with_table (with_request s q.resource q.mode (state_of history).table) (state_of history)

    own : q.session ≡ s
    own = made-session st s c q b.made

    clear : IsClear st s
    clear = made-clear st s c q b.made b.accepted

    w : IsWaitSettled s q.resource q.mode st (step st s c)
    w = (made-answered st s c q b.made b.accepted).later (λ e. b.not_held (rw own e)) (λ f. b.not_free (rw own f))

    keep : DoVictimsKeepLocks w.victims waiting after
    keep = keep-theirs st (state-lawful history).sound.once s q.resource q.mode w.victims after (ap (λ (o : Option Claim). is_some o) clear.idle) w.one_after_another

    numbers : (u : ℕ) → number_of after u ≡ number_of st u
    numbers u = victims-number s w.victims waiting after w.one_after_another u

    aged : (p : Party) → Member p victims → p.transaction ≡ number_of st p.session
    aged p m = ap (λ (x : Party). x.transaction) ((new.listed p).0 (member-contains p victims m)).3 ∙ numbers p.session

    told : (u : ℕ) → IsAmong u w.victims → IsAmong u (sessions_of victims)
    told u i =
        let r = doomed-new n history a s some most q.resource q.mode after u clear (keep.victims u i) w.wait.others_wait in
        member-among (party_of after u) victims (contains-member (party_of after u) victims ((new.listed (party_of after u)).1 (r.0, r.1, r.2, refl)))

    chosen-one : (u : ℕ) → IsAmong u (sessions_of victims) → IsAmong u w.victims
    chosen-one u i = elim (among-or-not u w.victims) [
      | inl k ↦ k
      | inr m ↦ (
          let r = among-member u victims i in
          let h = ((new.listed r.0).0 (member-contains r.0 victims r.1)).2 in
          absurd (no-new st after u (keep.others_begun u m) (rw r.2 h)))
    ]

    same : sessions_of victims ≡ w.victims
    same =
        same-falling (number_of st) (sessions_of victims) w.victims (sessions-fall (number_of st) victims aged new.falling)
        (victims-fall s w.victims waiting after (waiting-numbered st s q.resource q.mode (state-numbered history) clear.opened) w.one_after_another) chosen-one told

-- a request that made no victim closed no cycle
pub none-closed : (n s : ℕ) (history : List Entry) (c : Call) (q : Claim) (victims : List Party) → (length victims == 0) ≡ true → All (IsEntryWithin n) history → 1 ≤ s → s ≤ n → BeginsToWait (state_of history) s c q → AreNewVictims n (state_of history) (step (state_of history) s c).state victims
    → Reaches (waits_for (waiting_state (state_of history) q).table) s s → ⊥
none-closed n s history c q victims e a some most b new =
    let none : victims ≡ [] = nil_from_length victims (eqb-true (length victims) 0 e) in
    (subst (λ (ps : List Party). AreVictims s (sessions_of ps) (waiting_state (state_of history) q) (step (state_of history) s c).state) none (chosen n s history c q victims a some most b new)).0
