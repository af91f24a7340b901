-- Every request that waits is granted before its session ends.
use Rattle.std.proofs.Common.{◌≡◌, ◌≢◌, ℕ, true, eqb, ◌⊎◌, inl, inr, List, [], ◌∷◌, Some, None, refl, sym, ◌∙◌, ap, subst}
use Rattle.std.specs.Prelude.{is_some}
use Rattle.std.proofs.lemmas.Bool.Decides.{Decides-eqb}
use Rattle.std.proofs.lemmas.Bool.{cases_Bool}
use Rattle.lock_rules.specs.Entries.{Entry}
use Rattle.lock_rules.specs.State.{Claim, State, held_mode, request_of, is_open}
use Rattle.lock_rules.specs.Legal.{state_of}
use Rattle.lock_rules.specs.Sound.{IsNumbered}
use Rattle.lock_rules.proofs.Lists.{apart}
use Rattle.lock_rules.proofs.Alters.{true≢false}
use Rattle.lock_rules.proofs.Cuts.{IsQuiescent, ended-lawful}
use Rattle.lock_rules.proofs.Owners.{state-numbered}
use Rattle.lock_rules.proofs.Steps.{state-lawful}
use Rattle.lock_rules.proofs.Taken.{claims-taken}
use Rattle.lock_laws.specs.Ends.{ended, CanEnd, AreEnds, HoldsAtItsEnd, AreRequestsGranted}
use Rattle.lock_laws.proofs.Orders.{ended-other}
use Rattle.lock_laws.proofs.WaitsEnd.{quiescent-ends}

-- the session waits with the request, or it was granted and the session waits no more
abbrev WaitsOrHolds : State → ℕ → Claim → Type 0
WaitsOrHolds st s q = (request_of s st.table.requests ≡ Some q) ⊎ ((request_of s st.table.requests ≡ None) × (held_mode st.table s q.resource ≡ Some q.mode))

-- that stays so when another session ends
still : (st : State) (u s : ℕ) (q : Claim) → IsQuiescent st.table → s ≢ u → WaitsOrHolds st s q → WaitsOrHolds (ended u st) s q
still st u s q i n w = elim ((claims-taken u None st i.sound).others s n) [
  | inl same ↦ elim w [
    | inl e ↦ inl (same.request ∙ e)
    | inr h ↦ inr (same.request ∙ h.0, same.held q.resource ∙ h.1)
  ]
  | inr p ↦ elim w [
    | inl e ↦
        let asked = p.1.waited in
        let own : p.0 ≡ q = cc in
        inr (p.1.waits_no_more, subst (λ (c : Claim). held_mode (ended u st).table s c.resource ≡ Some c.mode) own p.1.held)
    | inr h ↦ let asked = p.1.waited in let free = h.0 in absurd (cc)
  ]
]

-- a session that can end doesn't wait, so it holds what it asked for
holds-now : (st : State) (s : ℕ) (q : Claim) → CanEnd st s → WaitsOrHolds st s q → held_mode st.table s q.resource ≡ Some q.mode
holds-now st s q c (inl e) = absurd (true≢false (ap is_some e) c.1)
holds-now st s q c (inr h) = h.1

-- in an order of ends the session ends and holds what it asked for, or it has its transaction still afterwards
ends-holding : (ss : List ℕ) (st last : State) (s : ℕ) (q : Claim) → IsQuiescent st.table → AreEnds ss st last → is_open st s ≡ true → WaitsOrHolds st s q → HoldsAtItsEnd st ss s q ⊎ (is_open last s ≡ true)
ends-holding [] st last s q i a o w = inr (ap (λ (x : State). is_open x s) a ∙ o)
ends-holding (u ∷ ss) st last s q i a o w = elim (cases_Bool (eqb s u)) [
  | inl y ↦
      let same = (Decides-eqb s u).0 y in
      inl (record { before = []; after = ss; turn = st; order = ap (λ (x : ℕ). x ∷ ss) (sym same); ends = refl; held = holds-now st s q (subst (CanEnd st) (sym same) a.0) w })
  | inr n ↦ elim (ends-holding ss (ended u st) last s q (ended-lawful u st.table i) a.1 (ended-other u st s n ∙ o) (still st u s q i (apart u s n) w)) [
    | inl h ↦ inl (record { before = u ∷ h.before; after = h.after; turn = h.turn; order = ap (λ (xs : List ℕ). u ∷ xs) h.order; ends = (a.0, h.ends); held = h.held })
    | inr k ↦ inr k
  ]
]

-- without a cycle every request that waits is granted
quiescent-grants : (st : State) → IsQuiescent st.table → IsNumbered st → AreRequestsGranted st
quiescent-grants st i n ss last a none s q e = elim (ends-holding ss st last s q i a (n.owners.waiting s q e) (inl e)) [
  | inl h ↦ h
  | inr k ↦ absurd (true≢false (none s k) (ap (λ (qs : List Claim). is_some (request_of s qs)) (quiescent-ends st i n ss last a none)))
]

-- so it is in every state that a history leads to
pub history-grants : (es : List Entry) → AreRequestsGranted (state_of es)
history-grants es = quiescent-grants (state_of es) (state-lawful es) (state-numbered es)
