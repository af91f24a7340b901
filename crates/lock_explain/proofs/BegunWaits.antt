-- The request with which a served call began to wait.
use Rattle.std.proofs.Common.{◌≡◌, ◌≢◌, ℕ, ◌≤◌, ◌⊎◌, false, inl, inr, List, [], ◌∷◌, Option, Some, None, is_some, option_map, IfSome, refl, sym, ◌∙◌}
use Rattle.lock_rules.specs.declared.calls.Call.{Call}
use Rattle.lock_rules.specs.Entries.{Entry}
use Rattle.lock_rules.specs.declared.calls.Reply.TheVariants.{Waiting}
use Rattle.lock_rules.specs.State.{Claim, State, held_mode, request_of}
use Rattle.lock_rules.specs.Step.{step}
use Rattle.lock_rules.specs.Legal.{state_of}
use Rattle.sequential.proofs.Members.{Member, contains-member, member-contains}
use Rattle.lock_explain.specs.declared.asked.Asked.{Asked}
use Rattle.lock_explain.specs.declared.explanation.Party.{Party}
use Rattle.lock_explain.specs.Endings.{AreNewVictims}
use Rattle.lock_explain.specs.Waiting.{BeginsToWait, party_of, request_made}
use Rattle.lock_explain.specs.inner.Asked.{IsAskedIn, claim_of}
use Rattle.lock_explain.specs.inner.Served.{IsServed}
use Rattle.lock_explain.proofs.Beginnings.{HasNewVictim, made-clear, made-session, tells-wait, wait-tells}

-- a list of new victims that isn't empty has one
some-victim : (n : ℕ) (before after : State) (victims : List Party) → AreNewVictims n before after victims → victims ≢ [] → HasNewVictim n before after
some-victim n before after [] new some = absurd (some refl)
some-victim n before after (p ∷ ps) new some = let h = (new.listed p).0 (member-contains p (p ∷ ps) (inl refl)) in record { victim = p.session; some = h.0; within = h.1; new = h.2 }

-- the request that a session would make that doesn't wait
pub free-asked : (n : ℕ) (st : State) (s : ℕ) (call : Call) (o : Option Asked) → 1 ≤ s → s ≤ n → request_of s st.table.requests ≡ None → option_map claim_of o ≡ request_made st s call
    → IfSome o (λ a. a.converts ≡ is_some (held_mode st.table a.session a.resource)) → IfSome o (IsAskedIn n st)
free-asked n st s call None some within idle made converts = tt
free-asked n st s call (Some a) some within idle made converts =
    let own : a.session ≡ s = made-session st s call (claim_of a) (sym made) in
    record { some = rw own some; within = rw own within; idle = rw own idle; converts = converts }

-- nothing, if there isn't something
pub nobody : (o : Option Claim) → is_some o ≡ false → o ≡ None
nobody None e = refl
nobody (Some q) e = absurd (cc)

module _ (n : ℕ) (history : List Entry) (e : Entry) (victims : List Party) (served : IsServed n history e (step (state_of history) e.session e.call).state) (new : AreNewVictims n (state_of history) (step (state_of history) e.session e.call).state victims) where
  -- with another reply than Waiting, and no victim, no request began to wait
  pub not-begun : (e.reply ≢ Waiting) × (victims ≡ []) → (q : Claim) → BeginsToWait (state_of history) e.session e.call q → ⊥
  not-begun none q b = elim (wait-tells n history served.entries e.session served.session.some served.session.within e.call q b) [
    | inl w ↦ none.0 (served.reply ∙ w)
    | inr v ↦ (
        let p = party_of (step (state_of history) e.session e.call).state v.victim in
        let m : Member p victims = contains-member p victims ((new.listed p).1 (v.some, v.within, v.new, refl)) in
        empty victims none.1 p m)
  ]
    where
      empty : (ps : List Party) → ps ≡ [] → (p : Party) → Member p ps → ⊥
      empty [] e p m = m
      empty (q ∷ ps) e p m = cc

  -- with the reply Waiting, or with a victim, the request that the call makes began to wait
  pub begun : (e.reply ≡ Waiting) ⊎ (victims ≢ []) → (q : Claim) → request_made (state_of history) e.session e.call ≡ Some q → BeginsToWait (state_of history) e.session e.call q
  begun t q made = tells-wait n (state_of history) e.session e.call q made (elim t [
    | inl w ↦ inl (sym served.reply ∙ w)
    | inr v ↦ inr (some-victim n (state_of history) (step (state_of history) e.session e.call).state victims new v)
  ])

  -- the same of the request that the call makes, if it makes one
  pub begins-asked : (e.reply ≡ Waiting) ⊎ (victims ≢ []) → (o : Option Asked) → option_map claim_of o ≡ request_made (state_of history) e.session e.call → IfSome o (λ a. BeginsToWait (state_of history) e.session e.call (claim_of a))
  begins-asked t None made = tt
  begins-asked t (Some a) made = begun t (claim_of a) (sym made)

  -- its session is one of 1 to n and doesn't wait
  pub is-asked : (e.reply ≡ Waiting) ⊎ (victims ≢ []) → (o : Option Asked) → option_map claim_of o ≡ request_made (state_of history) e.session e.call → IfSome o (λ a. a.converts ≡ is_some (held_mode (state_of history).table a.session a.resource)) → IfSome o (IsAskedIn n (state_of history))
  is-asked t None made converts = tt
  is-asked t (Some a) made converts =
      let b = begun t (claim_of a) (sym made) in
      let clear = made-clear (state_of history) e.session e.call (claim_of a) (sym made) b.accepted in
      free-asked n (state_of history) e.session e.call (Some a) served.session.some served.session.within clear.idle made converts
