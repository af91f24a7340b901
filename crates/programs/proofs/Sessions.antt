-- The calls of one session in the histories of programs and of calls.
use Rattle.std.proofs.Common.{◌≡◌, ℕ, ◌+◌, Bool, true, false, cond, eqb, List, [], ◌∷◌, ◌++◌, length, refl, sym, ap, ◌∙◌}
use Rattle.sequential.specs.declared.entry.Entry.{Entry}
use Rattle.sequential.specs.Histories.{Answered, calls_from, calls_of}
use Rattle.sequential.proofs.SessionCalls.{calls_from-append}
use Rattle.programs.specs.Form.{Form}
use Rattle.programs.specs.Flat.{entries, answers_from, entries_of, flat, flat_calls, AreRun}

module _ {C R : Type 0} where
  -- the calls of a program are its session's
  calls_from-own : (t s place : ℕ) (cs : List C) (rs : List R) → eqb t s ≡ true → calls_from s place (entries t cs rs) ≡ answers_from place cs rs
  calls_from-own t s place [] rs e = refl
  calls_from-own t s place (c ∷ cs) [] e = refl
  calls_from-own t s place (c ∷ cs) (r ∷ rs) e =
      let a : Answered C R = record { place = place; call = c; reply = r } in
      let more : List (Answered C R) = calls_from s (place + 1) (entries t cs rs) in
      ap (λ (b : Bool). cond b (a ∷ more) more) e ∙ ap (λ (l : List (Answered C R)). a ∷ l) (calls_from-own t s (place + 1) cs rs e)

  -- and no other's
  calls_from-other : (t s place : ℕ) (cs : List C) (rs : List R) → eqb t s ≡ false → calls_from s place (entries t cs rs) ≡ []
  calls_from-other t s place [] rs e = refl
  calls_from-other t s place (c ∷ cs) [] e = refl
  calls_from-other t s place (c ∷ cs) (r ∷ rs) e =
      let a : Answered C R = record { place = place; call = c; reply = r } in
      let more : List (Answered C R) = calls_from s (place + 1) (entries t cs rs) in
      ap (λ (b : Bool). cond b (a ∷ more) more) e ∙ calls_from-other t s (place + 1) cs rs e

module _ {P A C R : Type 0} (form : Form P A C R) where
  -- the calls of a session are those of its programs, laid end to end, wherever both histories begin
  session-calls : (s place i : ℕ) (h : List (Entry P A)) → AreRun form place h → calls_from s place (flat form h) ≡ flat_calls form (calls_from s i h)
  session-calls s place i [] h = refl
  session-calls s place i (x ∷ xs) h =
      calls_from-append s place (entries_of form x) (flat form xs)
      ∙ ap (λ (l : List (Answered C R)). calls_from s place (entries_of form x) ++ l) (session-calls s (place + length (entries_of form x)) (i + 1) xs h.2)
      ∙ first (eqb x.session s) refl
    where
      more : List (Answered P A)
      more = calls_from s (i + 1) xs

      first : (b : Bool) → eqb x.session s ≡ b
          → calls_from s place (entries_of form x) ++ flat_calls form (calls_from s (i + 1) xs)
          ≡ flat_calls form (cond b (record { place = i; call = x.call; reply = x.reply } ∷ calls_from s (i + 1) xs) (calls_from s (i + 1) xs))
      first true e =
          ap (λ (l : List (Answered C R)). l ++ flat_calls form (calls_from s (i + 1) xs))
          (calls_from-own x.session s place (form.calls x.call) (form.replies x.call x.reply) e
          ∙ ap (λ (p : ℕ). answers_from p (form.calls x.call) (form.replies x.call x.reply)) (sym h.0))
      first false e =
          ap (λ (l : List (Answered C R)). l ++ flat_calls form (calls_from s (i + 1) xs))
          (calls_from-other x.session s place (form.calls x.call) (form.replies x.call x.reply) e)

  -- the same, of whole histories
  pub calls_of-flat : (s : ℕ) (h : List (Entry P A)) → AreRun form 0 h → calls_of s (flat form h) ≡ flat_calls form (calls_of s h)
  calls_of-flat s h r = session-calls s 0 0 h r
