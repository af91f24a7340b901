-- The answer to a program of one call has one reply.
use Rattle.std.proofs.Common.{◌≡◌, inl, inr, ◌<◌, Bool, true, List, [], ◌∷◌, length, refl, arith}
use Rattle.programs.specs.Flat.{IsRun, IsAnswer}
use Rattle.lock_rules.specs.declared.calls.Call.{Call}
use Rattle.lock_rules.specs.declared.calls.Reply.{Reply}
use Rattle.lock_programs.specs.declared.program.Program.{Program}
use Rattle.lock_programs.specs.declared.answer.ProgramAnswer.{ProgramAnswer}
use Rattle.lock_programs.specs.Calls.{calls_of}
use Rattle.lock_programs.specs.Answers.{replies_of, program_form}

-- an answered program of some calls has a reply
pub some-replies : (p : Program) (a : ProgramAnswer) → 0 < length (calls_of p) → IsAnswer program_form p a → 0 < length (replies_of p a)
some-replies p a some is = go (calls_of p) (replies_of p a) a.is_refused some is.1 is.0
  where
    go : (cs : List Call) (rs : List Reply) (x : Bool) → 0 < length cs → (x ≡ true → 0 < length rs) → IsRun program_form cs rs x → 0 < length rs
    go [] rs x some few h = absurd (omega (arith, some))
    go (c ∷ cs) [] x some few h = few h
    go (c ∷ cs) (r ∷ rs) x some few h = omega arith

pub one-reply : (p : Program) (a : ProgramAnswer) (c : Call) → calls_of p ≡ c ∷ [] → IsAnswer program_form p a → (r : Reply) × (replies_of p a ≡ r ∷ [])
one-reply p a c one is = go (calls_of p) (replies_of p a) a.is_refused one is.1 is.0
  where
    go : (cs : List Call) (rs : List Reply) (x : Bool) → cs ≡ c ∷ [] → (x ≡ true → 0 < length rs) → IsRun program_form cs rs x → (r : Reply) × (rs ≡ r ∷ [])
    go [] rs x e some h = absurd (cc)
    go (d ∷ (b ∷ bs)) rs x e some h = absurd (cc)
    go (d ∷ []) [] x e some h = absurd (let s = some h in omega (arith, s))
    go (d ∷ []) (r ∷ []) x e some h = (r, refl)
    go (d ∷ []) (r ∷ (q ∷ qs)) x e some (inl h) = absurd h.1
    go (d ∷ []) (r ∷ (q ∷ qs)) x e some (inr h) = absurd (let n = h.1 in cc)
