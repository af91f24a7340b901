-- How many calls of the history are known behind an answer, and to one that learns what another knows.
use Rattle.std.proofs.Common.{◌≡◌, ◌∙◌, ◌⊎◌, inl, inr, ⊎_elim, refl, append_assoc, ℕ, zero, suc, ◌+◌, ◌-◌, ◌^◌, ◌≤◌, max, min, cond, true, false, List, [], ◌∷◌, ◌++◌, length, take, length-append, append-nil, sym, ap, subst, arith}
use Rattle.std.specs.Prelude.{nat_lt}
use mathlib.Core.List.{IsPrefix}
use mathlib.Core.Option as opt
use lib.ListN.{get_elem?}
use Rattle.std.proofs.lemmas.List.{length-take-le}
use Rattle.programs.specs.Flat.{entry, entries_of}
use Rattle.programs.specs.Fronts.{flat-append}
use Rattle.programs.proofs.Placed.{entries-length, run-few}
use Rattle.publication.proofs.Lists.{at_there}
use Rattle.publication.specs.StepKinds.{longer}
use Rattle.combining.proofs.EndedWaits.{split-at}
use Rattle.combining.specs.Woken.{IsNotedUpTo}
use Rattle.lock_rules.specs.Entries.{Entry}
use Rattle.lock_programs.specs.declared.program.Program.{Program}
use Rattle.lock_programs.specs.declared.answer.ProgramAnswer.{ProgramAnswer}
use Rattle.lock_programs.specs.Calls.{calls_of}
use Rattle.lock_programs.specs.Answers.{replies_of, program_form}
use Rattle.lock_office.specs.ProgramBoards.{ProgramEntry, IsLegal, flat_history}
use Rattle.lock_office.specs.Seen.{number_of_calls}
use Rattle.programs.specs.Flat.{IsAnswer}
use Rattle.programs.specs.Fronts.{fronts_are_legal}
use Rattle.programs.specs.Determined.{last-run}
use Rattle.lock_rules.specs.Legal.{IsLegal as IsLegalByCalls}
use Rattle.lock_rules.proofs.Histories.{legal-front}

-- how many calls two histories have, one behind the other
both : (f g : List ProgramEntry) → length (flat_history (f ++ g)) ≡ length (flat_history f) + length (flat_history g)
both f g = ap (λ (l : List Entry). length l) (flat-append program_form f g) ∙ length-append (flat_history f) (flat_history g)

none-or-some : {A : Type 0} (l : List A) → (l ≡ []) ⊎ (1 ≤ length l)
none-or-some [] = inl refl
none-or-some (x ∷ l) = inr (omega arith)

-- The answer at a place of a legal history has the number of the calls before it, and is one that its program can have.
run-at : (h : List ProgramEntry) (i s : ℕ) (p : Program) (a : ProgramAnswer) → IsLegal h → get_elem? h i ≡ opt.some (entry s p a) → (a.first ≡ 0 + length (flat_history (take i h))) × IsAnswer program_form p a
run-at h i s p a legal at =
    let e : ProgramEntry = entry s p a in
    let cut = split-at h i e at in
    let whole : h ≡ (take i h ++ e ∷ []) ++ cut.0 = cut.1 ∙ sym (append_assoc (take i h) (e ∷ []) cut.0) in
    let here = fronts_are_legal program_form IsLegalByCalls legal-front (take i h ++ e ∷ []) cut.0 (subst IsLegal whole legal) in
    last-run program_form 0 (take i h) e here.1

-- Behind an answer at a place of the history, with what was known before.
pub known-behind : (f g : List ProgramEntry) (at s : ℕ) (p : Program) (a : ProgramAnswer) → IsLegal g → IsPrefix f g → get_elem? g at ≡ opt.some (entry s p a) → length g ≡ max (length f) (at + 1)
    → number_of_calls g ≡ max (number_of_calls f) (min (a.first + length (replies_of p a)) (2 ^ 64 - 1))
known-behind f g at s p a legal longer stands long =
    let e : ProgramEntry = entry s p a in
    let cut = split-at g at e stands in
    let few = (at_there g at e e stands).1 in
    let ahead : length (take at g) ≡ at = length-take-le at g (omega (arith, few)) in
    let run = run-at g at s p a legal stands in
    let first = run.0 in
    let served : length (entries_of program_form e) ≡ length (replies_of p a) = entries-length s (calls_of p) (replies_of p a) (run-few program_form (calls_of p) (replies_of p a) a.is_refused run.1.0) in
    let whole : length (flat_history g) ≡ a.first + (length (replies_of p a) + length (flat_history cut.0)) =
    let n = ap (λ (l : List ProgramEntry). length (flat_history l)) cut.1 in
    let m = both (take at g) (e ∷ cut.0) in
    let k = length-append (entries_of program_form e) (flat_history cut.0) in
    omega (arith, n, m, k, first, served) in
    let rest : length (flat_history g) ≡ length (flat_history f) + length (flat_history longer.0) = ap (λ (l : List ProgramEntry). length (flat_history l)) (sym longer.1) ∙ both f longer.0 in
    let count : length g ≡ at + (1 + length cut.0) = let n = ap (λ (l : List ProgramEntry). length l) cut.1 in let m = length-append (take at g) (e ∷ cut.0) in omega (arith, n, m, ahead) in
    let known : length g ≡ length f + length longer.0 = ap (λ (l : List ProgramEntry). length l) (sym longer.1) ∙ length-append f longer.0 in
    ⊎_elim
    (λ none. let z = ap (λ (l : List ProgramEntry). length (flat_history l)) none in omega (arith, whole, rest, z))
    (λ some. ⊎_elim
    (λ none. let z = ap (λ (l : List ProgramEntry). length (flat_history l)) none in omega (arith, whole, rest, z))
    (λ more. absurd (omega (arith, count, known, long, some, more)))
    (none-or-some longer.0))
    (none-or-some cut.0)

longer-is : (f g : List ProgramEntry) → (longer f g ≡ f) ⊎ (longer f g ≡ g)
longer-is f g = (elim (nat_lt (length f) (length g)) as (λ b. nat_lt (length f) (length g) ≡ b → (cond b g f ≡ f) ⊎ (cond b g f ≡ g)) [
  | true ↦ λ e. inr refl
  | false ↦ λ e. inl refl
]) refl

-- The longer of two fronts of one history has the more calls.
pub known-longer : (f g h : List ProgramEntry) → IsPrefix f h → IsPrefix g h → (h ≡ f) ⊎ (h ≡ g) → number_of_calls h ≡ max (number_of_calls f) (number_of_calls g)
known-longer f g h a b is =
    let m : length (flat_history h) ≡ length (flat_history f) + length (flat_history a.0) = ap (λ (l : List ProgramEntry). length (flat_history l)) (sym a.1) ∙ both f a.0 in
    let n : length (flat_history h) ≡ length (flat_history g) + length (flat_history b.0) = ap (λ (l : List ProgramEntry). length (flat_history l)) (sym b.1) ∙ both g b.0 in
    ⊎_elim
    (λ same. let k = ap (λ (l : List ProgramEntry). length (flat_history l)) same in omega (arith, m, n, k))
    (λ same. let k = ap (λ (l : List ProgramEntry). length (flat_history l)) same in omega (arith, m, n, k))
    is

-- One that learns from another knows the more calls that either knew.
pub known-learned : (f g : List ProgramEntry) → IsPrefix f (longer f g) → IsPrefix g (longer f g) → number_of_calls (longer f g) ≡ max (number_of_calls f) (number_of_calls g)
known-learned f g a b = known-longer f g (longer f g) a b (longer-is f g)

-- The count of one that noted how many calls a front has, and then got an answer behind it.
pub counted-behind : (g : List ProgramEntry) (at s : ℕ) (p : Program) (a : ProgramAnswer) (seen result : ℕ) → IsLegal g → get_elem? g at ≡ opt.some (entry s p a)
    → IsNotedUpTo (λ (h : List ProgramEntry). seen ≡ number_of_calls h) g (at + 1) → result ≡ max seen (min (a.first + length (replies_of p a)) (2 ^ 64 - 1)) → result ≡ number_of_calls g
counted-behind g at s p a seen result legal stands noted is =
    let known = known-behind noted.front g at s p a legal noted.longer stands noted.length_is in
    is ∙ (ap (λ (n : ℕ). max n (min (a.first + length (replies_of p a)) (2 ^ 64 - 1))) noted.noted ∙ sym known)
