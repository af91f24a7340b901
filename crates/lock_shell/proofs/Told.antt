-- Which call of a session is told of.
use Rattle.std.proofs.Common.{◌≡◌, ◌∙◌, ◌+◌, ◌<◌, ◌≤◌, ℕ, Bool, true, false, if◌then◌else◌, List, [], ◌∷◌, length, take, get_or, Option, None, Some, inl, inr, refl, sym, ap, subst, arith}
use Rattle.std.specs.Prelude.{slice_get}
use Rattle.std.proofs.lemmas.Bool.{cases_lt}
use Rattle.std.proofs.lemmas.Option.{slice_get_read, slice_get_within}
use Rattle.lock_rules.specs.Entries.{Entry}
use Rattle.lock_rules.specs.State.{State, empty, is_doomed}
use Rattle.lock_rules.specs.Legal.{state_of}
use Rattle.lock_rules.specs.Step.{step}
use Rattle.lock_report.specs.declared.snapshot.Doom.{Doom}
use Rattle.history_commands.specs.Dooms.{does_doom, doom_from, doomed_by}
use Rattle.command_line.specs.declared.args.Form.TheVariants as form
use Rattle.history_commands.specs.Explaining.{IsAccount, doom_answered}
use Rattle.lock_shell.specs.Turns.{IsAccountAt, IsLastCall, IsPlaceTold, is_call_of}
use Rattle.lock_shell.specs.inner.Parts.{HasNoneOfLast}

-- there is no call behind the last one
pub none_of_none : (s : ℕ) (es : List Entry) → HasNoneOfLast s es 0
none_of_none s es = λ i e past at. absurd (omega (arith, past, slice_get_within es i e at))

-- one entry at one place
same_entry : (a b : Entry) → Some a ≡ Some b → a ≡ b
same_entry a b e = cc

-- one call more, which is another's or a poll
pub none_more : (s : ℕ) (es : List Entry) (back place : ℕ) (e : Entry) → place + back + 1 ≡ length es → e ≡ get_or es place e → is_call_of s e ≡ false
    → HasNoneOfLast s es back → HasNoneOfLast s es (back + 1)
none_more s es back place e here is other none = λ i f past at.
    let there : slice_get es place ≡ Some e = slice_get_read es (length es) place e refl (omega (arith, here)) is in
    elim (cases_lt place i) [
      | inl behind ↦ none i f (omega (arith, here, behind)) at
      | inr upto ↦
          let same : i ≡ place = omega (arith, past, here, upto) in
          ap (is_call_of s) (same_entry f e (sym at ∙ ap (slice_get es) same ∙ there)) ∙ other
    ]

-- the last call of the session
pub last_here : (s : ℕ) (es : List Entry) (back place : ℕ) (e : Entry) → place + back + 1 ≡ length es → e ≡ get_or es place e → is_call_of s e ≡ true
    → HasNoneOfLast s es back → IsLastCall s es (Some place)
last_here s es back place e here is own none = (
  (e, (slice_get_read es (length es) place e refl (omega (arith, here)) is, own)),
  λ i f behind at. none i f (omega (arith, here, behind)) at,
)

-- the session made no call
pub last_none : (s : ℕ) (es : List Entry) (back : ℕ) → length es ≤ back → HasNoneOfLast s es back → IsLastCall s es None
last_none s es back all none = λ i e at. none i e (omega (arith, all)) at

-- there is no call that made the session a victim, or it is in front of a place
abbrev IsInFront : ℕ → Option Doom → Type 0
IsInFront place None = Unit {0}
IsInFront place (Some doom) = doom.place < place

-- behind the next call
newer_in_front : (b : Bool) (place who : ℕ) (last : Option Doom) → IsInFront place last
    → IsInFront (place + 1) (if b then Some (record { place = place; session = who }) else last)
newer_in_front true place who last before = omega arith
newer_in_front false place who None before = tt
newer_in_front false place who (Some doom) before = omega (arith, before)

-- behind all of these calls
doom_in_front : (s : ℕ) (st : State) (place : ℕ) (last : Option Doom) (es : List Entry) → IsInFront place last
    → IsInFront (place + length es) (doom_from s st place last es)
doom_in_front s st place last [] before =
    let same : place ≡ place + 0 = omega arith in subst (λ (k : ℕ). IsInFront k last) same before
doom_in_front s st place last (e ∷ es) before =
    let st2 = (step st e.session e.call).state in
    let newer : Option Doom = if does_doom s st e then Some (record { place = place; session = e.session }) else last in
    let same : place + 1 + length es ≡ place + length (e ∷ es) = omega arith in
    subst (λ (k : ℕ). IsInFront k (doom_from s st2 (place + 1) newer es)) same
    (doom_in_front s st2 (place + 1) newer es (newer_in_front (does_doom s st e) place e.session last before))

-- the call that made the session a victim is one of the history
answered_in_front : (s : ℕ) (es : List Entry) → IsInFront (length es) (doom_answered es s)
answered_in_front s es = go (is_doomed (state_of es) s)
  where
    go : (b : Bool) → IsInFront (length es) (if b then doomed_by s es else None)
    go true = let same : 0 + length es ≡ length es = omega arith in subst (λ (k : ℕ). IsInFront k (doomed_by s es)) same (doom_in_front s empty 0 None es tt)
    go false = tt

-- one place
same_place : (a b : ℕ) → Some a ≡ Some b → a ≡ b
same_place a b e = cc

-- the call that is told of is one of the history
pub told_within : (s : ℕ) (es : List Entry) (doom : Option Doom) (place : ℕ) → doom ≡ doom_answered es s → IsPlaceTold s es doom (Some place) → place < length es
told_within s es None place is told = slice_get_within es place told.0.0 told.0.1.0
told_within s es (Some doom) place is told =
    let within : doom.place < length es = subst (IsInFront (length es)) (sym is) (answered_in_front s es) in
    omega (arith, within, same_place place doom.place told)

-- the account of an entry of the history tells what it did
pub told_at : (n : ℕ) (history entries : List Entry) (place : ℕ) (e : Entry) (text : List ℕ) → entries ≡ history → place < length history
    → e ≡ get_or entries place e → IsAccount form.Lines n (take place history) e text → IsAccountAt n history (Some place) text
told_at n history entries place e text same there is account =
    let at : e ≡ get_or history place e = is ∙ ap (λ (es : List Entry). get_or es place e) same in
    (e, (slice_get_read history (length history) place e refl there at, account))
