-- Which call made a transaction a victim, one entry after another.
use Rattle.std.proofs.Common.{◌≡◌, ℕ, ◌+◌, ◌<◌, Bool, cond, List, [], ◌∷◌, ◌++◌, take, get_or, length, length-take, Option, Some, None, sym, ap, subst, ◌∙◌, arith}
use Rattle.std.specs.Prelude.{All}
use Rattle.sequential.specs.Histories.{IsEntryWithin}
use Rattle.lock_rules.specs.Entries.{Entry}
use Rattle.lock_rules.specs.State.{State, empty}
use Rattle.lock_rules.specs.Step.{step}
use Rattle.lock_rules.specs.Legal.{state_after, state_of}
use Rattle.lock_rules.proofs.Histories.{state_of-push}
use Rattle.lock_report.specs.declared.snapshot.Doom.{Doom}
use Rattle.lock_report.proofs.Pieces.{with_next}
use Rattle.history_commands.specs.Dooms.{does_doom, doom_from, doomed_by}

-- the last of some entries tells, if it makes a victim
doom-push : (s : ℕ) (st : State) (place : ℕ) (last : Option Doom) (es : List Entry) (e : Entry)
    → doom_from s st place last (es ++ e ∷ []) ≡ cond (does_doom s (state_after st es) e) (Some (record { place = place + length es; session = e.session })) (doom_from s st place last es)
doom-push s st place last [] e = let none : place + 0 ≡ place = omega arith in ap (λ (k : ℕ). cond (does_doom s st e) (Some (record { place = k; session = e.session })) last) (sym none)
doom-push s st place last (x ∷ es) e =
    let newer = cond (does_doom s st x) (Some (record { place = place; session = x.session })) last in
    let rest = doom_from s (step st x.session x.call).state (place + 1) newer es in
    let long : place + 1 + length es ≡ place + length (x ∷ es) = omega arith in
    doom-push s (step st x.session x.call).state (place + 1) newer es e
    ∙ ap (λ (k : ℕ). cond (does_doom s (state_after (step st x.session x.call).state es) e) (Some (record { place = k; session = e.session })) rest) long

-- with one entry more
pub one-doom : (s i : ℕ) (es : List Entry) (e : Entry) (st : State) (place : ℕ) (last newer : Option Doom) (dooms : Bool) → i < length es → e ≡ get_or es i e → st ≡ state_of (take i es) → place ≡ i
    → dooms ≡ does_doom s st e → newer ≡ cond dooms (Some (record { place = place; session = e.session })) last → last ≡ doomed_by s (take i es) → newer ≡ doomed_by s (take (i + 1) es)
one-doom s i es e st place last newer dooms lt is before at told new so_far =
    let long : 0 + length (take i es) ≡ place = omega (arith, at, length-take i es) in
    new
    ∙ ((λ j. cond (told j) (Some (record { place = place; session = e.session })) (so_far j))
    ∙ (ap (λ (x : State). cond (does_doom s x e) (Some (record { place = place; session = e.session })) (doomed_by s (take i es))) before
    ∙ (ap (λ (k : ℕ). cond (does_doom s (state_of (take i es)) e) (Some (record { place = k; session = e.session })) (doomed_by s (take i es))) (sym long)
    ∙ (sym (doom-push s empty 0 None (take i es) e) ∙ ap (doomed_by s) (sym (with_next es i e lt is))))))

-- one call more leads to the state after one entry more
pub next-state : (es : List Entry) (i : ℕ) (e : Entry) (st st' : State) → i < length es → e ≡ get_or es i e → st' ≡ (step st e.session e.call).state → st ≡ state_of (take i es) → st' ≡ state_of (take (i + 1) es)
next-state es i e st st' lt is after before =
    after ∙ (ap (λ (x : State). (step x e.session e.call).state) before ∙ (sym (state_of-push (take i es) e) ∙ sym (ap state_of (with_next es i e lt is))))

-- each entry is of one of the sessions 1 to n
pub entry-within : (n : ℕ) (es : List Entry) (i : ℕ) (e : Entry) → All (IsEntryWithin n) es → i < length es → e ≡ get_or es i e → IsEntryWithin n e
entry-within n es i e within lt is = subst (IsEntryWithin n) (sym is) (within i e lt)
