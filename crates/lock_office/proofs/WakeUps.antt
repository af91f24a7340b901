-- Who has ended the wait of a session, where programs are published, and who was told of it.
use Rattle.std.proofs.Common.{◌≡◌, ◌∙◌, ◌⊎◌, inl, inr, ⊎_elim, ℕ, zero, suc, ◌+◌, ◌-◌, ◌<◌, ◌≤◌, List, [], ◌∷◌, length, get_or, take, Contains, refl, sym, ap, subst, arith}
use Rattle.std.proofs.lemmas.List.{get_or_default}
use Rattle.std.proofs.lemmas.List.Elements.{Contains-append_left, Contains-append_right, Contains-append_cases}
use mathlib.Core.List.{IsPrefix}
use Rattle.sequential.specs.EndedWaits.{HasEndedIn, HasEndedAt}
use Rattle.sequential.proofs.Members.{contains-member}
use Rattle.lock_desk.specs.Batches.{ends_wait}
use Rattle.programs.specs.Views.{place_of}
use Rattle.lock_programs.specs.Answers.{program_form}
use Rattle.publication.specs.Entered.{AreEnteredOnce}
use Rattle.combining.specs.Woken.{HasAddedTold}
use Rattle.combining.proofs.EndedWaits.{in-range, told-later}
use Rattle.lock_office.specs.by_calls.WakeUps.{WasToldToWait}
use Rattle.lock_office.proofs.by_calls.WakeUps.{told_so, waits-or-ended, ended-behind}
use Rattle.lock_office.specs.ProgramBoards.{ProgramEntry, BoardState, IsLegal, flat_history, history_of, program_object}
use Rattle.lock_office.specs.Ended.{EndsWait, AreToldBy, places_within}
use Rattle.lock_office.specs.WakeUps.{HasEndedWait, WaitsOrEnded, HaveTold, nothing, behind}
use Rattle.lock_office.proofs.Sessions.{compared}
use Rattle.lock_office.proofs.Places.{take-past, ended-by-calls}

no-front : (h : List ProgramEntry) → length (flat_history (take 0 h)) ≡ 0
no-front [] = refl
no-front (e ∷ es) = refl

-- A place of the history of calls is one of those that the calls of some program have.
module _ (h : List ProgramEntry) (q : ℕ) where
  abbrev first : ℕ → ℕ
  first n = place_of program_form n h

  program-from : (n : ℕ) → n ≤ length h → q < first n → (p : ℕ) × (p < length h) × Contains (places_within h p) q
  program-from zero le few = absurd (omega (arith, no-front h, few))
  program-from (suc n) le few =
      let next : n + 1 ≡ suc n = omega arith in
      let below : q < first (n + 1) = subst (λ (k : ℕ). q < first k) (sym next) few in
      ⊎_elim
      (λ lt. program-from n (omega (arith, le)) lt)
      (λ ge.
      let k : ℕ = q - first n in
      let at : first n + k ≡ q = omega (arith, ge) in
      (n, omega (arith, le), subst (λ (i : ℕ). Contains (places_within h n) i) at (in-range (first n) (first (n + 1) - first n) k (omega (arith, ge, below)))))
      (compared q (first n))

pub in-program : (h : List ProgramEntry) (q : ℕ) → q < length (flat_history h) → (p : ℕ) × (p < length h) × Contains (places_within h p) q
in-program h q few = program-from h q (length h) (omega arith) (subst (λ (l : List ProgramEntry). q < length (flat_history l)) (sym (take-past h (length h) (omega arith))) few)

-- A session that was told to wait waits, or its wait was ended.
module _ (s : BoardState) (once : AreEnteredOnce program_object s) (legal : IsLegal (history_of s)) (u : ℕ) (w : WasToldToWait (flat_history (history_of s)) u) where
  abbrev h : List ProgramEntry
  h = history_of s

  ends-here : HasEndedIn ends_wait (told_so (flat_history h) legal.0 u w) w.rest u → (k index : ℕ) × HasEndedWait s (length w.front) u k index
  ends-here k =
      let b = ended-behind (flat_history h) legal.0 u w k in
      let p = in-program h b.0 b.2 in
      let found = once.each p.0 p.1 in
      let places = found.1 in
      let among = found.3 in
      let at : get_or places among.0 0 ≡ p.0 = get_or_default places among.0 0 p.0 among.1 ∙ among.2 in (
        found.0,
        among.0,
        record {
          places = places;
          entered = found.2;
          small = among.1;
          place = b.0;
          within = subst (λ (i : ℕ). Contains (places_within h i) b.0) (sym at) p.2;
          late = b.1;
          entry = b.3;
          stands = b.4;
          ended = b.5;
        },
      )

  pub waits-or-ended-here : WaitsOrEnded s (length w.front) u
  waits-or-ended-here = ⊎_elim (λ request. inl request) (λ ended. inr (ends-here ended)) (waits-or-ended (flat_history h) legal.0 u w)

-- What calls have told.

-- A wait that a program at the only place of a list has ended, at any list that has this place.
at-place : (h : List ProgramEntry) (p u : ℕ) (places : List ℕ) → Contains places p → HasEndedAt EndsWait h (p ∷ []) u → HasEndedAt EndsWait h places u
at-place h p u places among e = record { place = e.place; among = subst (Contains places) (sym (only e.place e.among)) among; entry = e.entry; stands = e.stands; ended = e.ended }
  where
    only : (q : ℕ) → Contains (p ∷ []) q → q ≡ p
    only q has = ⊎_elim (λ is. sym is) (λ none. absurd none) (contains-member q (p ∷ []) has)

module _ (n : ℕ) (s : BoardState) (since u k index : ℕ) (e : HasEndedWait s since u k index) (some : 1 ≤ u) (few : u ≤ n) where
  abbrev at : ℕ
  at = get_or e.places index 0

  ended-there : HasEndedAt EndsWait (history_of s) (at ∷ []) u
  ended-there = (ended-by-calls program_form ends_wait (history_of s) (at ∷ []) u).1
      (record { place = e.place; among = Contains-append_left (places_within (history_of s) at) [] e.place e.within; entry = e.entry; stands = e.stands; ended = e.ended })

  -- The call that told of the place has listed the session.
  pub listed-there : {places listed : List ℕ} → HaveTold n (history_of s) places listed → Contains places at → Contains listed u
  listed-there nothing has = absurd (contains-member at [] has)
  listed-there (behind places listed before known own list longer within told) has = ⊎_elim
      (λ early. Contains-append_left listed list u (listed-there before early))
      (λ now. Contains-append_right listed list u ((later.members u).1 (inr (some, few, at-place (history_of s) at u own now ended-there))))
      (Contains-append_cases places own at has)
    where
      later : HasAddedTold EndsWait n (history_of s) own [] list
      later = told-later n known (history_of s) own [] list longer record {
        members = λ v. ((λ has. inr ((told.members v).0 has)), ⊎_elim (λ none. absurd (contains-member v [] none)) (λ t. (told.members v).1 t));
        once = λ _. told.once;
        within = within;
      }
