-- A pass in which the combiner performs a call of its own, ahead of the published calls or behind them.
use Rattle.std.proofs.Common.{◌≡◌, ℕ, ◌+◌, ◌<◌, ◌≤◌, Bool, true, false, Option, Some, None, IfSome, IfNone, List, [], ◌∷◌, ◌++◌, length, get_or, refl, sym, ap, ◌∙◌, subst, arith, append_assoc, append-nil, length-append}
use mathlib.Core.List.{IsPrefix}
use Rattle.std.specs.List.{range_with_len}
use Rattle.sequential.specs.declared.entry.Entry.{Entry}
use Rattle.sequential.specs.Histories.{Answered, calls_of}
use Rattle.publication.specs.Views.{TicketView, entry, answer}
use Rattle.publication.specs.declared.slot.Load.{Load}
use Rattle.publication.proofs.Histories.{calls-fewer}
use Rattle.publication.proofs.Lists.{prefix_self, prefix_trans}
use Rattle.combining.specs.inner.OwnCalls.{IsOwnEntered, IsPassWithOwn}
use Rattle.combining.specs.inner.Passes.{HasPassed, HasServed}
use Rattle.combining.proofs.Places.{range-first, range-last}

-- What holds of a value holds of it in a weaker form.
pub some_weaker : {A : Type 0} (o : Option A) (P Q : A → Type 0) → ((x : A) → P x → Q x) → IfSome o P → IfSome o Q
some_weaker None P Q so p = tt
some_weaker (Some x) P Q so p = so x p

-- What holds if there is none.
pub none_then : {A : Type 0} (o : Option A) (P Q : Type 0) → (P → Q) → IfNone o P → IfNone o Q
none_then None P Q so p = so p
none_then (Some x) P Q so p = tt

module _ {C R : Type 0} where
  -- The session's view when its own call was entered, and before or after a pass.
  module _ (t u v : TicketView C R) (call : C) (place : ℕ) (reply : R) (served : ℕ) where
    -- The entry of the call.
    abbrev e : Entry C R
    e = entry t.number call reply

    -- The call was entered, and then a pass made.
    pub own_first : IsOwnEntered t u call place reply → HasPassed u v served → IsPrefix u.front v.front → IsPassWithOwn true t v call place reply served
    own_first own passed longer =
        let front : u.front ≡ t.front ++ e ∷ [] = ap (λ (x : TicketView C R). x.front) own.session in
        let long : length u.front ≡ length t.front + 1 = ap (λ (l : List (Entry C R)). length l) front ∙ length-append t.front (e ∷ []) in
        record {
          session = passed.session ∙ ap (λ (x : TicketView C R). record x { front = v.front; route = v.route; put_backs = v.put_backs; entered = v.entered }) own.session;
          entered = passed.entered ∙ (ap (λ (l : List ℕ). l ++ range_with_len (length u.front) served) (ap (λ (x : TicketView C R). x.entered) own.session)
              ∙ (append_assoc t.entered (place ∷ []) (range_with_len (length u.front) served)
              ∙ (ap (λ (k : ℕ × ℕ). t.entered ++ k.0 ∷ range_with_len k.1 served) (two own.place_is long) ∙ ap (λ (l : List ℕ). t.entered ++ l) (sym (range-first (length t.front) served)))));
          ahead = [];
          behind = longer.0;
          front = sym longer.1 ∙ (ap (λ (l : List (Entry C R)). l ++ longer.0) front ∙ (append_assoc t.front (e ∷ []) longer.0 ∙ ap (λ (l : List (Entry C R)). l ++ e ∷ longer.0) (sym (append-nil t.front))));
          place_is = own.place_is ∙ ap (λ (l : List (Entry C R)). length l) (sym (append-nil t.front));
          count = omega (arith, passed.count, ap (λ (l : List (Entry C R)). length l) longer.1, length-append u.front longer.0);
          order = refl;
        }
      where
        two : place ≡ length t.front → length u.front ≡ length t.front + 1 → ◌≡◌ {A = ℕ × ℕ} (place, length u.front) (length t.front, length t.front + 1)
        two x y = cc (x, y)

    -- A pass was made, and then the call entered.
    pub own_last : HasPassed t u served → IsPrefix t.front u.front → IsOwnEntered u v call place reply → IsPassWithOwn false t v call place reply served
    own_last passed longer own =
        let number : u.number ≡ t.number = ap (λ (x : TicketView C R). x.number) passed.session in
        let collected : u.collected ≡ t.collected = ap (λ (x : TicketView C R). x.collected) passed.session in
        let whole : v ≡ record t { front = u.front ++ entry u.number call reply ∷ []; collected = u.collected ++ answer place call reply ∷ []; route = u.route; put_backs = u.put_backs; entered = u.entered ++ place ∷ [] }
        = own.session ∙ ap (λ (x : TicketView C R). record x { front = u.front ++ entry u.number call reply ∷ []; collected = u.collected ++ answer place call reply ∷ []; entered = u.entered ++ place ∷ [] }) passed.session in
        let front : v.front ≡ u.front ++ e ∷ [] = ap (λ (x : TicketView C R). x.front) whole ∙ ap (λ (n : ℕ). u.front ++ entry n call reply ∷ []) number in
        record {
          session = whole
              ∙ (ap (λ (k : List (Entry C R) × (List ℕ × (ℕ × List ℕ))). record t { front = k.0; collected = u.collected ++ answer place call reply ∷ []; route = k.1.0; put_backs = k.1.1.0; entered = k.1.1.1 })
              (sym (ap (λ (x : TicketView C R). (x.front, (x.route, (x.put_backs, x.entered)))) whole))
              ∙ ap (λ (l : List (Answered C R)). record t { front = v.front; collected = l ++ answer place call reply ∷ []; route = v.route; put_backs = v.put_backs; entered = v.entered }) collected);
          entered = ap (λ (x : TicketView C R). x.entered) whole ∙ (ap (λ (l : List ℕ). l ++ place ∷ []) passed.entered ∙ (append_assoc t.entered (range_with_len (length t.front) served) (place ∷ [])
              ∙ ap (λ (l : List ℕ). t.entered ++ l) (sym (range-last (length t.front) served place (sym (own.place_is ∙ passed.count))))));
          ahead = longer.0;
          behind = [];
          front = front ∙ ap (λ (l : List (Entry C R)). l ++ e ∷ []) (sym longer.1);
          place_is = own.place_is ∙ ap (λ (l : List (Entry C R)). length l) (sym longer.1);
          count = omega (arith, passed.count, ap (λ (l : List (Entry C R)). length l) longer.1, length-append t.front longer.0);
          order = refl;
        }

  -- What the session knows only grows, whether or not its call was performed.
  pub entered-longer : (t u : TicketView C R) (call : C) (o : Option (ℕ × R)) → IfSome o (λ r. IsOwnEntered t u call r.0 r.1) → IfNone o (u ≡ t) → IsPrefix t.front u.front
  entered-longer t u call None own same = subst (λ (x : TicketView C R). IsPrefix t.front x.front) (sym same) (prefix_self t.front)
  entered-longer t u call (Some r) own same = (entry t.number call r.1 ∷ [], sym (ap (λ (x : TicketView C R). x.front) own.session))

module _ {C R : Type 0} where
  -- A call of its own that the combiner entered, or for which memory was refused, changes neither what the session has heard of nor how
  -- often it put calls back.
  entered-rest : (t u : TicketView C R) (call : C) (o : Option (ℕ × R)) → IfSome o (λ r. IsOwnEntered t u call r.0 r.1) → IfNone o (u ≡ t) → (u.put_backs ≡ t.put_backs) × (u.heard ≡ t.heard)
  entered-rest t u call None some none = (ap (λ (x : TicketView C R). x.put_backs) none, ap (λ (x : TicketView C R). x.heard) none)
  entered-rest t u call (Some r) some none = (ap (λ (x : TicketView C R). x.put_backs) some.session, ap (λ (x : TicketView C R). x.heard) some.session)

module _ {O C R : Type 0} where
  -- A pass after the call serves what one before it does.
  pub served-first : (n : ℕ) (t u v : TicketView C R) (call : C) (o : Option (ℕ × R)) (old mid new : Load O C R) (starved left : Bool) → IfSome o (λ r. IsOwnEntered t u call r.0 r.1) → IfNone o (u ≡ t)
      → mid.pieces.items ≡ old.pieces.items → HasServed n u v mid new starved left → HasServed n t v old new starved left
  served-first n t u v call o old mid new starved left some none taken s =
      let rest = entered-rest t u call o some none in
      let back = s.put_back in record {
        longer = prefix_trans t.front u.front v.front (entered-longer t u call o some none) s.longer;
        put_back = (λ h. subst (λ (k : ℕ). k < v.put_backs) rest.0 (back.0 h), λ h. back.1 (subst (λ (k : ℕ). k < v.put_backs) (sym rest.0) h));
        heard = λ unstarved whole j is few. subst (λ (l : List ℕ). get_or l j 0 ≤ length (calls_of j v.front)) rest.1 (s.heard unstarved whole j is few);
        taken = s.taken ∙ taken;
      }

  -- And a pass before it.
  pub served-last : (n : ℕ) (t u v : TicketView C R) (call : C) (o : Option (ℕ × R)) (old mid new : Load O C R) (starved left : Bool) → IfSome o (λ r. IsOwnEntered u v call r.0 r.1) → IfNone o (v ≡ u)
      → new.pieces.items ≡ mid.pieces.items → HasServed n t u old mid starved left → HasServed n t v old new starved left
  served-last n t u v call o old mid new starved left some none taken s =
      let rest = entered-rest u v call o some none in
      let grows = entered-longer u v call o some none in
      let back = s.put_back in record {
        longer = prefix_trans t.front u.front v.front s.longer grows;
        put_back = (λ h. subst (λ (k : ℕ). t.put_backs < k) (sym rest.0) (back.0 h), λ h. back.1 (subst (λ (k : ℕ). t.put_backs < k) rest.0 h));
        heard = λ unstarved whole j is few. omega (arith, s.heard unstarved whole j is few, calls-fewer j u.front v.front grows);
        taken = taken ∙ s.taken;
      }

module _ {C R : Type 0} where
  -- A pass with an own call takes no piece of the history.
  pub own-taken : (first : Bool) (t u : TicketView C R) (call : C) (o : Option (ℕ × R)) (served : ℕ) → IfSome o (λ r. IsPassWithOwn first t u call r.0 r.1 served) → IfNone o (HasPassed t u served) → u.taken ≡ t.taken
  own-taken first t u call None served some none = ap (λ (x : TicketView C R). x.taken) none.session
  own-taken first t u call (Some r) served some none = ap (λ (x : TicketView C R). x.taken) some.session

  -- A pass before or after a call for which memory was refused is the whole pass.
  pub refused-first : (t u v : TicketView C R) (served : ℕ) → u ≡ t → HasPassed u v served → HasPassed t v served
  refused-first t u v served same p = subst (λ (x : TicketView C R). HasPassed x v served) same p

  pub refused-last : (t u v : TicketView C R) (served : ℕ) → HasPassed t u served → v ≡ u → HasPassed t v served
  refused-last t u v served p same = subst (λ (x : TicketView C R). HasPassed t x served) (sym same) p

  -- What the session has entered, and that its known history only grew.
  pub own-entered : (t u : TicketView C R) (call : C) (o : Option (ℕ × R)) → IfSome o (λ r. IsOwnEntered t u call r.0 r.1) → IfNone o (u ≡ t) → IsPrefix t.entered u.entered
  own-entered t u call None own same = subst (λ (x : TicketView C R). IsPrefix t.entered x.entered) (sym same) (prefix_self t.entered)
  own-entered t u call (Some r) own same = (r.0 ∷ [], sym (ap (λ (x : TicketView C R). x.entered) own.session))

  pub pass-entered : (t u : TicketView C R) (served : ℕ) → HasPassed t u served → IsPrefix t.entered u.entered
  pass-entered t u served p = (range_with_len (length t.front) served, sym p.entered)
