-- The calls that a combiner has to serve, after one more record is opened or one more call is answered.
use Rattle.std.proofs.Common.{◌≡◌, ◌≢◌, ℕ, ◌+◌, ◌≤◌, Bool, cond, is_some, Option, Some, None, List, [], ◌∷◌, ◌++◌, length, set, sym, ap, ◌∙◌, subst, arith, length-append, eq-eqb, ne_eqb, get_or-set_other}
use mathlib.Core.Logic.{dite}
use native.Mathlib.Decide.{ℕ_discrete}
use Rattle.sequential.specs.declared.entry.Entry.{Entry}
use Rattle.sequential.specs.Histories.{Answered, calls_of}
use Rattle.sequential.proofs.SessionCalls.{last_call, calls_of-push}
use Rattle.publication.specs.Views.{TicketView, entry}
use Rattle.publication.specs.Boards.{opened_at, asked_at, heard_from, published_by}
use Rattle.combining.specs.inner.Passes.{HasCalls, KeepsCalls, IsVisited, IsSameSession}
use Rattle.sequential.specs.declared.object.Sequential.{Ghosts}

module _ {C R : Type 0} where
  -- One more entry adds 1 or 0 to a session's number of calls.
  count-push : (j : ℕ) (h : List (Entry C R)) (e : Entry C R) → length (calls_of j (h ++ e ∷ [])) ≡ length (calls_of j h) + length (last_call j (length h) e)
  count-push j h e = ap (λ (cs : List (Answered C R)). length cs) (calls_of-push j h e) ∙ length-append (calls_of j h) (last_call j (length h) e)

  count-own : (j : ℕ) (h : List (Entry C R)) (e : Entry C R) → e.session ≡ j → length (calls_of j (h ++ e ∷ [])) ≡ length (calls_of j h) + 1
  count-own j h e is = let t = ap (λ (b : Bool). length {A = (Answered C R)} (cond b (record { place = length h; call = e.call; reply = e.reply } ∷ []) [])) (eq-eqb e.session j is) in
      omega (arith, count-push j h e, t)

  count-other : (j : ℕ) (h : List (Entry C R)) (e : Entry C R) → e.session ≢ j → length (calls_of j (h ++ e ∷ [])) ≡ length (calls_of j h)
  count-other j h e isnt = let t = ap (λ (b : Bool). length {A = (Answered C R)} (cond b (record { place = length h; call = e.call; reply = e.reply } ∷ []) [])) (ne_eqb e.session j isnt) in
      omega (arith, count-push j h e, t)

module _ {C : Type 0} where
  -- 1 if a call is opened, else 0.
  abbrev one_if : Option C → ℕ
  one_if o = cond (is_some o) 1 0

module _ {O C R : Type 0} (obj : Ghosts O C R) where
  -- The combiner after it answered the call of record w.
  abbrev pub answered : TicketView C R → ℕ → R → TicketView C R
  answered t w reply = record t { front = t.front ++ entry w (asked_at obj t w) reply ∷ []; opened = set t.opened w None; entered = t.entered ++ length t.front ∷ [] }

module _ {O C R : Type 0} (obj : Ghosts O C R) where
  -- An answer moves a call from the opened ones into the history.
  pub calls-answer : (t : TicketView C R) (w : ℕ) (reply : R) (call : C) → opened_at t w ≡ Some call → KeepsCalls t (answered obj t w reply)
  calls-answer t w reply call shown count j was = let e = entry w (asked_at obj t w) reply in dite (ℕ_discrete j w)
      (λ is. let before : count ≤ length (calls_of j t.front) + 1 = subst (λ (o : Option C). count ≤ length (calls_of j t.front) + one_if o) (ap (λ (v : ℕ). opened_at t v) is ∙ shown) was in
      omega (arith, before, count-own j t.front e (sym is)))
      (λ isnt. let same : ◌≡◌ {A = ℕ} (one_if (opened_at (answered obj t w reply) j)) (one_if (opened_at t j)) = ap one_if (get_or-set_other t.opened w j None None isnt) in
      omega (arith, was, same, count-other j t.front e (λ is. isnt (sym is))))

module _ {C R : Type 0} where
  -- A visited record stays visited.
  pub visited-later : (t u : TicketView C R) (j : ℕ) → KeepsCalls t u → IsSameSession t u → IsVisited j t → IsVisited j u
  visited-later t u j keeps same v = record {
    heard = subst (λ (n : ℕ). HasCalls n j u) (sym (ap (λ (x : TicketView C R). heard_from x j) same.same)) (keeps (heard_from t j) j v.heard);
    own = λ mine waits. subst (λ (n : ℕ). HasCalls n j u) (sym (ap published_by same.same))
        (keeps (published_by t) j (v.own (sym (ap (λ (x : TicketView C R). x.number) same.same) ∙ mine) (λ none. waits (ap (λ (x : TicketView C R). x.pending) same.same ∙ none))));
  }

  -- `KeepsCalls` is transitive.
  pub keeps-trans : (t u v : TicketView C R) → KeepsCalls t u → KeepsCalls u v → KeepsCalls t v
  keeps-trans t u v first later count j was = later count j (first count j was)
