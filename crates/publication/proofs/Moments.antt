-- What sessions note of events, and one event more.
use Rattle.std.proofs.Common.{◌≡◌, ◌≢◌, ℕ, suc, ◌+◌, Bool, cond, eqb, Option, Some, None, List, [], ◌∷◌, ◌++◌, length, refl, ap, ◌∙◌, arith, eq-eqb, ne_eqb, append-nil}
use Rattle.sequential.specs.Linearizable.{Event, invocation, response, Calls, after_response, after_event, after_events, calls_in}
use Rattle.sequential.proofs.SessionCalls.{same-append}
use Rattle.publication.specs.Moments.{session_of, noted_from, noted_by}

module _ {C R : Type 0} where
  pub noted-append : (i at : ℕ) (xs ys : List (Event C R)) → noted_from i at (xs ++ ys) ≡ noted_from i at xs ++ noted_from i (at + length xs) ys
  noted-append i at [] ys = let z : at ≡ at + 0 = omega arith in ap (λ (p : ℕ). noted_from i p ys) z
  noted-append i at (e ∷ xs) ys =
      let n : at + 1 + length xs ≡ at + suc (length xs) = omega arith in
      let next : noted_from i (at + 1) (xs ++ ys) ≡ noted_from i (at + 1) xs ++ noted_from i (at + suc (length xs)) ys
      = noted-append i (at + 1) xs ys ∙ ap (λ (p : ℕ). noted_from i (at + 1) xs ++ noted_from i p ys) n in
      ap (λ (l : List (ℕ × Event C R)). cond (eqb (session_of e) i) ((at, e) ∷ l) l) next
      ∙ same-append (eqb (session_of e) i) (at, e) (noted_from i (at + 1) xs) (noted_from i (at + suc (length xs)) ys)

  -- The session's own event is noted, with the number of events before it.
  pub noted-mine : (i : ℕ) (es : List (Event C R)) (e : Event C R) → session_of e ≡ i → noted_by i (es ++ e ∷ []) ≡ noted_by i es ++ (length es, e) ∷ []
  noted-mine i es e is = noted-append i 0 es (e ∷ []) ∙ (ap (λ (b : Bool). noted_by i es ++ cond b ((0 + length es, e) ∷ []) []) (eq-eqb (session_of e) i is)
      ∙ (let z : 0 + length es ≡ length es = omega arith in ap (λ (p : ℕ). noted_by i es ++ (p, e) ∷ []) z))

  -- An event of another is not.
  pub noted-other : (i : ℕ) (es : List (Event C R)) (e : Event C R) → session_of e ≢ i → noted_by i (es ++ e ∷ []) ≡ noted_by i es
  noted-other i es e ne = noted-append i 0 es (e ∷ []) ∙ (ap (λ (b : Bool). noted_by i es ++ cond b ((0 + length es, e) ∷ []) []) (ne_eqb (session_of e) i ne) ∙ append-nil (noted_by i es))

  after-push : (i : ℕ) (d : Calls C R) (es : List (Event C R)) (e : Event C R) → after_events i d (es ++ e ∷ []) ≡ after_event i (after_events i d es) e
  after-push i d [] e = refl
  after-push i d (x ∷ es) e = after-push i (after_event i d x) es e

  -- The calls of other sessions are as before.
  pub calls-other : (i : ℕ) (es : List (Event C R)) (e : Event C R) → session_of e ≢ i → calls_in i (es ++ e ∷ []) ≡ calls_in i es
  calls-other i es (invocation j call) ne = after-push i (record { returned = []; pending = None }) es (invocation j call)
      ∙ ap (λ (b : Bool). cond b (record { returned = (calls_in i es).returned; pending = Some call }) (calls_in i es)) (ne_eqb j i ne)
  calls-other i es (response j reply) ne = after-push i (record { returned = []; pending = None }) es (response j reply)
      ∙ ap (λ (b : Bool). cond b (after_response reply (calls_in i es)) (calls_in i es)) (ne_eqb j i ne)

  -- A call is made.
  pub calls-made : (i : ℕ) (es : List (Event C R)) (call : C) → calls_in i (es ++ invocation i call ∷ []) ≡ record { returned = (calls_in i es).returned; pending = Some call }
  calls-made i es call = after-push i (record { returned = []; pending = None }) es (invocation i call)
      ∙ ap (λ (b : Bool). cond b (record { returned = (calls_in i es).returned; pending = Some call }) (calls_in i es)) (eq-eqb i i refl)

  responded : (returned : List (C × R)) (pending : Option C) (call : C) (reply : R) → pending ≡ Some call
      → after_response reply (record { returned = returned; pending = pending }) ≡ record { returned = returned ++ (call, reply) ∷ []; pending = None }
  responded returned None call reply e = absurd (cc e)
  responded returned (Some c) call reply e = let f : c ≡ call = cc e in ap {B = Calls C R} (λ (x : C). record { returned = returned ++ (x, reply) ∷ []; pending = None }) f

  -- A call returns.
  pub calls-returned : (i : ℕ) (es : List (Event C R)) (call : C) (reply : R) → (calls_in i es).pending ≡ Some call
      → calls_in i (es ++ response i reply ∷ []) ≡ record { returned = (calls_in i es).returned ++ (call, reply) ∷ []; pending = None }
  calls-returned i es call reply is = after-push i (record { returned = []; pending = None }) es (response i reply)
      ∙ (ap (λ (b : Bool). cond b (after_response reply (calls_in i es)) (calls_in i es)) (eq-eqb i i refl)
      ∙ responded (calls_in i es).returned (calls_in i es).pending call reply is)
