-- Which calls of a session the histories that it knows have: those that it collected, or those and its pending call.
use Rattle.std.proofs.Common.{◌≡◌, ◌≢◌, inl, inr, ◌⊎◌, ℕ, ◌+◌, ◌<◌, true, false, cond, eqb, Option, List, [], ◌∷◌, ◌++◌, length, refl, sym, ap, subst, ◌∙◌, arith, append-nil, length-append}
use mathlib.Core.Option as opt
use mathlib.Core.List.{IsPrefix}
use lib.ListN.{get_elem?}
use Rattle.sequential.specs.declared.entry.Entry.{Entry}
use Rattle.sequential.specs.Histories.{Answered, calls_from, calls_of}
use Rattle.publication.specs.Views.{Pending, Own, IsAccountedIn, answer}
use Rattle.publication.specs.Rule.{BoardState, word, home, own_at, RecordState, IsOrderly}
use Rattle.publication.specs.Rule.RecordState.{vacant, posted, busy, served, retired}
use Rattle.publication.specs.declared.view.View.{View}
use Rattle.publication.specs.declared.slot.SlotValue.{SlotValue}
use Rattle.publication.proofs.SeatViews.{session_of}
use Rattle.sequential.specs.declared.object.Sequential.{Ghosts}

module _ {O C R : Type 0} where
  -- A record's state says which calls of its session the history has.
  pub account-of : (h : List (Entry C R)) (i w : ℕ) (at : opt.Option (SlotValue O C R)) (o : Own C R) → RecordState h i w at o → IsAccountedIn h i o.collected o.pending
  account-of h i w at o (vacant v) = inl v.calls
  account-of h i w at o (posted call floor v) = inl v.calls
  account-of h i w at o (busy call floor v) = inl v.calls
  account-of h i w at o (served call floor place reply v) = inr (call, floor, place, reply, v.some, v.late, v.calls)
  account-of h i w at o (retired v) = inl v.calls

module _ {O C R : Type 0} {obj : Ghosts O C R} where
  -- Whatever a session's seat knows, the whole history accounts for the session's calls.
  pub account-whole : (s : BoardState O C R) (o : IsOrderly obj s) (k : ℕ) (v : View C R) → get_elem? s.views k ≡ opt.some v → 0 < k → v.number ≢ 0 → IsAccountedIn o.history v.number v.own.collected v.own.pending
  account-whole s o k v me some lives =
      let t = session_of s o k v me lives in
      subst (λ (n : ℕ). IsAccountedIn o.history n v.own.collected v.own.pending) (sym t.is)
      (subst (λ (w : Own C R). IsAccountedIn o.history k w.collected w.pending) (sym t.own_is) (account-of o.history k (word s k) (home s k) (own_at o.owns k) (o.stands k some t.small)))

module _ {C R : Type 0} where
  -- Only the session's calls in a history count.
  pub account-same : (i : ℕ) (g h : List (Entry C R)) (collected : List (Answered C R)) (pending : Option (Pending C)) → calls_of i h ≡ calls_of i g → IsAccountedIn g i collected pending → IsAccountedIn h i collected pending
  account-same i g h collected pending e (inl d) = inl (e ∙ d)
  account-same i g h collected pending e (inr d) = inr (d.0, d.1, d.2, d.3, d.4, d.5, e ∙ d.6)

  -- Fronts.

  -- The call of an entry, as answered at this place.
  abbrev at : ℕ → Entry C R → Answered C R
  at place e = answer place e.call e.reply

  calls-append : (i k : ℕ) (f r : List (Entry C R)) → (more : List (Answered C R)) × (calls_from i k (f ++ r) ≡ calls_from i k f ++ more)
  calls-append i k [] r = (calls_from i k r, refl)
  calls-append i k (x ∷ xs) r =
      let t = calls-append i (k + 1) xs r in (
        t.0,
        (elim (eqb x.session i) as (λ b. cond b (at k x ∷ calls_from i (k + 1) (xs ++ r)) (calls_from i (k + 1) (xs ++ r)) ≡ cond b (at k x ∷ calls_from i (k + 1) xs) (calls_from i (k + 1) xs) ++ t.0)
            [ true ↦ ap (λ (l : List (Answered C R)). at k x ∷ l) t.1 | false ↦ t.1 ]),
      )

  -- The calls of a session in a front of a history begin its calls in the history.
  calls-begin : (i : ℕ) (f h : List (Entry C R)) → IsPrefix f h → (more : List (Answered C R)) × (calls_of i h ≡ calls_of i f ++ more)
  calls-begin i f h p = let t = calls-append i 0 f p.0 in (t.0, ap (calls_of i) (sym p.1) ∙ t.1)

  -- Lists between a list and the same list with one element more.

  both-empty : (xs ys : List (Answered C R)) → xs ++ ys ≡ [] → xs ≡ []
  both-empty [] ys e = refl
  both-empty (x ∷ xs) ys e = absurd (cc e)

  none-more : (c xs ys : List (Answered C R)) → c ≡ (c ++ xs) ++ ys → xs ≡ []
  none-more [] xs ys e = both-empty xs ys (sym e)
  none-more (x ∷ c) xs ys e = none-more c xs ys (cc e)

  one-more : (c xs ys : List (Answered C R)) (a : Answered C R) → c ++ a ∷ [] ≡ (c ++ xs) ++ ys → (xs ≡ []) ⊎ (xs ≡ a ∷ [])
  one-more [] [] ys a e = inl refl
  one-more [] (x ∷ xs) ys a e =
      let same : a ≡ x = cc e in
      let rest : xs ++ ys ≡ [] = cc e in
      inr (ap (λ (l : List (Answered C R)). x ∷ l) (both-empty xs ys rest) ∙ ap (λ (z : Answered C R). z ∷ []) (sym same))
  one-more (x ∷ c) xs ys a e = one-more c xs ys a (cc e)

  -- A front of a history that continues a front in which the session's calls are accounted for accounts for them, too.
  pub account-between : (i : ℕ) (f g h : List (Entry C R)) (collected : List (Answered C R)) (pending : Option (Pending C)) → IsPrefix f g → IsPrefix g h
      → IsAccountedIn f i collected pending → IsAccountedIn h i collected pending → IsAccountedIn g i collected pending
  account-between i f g h collected pending p q a b = go a b
    where
      first : (more : List (Answered C R)) × (calls_of i g ≡ calls_of i f ++ more)
      first = calls-begin i f g p

      last : (more : List (Answered C R)) × (calls_of i h ≡ calls_of i g ++ more)
      last = calls-begin i g h q

      lengths : length (calls_of i h) ≡ length (calls_of i f) + length first.0 + length last.0
      lengths = ap (λ (l : List (Answered C R)). length l) last.1 ∙ (length-append (calls_of i g) last.0
          ∙ ap (λ (n : ℕ). n + length last.0) (ap (λ (l : List (Answered C R)). length l) first.1 ∙ length-append (calls_of i f) first.0))

      as-before : first.0 ≡ [] → calls_of i g ≡ calls_of i f
      as-before none = first.1 ∙ (ap (λ (l : List (Answered C R)). calls_of i f ++ l) none ∙ append-nil (calls_of i f))

      -- the history's calls, by the calls collected, if the front has those
      from : calls_of i f ≡ collected → calls_of i h ≡ (collected ++ first.0) ++ last.0
      from e = last.1 ∙ ap (λ (l : List (Answered C R)). l ++ last.0) (first.1 ∙ ap (λ (l : List (Answered C R)). l ++ first.0) e)

      go : IsAccountedIn f i collected pending → IsAccountedIn h i collected pending → IsAccountedIn g i collected pending
      go (inl e) (inl d) = inl (as-before (none-more collected first.0 last.0 (sym d ∙ from e)) ∙ e)
      go (inl e) (inr d) =
          let x : Answered C R = answer d.2 d.0 d.3 in
          elim (one-more collected first.0 last.0 x (sym d.6 ∙ from e)) [
            | inl none ↦ inl (as-before none ∙ e)
            | inr one ↦ inr (d.0, d.1, d.2, d.3, d.4, d.5, first.1 ∙ (ap (λ (l : List (Answered C R)). l ++ first.0) e ∙ ap (λ (l : List (Answered C R)). collected ++ l) one))
          ]
      go (inr e) b = inr (e.0, e.1, e.2, e.3, e.4, e.5, as-before (few b) ∙ e.6)
        where
          empty : (xs : List (Answered C R)) → length xs ≡ 0 → xs ≡ []
          empty [] z = refl
          empty (x ∷ xs) z = absurd (omega arith)

          long : length (calls_of i f) ≡ length collected + 1
          long = ap (λ (l : List (Answered C R)). length l) e.6 ∙ length-append collected (answer e.2 e.0 e.3 ∷ [])

          few : IsAccountedIn h i collected pending → first.0 ≡ []
          few (inl d) = empty first.0 (let n = ap (λ (l : List (Answered C R)). length l) d in omega (arith, lengths, long, n))
          few (inr d) = empty first.0 (let n = ap (λ (l : List (Answered C R)). length l) d.6 ∙ length-append collected (answer d.2 d.0 d.3 ∷ []) in omega (arith, lengths, long, n))
