-- A mode granted later is compatible with one granted earlier.
use Rattle.std.proofs.Common.{◌≡◌, ◌≢◌, ℕ, ◌<◌, ltb, ◌&&◌, ◌⊎◌, inl, inr, List, [], ◌∷◌, ◌++◌, length, Option, Some, None, refl, sym, ◌∙◌, ap, subst, arith}
use Rattle.std.proofs.lemmas.Bool.Decides.{nat_tests}
use Rattle.std.proofs.lemmas.Bool.{and_parts, and_from, cases_Bool}
use Rattle.lock_modes.specs.declared.Mode.{Mode}
use Rattle.lock_modes.specs.Order.{at_or_below}
use Rattle.lock_modes.proofs.Order.{at_or_below-refl, at_or_below-antisym}
use Rattle.lock_modes.proofs.Compatibility.{compatible-from}
use Rattle.lock_rules.specs.Entries.{Entry}
use Rattle.lock_rules.specs.State.{State, held_mode}
use Rattle.lock_rules.specs.Legal.{state_of}
use Rattle.lock_rules.proofs.Histories.{state_of-push}
use Rattle.lock_rules.proofs.Alters.{true≢false}
use Rattle.lock_rules.proofs.Lists.{other}
use Rattle.lock_rules.proofs.States.{holders-compatible}
use Rattle.lock_rules.proofs.Steps.{state-lawful}
use Rattle.lock_laws.specs.Grants.{IsGrantedAt, DoLaterGrantsFit, DoGrantsOfOneEntryGoTogether, AreGrantsAtOnePlace, AreHoldersGranted}
use Rattle.lock_laws.proofs.InOrder.{step-fits}

-- appending entries is associative
append-assoc : (xs ys zs : List Entry) → (xs ++ ys) ++ zs ≡ xs ++ (ys ++ zs)
append-assoc [] ys zs = refl
append-assoc (x ∷ xs) ys zs = ap (λ (es : List Entry). x ∷ es) (append-assoc xs ys zs)

-- what lies between an earlier and a later place of one history
record IsBetween (xs ys : List Entry) (x : Entry) (cs bs : List Entry) : Type 0 where
  between : List Entry
  later : ys ≡ xs ++ x ∷ between
  rest : cs ≡ between ++ bs

-- of two ways to split a history, the shorter front begins the longer one
between-places : (xs ys : List Entry) (x : Entry) (cs bs : List Entry) → xs ++ x ∷ cs ≡ ys ++ bs → length xs < length ys → IsBetween xs ys x cs bs
between-places xs [] x cs bs e l = absurd (omega arith)
between-places [] (y ∷ ys) x cs bs e l =
    let head : x ≡ y = cc in
    let tail : cs ≡ ys ++ bs = cc in
    record { between = ys; later = ap (λ (z : Entry). z ∷ ys) (sym head); rest = tail }
between-places (z ∷ xs) (y ∷ ys) x cs bs e l =
    let head : z ≡ y = cc in
    let tail : xs ++ x ∷ cs ≡ ys ++ bs = cc in
    let b = between-places xs ys x cs bs tail (omega (arith, l)) in
    record { between = b.between; later = ap (λ (w : Entry). w ∷ ys) (sym head) ∙ ap (λ (es : List Entry). z ∷ es) b.later; rest = b.rest }

-- a mode granted at a later place is compatible with one granted before, as the law states it
pub later-fits : (es : List Entry) → DoLaterGrantsFit es
later-fits es s u p q r k l n g h less =
    let b = between-places g.before h.before g.entry g.since (h.entry ∷ h.since) (sym g.history ∙ h.history) (omega (arith, less, g.at_place, h.at_place)) in
    let before : held_mode (state_of h.before).table s r ≡ Some k = ap (λ (xs : List Entry). held_mode (state_of xs).table s r) b.later ∙ g.held_since b.between (h.entry ∷ h.since) b.rest in
    let push : h.before ++ h.entry ∷ [] ≡ g.before ++ g.entry ∷ (b.between ++ h.entry ∷ [])
    = ap (λ (xs : List Entry). xs ++ h.entry ∷ []) b.later ∙ append-assoc g.before (g.entry ∷ b.between) (h.entry ∷ []) in
    let after : held_mode (state_of (h.before ++ h.entry ∷ [])).table s r ≡ Some k
    = ap (λ (xs : List Entry). held_mode (state_of xs).table s r) push ∙ g.held_since (b.between ++ h.entry ∷ []) h.since (b.rest ∙ sym (append-assoc b.between (h.entry ∷ []) h.since)) in
    let stepped = state_of-push h.before h.entry in
    let fit = step-fits (state_of h.before) h.entry.session h.entry.call (state-lawful h.before).sound s u r k l (other u s n) before
    (ap (λ (st : State). held_mode st.table s r) (sym stepped) ∙ after)
    (ap (λ (st : State). held_mode st.table u r) (sym stepped) ∙ h.held_since [] h.since refl) in
    elim fit [ inl had ↦ absurd (h.not_before had) | inr c ↦ compatible-from l k c ]

-- no place grants a session a mode that an earlier place has granted it
never-again : (es : List Entry) (p q s : ℕ) (r : List ℕ) (k : Mode) → IsGrantedAt es p s r k → IsGrantedAt es q s r k → p < q → ⊥
never-again es p q s r k g h less =
    let b = between-places g.before h.before g.entry g.since (h.entry ∷ h.since) (sym g.history ∙ h.history) (omega (arith, less, g.at_place, h.at_place)) in
    h.not_before (ap (λ (xs : List Entry). held_mode (state_of xs).table s r) b.later ∙ g.held_since b.between (h.entry ∷ h.since) b.rest)

-- a session was granted a mode at one place, as the law states it
pub one-place : (es : List Entry) → AreGrantsAtOnePlace es
one-place es s p q r k g h = elim (cases_Bool (ltb p q)) [
  | inl e ↦ absurd (never-again es p q s r k g h (grind (arith, nat_tests)))
  | inr e ↦ elim (cases_Bool (ltb q p)) [ inl f ↦ absurd (never-again es q p s r k h g (grind (arith, nat_tests))) | inr f ↦ grind (arith, nat_tests) ]
]

-- everybody who holds a resource was granted it

-- appending nothing changes nothing
append-nil : (xs : List Entry) → xs ++ [] ≡ xs
append-nil [] = refl
append-nil (x ∷ xs) = ap (λ (es : List Entry). x ∷ es) (append-nil xs)

-- a session holds a resource in this mode, or doesn't
decide : (o : Option Mode) (k : Mode) → (o ≡ Some k) ⊎ (o ≢ Some k)
decide None k = inr (λ e. absurd (cc))
decide (Some m) k = elim (cases_Bool (at_or_below m k && at_or_below k m)) [
  | inl e ↦ let p = and_parts (at_or_below m k) (at_or_below k m) e in inl (ap (λ (x : Mode). Some x) (at_or_below-antisym m k p.0 p.1))
  | inr e ↦ inr (λ f. let same = mode f in true≢false (and_from (at_or_below m m) (at_or_below m m) (at_or_below-refl m) (at_or_below-refl m)) (ap (λ (x : Mode). at_or_below m x && at_or_below x m) same ∙ e))
]
  where
    mode : Some m ≡ Some k → m ≡ k
    mode h = cc

-- a front of a list with one more entry is the whole, or a front of the list
front-push : (xs : List Entry) (e : Entry) (front rest : List Entry) → xs ++ e ∷ [] ≡ front ++ rest → (front ≡ xs ++ e ∷ []) ⊎ ((more : List Entry) × (xs ≡ front ++ more))
front-push [] e [] rest h = inr ([], refl)
front-push [] e (f ∷ []) rest h = let head : e ≡ f = cc in inl (ap (λ (x : Entry). x ∷ []) (sym head))
front-push [] e (f ∷ g ∷ front) rest h = absurd (cc)
front-push (x ∷ xs) e [] rest h = inr (x ∷ xs, refl)
front-push (x ∷ xs) e (f ∷ front) rest h =
    let head : x ≡ f = cc in
    let tail : xs ++ e ∷ [] ≡ front ++ rest = cc in
    elim (front-push xs e front rest tail) [
      | inl k ↦ inl (ap (λ (y : Entry). y ∷ front) (sym head) ∙ ap (λ (ys : List Entry). x ∷ ys) k)
      | inr k ↦ inr (k.0, ap (λ (ys : List Entry). x ∷ ys) k.1 ∙ ap (λ (y : Entry). y ∷ (front ++ k.0)) head)
    ]

module _ (s : ℕ) (r : List ℕ) (k : Mode) where
  -- if the session holds r in mode k after these entries, one of them granted it
  abbrev HasGrant : List Entry → Type 0
  HasGrant es = held_mode (state_of es).table s r ≡ Some k → (place : ℕ) × IsGrantedAt es place s r k

  -- one more entry leaves that so
  push-granted : (es : List Entry) (e : Entry) → HasGrant es → HasGrant (es ++ e ∷ [])
  push-granted es e old now = elim (decide (held_mode (state_of es).table s r) k) [
    | inr other_mode ↦ (length es, record { before = es; entry = e; since = []; history = refl; at_place = refl; not_before = other_mode; held_since = new })
    | inl had ↦
        let w = old had in
        let g = w.1 in
        let history : es ++ e ∷ [] ≡ g.before ++ g.entry ∷ (g.since ++ e ∷ []) = ap (λ (xs : List Entry). xs ++ e ∷ []) g.history ∙ append-assoc g.before (g.entry ∷ g.since) (e ∷ []) in (
          w.0,
          record {
            before = g.before;
            entry = g.entry;
            since = g.since ++ e ∷ [];
            history = history;
            at_place = g.at_place;
            not_before = g.not_before;
            held_since = λ front rest h. elim (front-push g.since e front rest h) [
              | inl whole ↦ ap (λ (xs : List Entry). held_mode (state_of (g.before ++ g.entry ∷ xs)).table s r) whole ∙ (ap (λ (xs : List Entry). held_mode (state_of xs).table s r) (sym history) ∙ now)
              | inr more ↦ g.held_since front more.0 more.1
            ];
          },
        )
  ]
    where
      new : (front rest : List Entry) → [] ≡ front ++ rest → held_mode (state_of (es ++ e ∷ front)).table s r ≡ Some k
      new [] rest h = now
      new (f ∷ front) rest h = absurd (cc)

  -- and so do more entries
  all-granted : (rest front : List Entry) → HasGrant front → HasGrant (front ++ rest)
  all-granted [] front h = subst HasGrant (sym (append-nil front)) h
  all-granted (e ∷ rest) front h = subst HasGrant (append-assoc front (e ∷ []) rest) (all-granted rest (front ++ e ∷ []) (push-granted front e h))

  -- the empty history grants nothing, and nobody holds anything after it
  some-grant : (es : List Entry) → HasGrant es
  some-grant es = all-granted es [] (λ e. absurd (cc))

-- each holder was granted its mode at some place, as the law states it
pub holders-granted : (es : List Entry) → AreHoldersGranted es
holders-granted es s r k = some-grant s r k es

-- two holders that were granted their modes at one place have compatible modes, as any two holders do
pub same-place : (es : List Entry) → DoGrantsOfOneEntryGoTogether es
same-place es s u p r k l n g h = holders-compatible (state_of es) (state-lawful es).sound s u r k l n (now s k g) (now u l h)
  where
    now : (v : ℕ) (m : Mode) → IsGrantedAt es p v r m → held_mode (state_of es).table v r ≡ Some m
    now v m a = ap (λ (xs : List Entry). held_mode (state_of xs).table v r) a.history ∙ a.held_since a.since [] (sym (append-nil a.since))
