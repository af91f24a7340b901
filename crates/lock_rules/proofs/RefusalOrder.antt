-- The tests of a call are made in the order of their refusals' numbers, so the first that fails has the lowest.
use Rattle.std.proofs.Common.{◌≡◌, ◌<◌, ◌≤◌, ◌⊎◌, inl, inr, List, [], ◌∷◌, ◌++◌, Option, Some, None, refl, sym, ap, arith, subst, Contains}
use Rattle.std.specs.List.{All}
use Rattle.std.proofs.lemmas.List.Elements.{All-head, All-tail, All-nil, All-cons}
use Rattle.lock_modes.specs.declared.Mode.{Mode}
use Rattle.lock_rules.specs.declared.calls.Call.{Call}
use Rattle.lock_rules.specs.declared.calls.Call.TheVariants.{Begin, Lock, Convert, Poll, Release, Commit, Abort, Try, Withdraw, Restart}
use Rattle.lock_rules.specs.declared.calls.Why.{Why}
use Rattle.lock_rules.specs.declared.calls.Why.TheVariants.{TooManyLocks}
use Rattle.lock_rules.specs.State.{State, held_mode}
use Rattle.lock_rules.specs.Laws.{AreLocksBounded}
use Rattle.lock_rules.specs.Kinds.{number_of_why}
use Rattle.lock_rules.specs.Refusals.{Fails, refusals_of, AreNumbersRising, DoTestsGiveRefusals, IsFirstToFail, IsLowestToFail, AreRefusalsLowest, AreConversionsUnbounded}
use Rattle.sequential.proofs.Members.{Member, contains-member, member-contains}
use Rattle.lock_rules.proofs.Refusals.{refusals-meant}

-- the numbers of the refusals that a call can get rise
pub refusals-rise : (c : Call) → AreNumbersRising (refusals_of c)
refusals-rise Begin = tt
refusals-rise (Lock r m) = (omega arith, (omega arith, (omega arith, (omega arith, (omega arith, tt)))))
refusals-rise (Convert r m) = (omega arith, (omega arith, (omega arith, (omega arith, (omega arith, tt)))))
refusals-rise Poll = tt
refusals-rise (Release r) = (omega arith, (omega arith, (omega arith, (omega arith, tt))))
refusals-rise Commit = (omega arith, (omega arith, tt))
refusals-rise Abort = tt
refusals-rise (Try r m) = (omega arith, (omega arith, (omega arith, (omega arith, (omega arith, (omega arith, tt))))))
refusals-rise Withdraw = (omega arith, (omega arith, tt))
refusals-rise Restart = tt

-- the tests of a call give the refusals that the call can get
pub tests-give : (st : State) → DoTestsGiveRefusals st
tests-give st s Begin = refl
tests-give st s (Lock r m) = refl
tests-give st s (Convert r m) = refl
tests-give st s Poll = refl
tests-give st s (Release r) = refl
tests-give st s Commit = refl
tests-give st s Abort = refl
tests-give st s (Try r m) = refl
tests-give st s Withdraw = refl
tests-give st s Restart = refl

-- rising numbers

-- a list whose numbers rise does so without its head
rising-tail : (v : Why) (ws : List Why) → AreNumbersRising (v ∷ ws) → AreNumbersRising ws
rising-tail v [] r = tt
rising-tail v (w ∷ ws) r = r.1

-- the head of a list whose numbers rise has the lowest
rising-below : (v : Why) (ws : List Why) → AreNumbersRising (v ∷ ws) → (w : Why) → Member w ws → number_of_why v < number_of_why w
rising-below v [] r w m = absurd m
rising-below v (x ∷ ws) r w m = elim m [
  | inl e ↦ subst (λ (y : Why). number_of_why v < number_of_why y) e r.0
  | inr i ↦ let n = rising-below x ws r.1 w i in omega (arith, r.0, n)
]

-- what follows a front of such a list rises too
rising-rest : (before after : List Why) → AreNumbersRising (before ++ after) → AreNumbersRising after
rising-rest [] after r = r
rising-rest (b ∷ before) after r = rising-rest before after (rising-tail b (before ++ after) r)

-- members

-- a member behind a front
member-behind : (before after : List Why) (why : Why) → Member why (before ++ why ∷ after)
member-behind [] after why = inl refl
member-behind (b ∷ before) after why = inr (member-behind before after why)

-- a member of a concatenation is in front, in the middle or behind
member-where : (before after : List Why) (why w : Why) → Member w (before ++ why ∷ after) → Member w before ⊎ ((why ≡ w) ⊎ Member w after)
member-where [] after why w m = inr m
member-where (b ∷ before) after why w m = elim m [
  | inl e ↦ inl (inl e)
  | inr i ↦ elim (member-where before after why w i) [ inl f ↦ inl (inr f) | inr g ↦ inr g ]
]

-- a list is split before a member
member-split : (w : Why) (ws : List Why) → Member w ws → (before after : List Why) × (ws ≡ before ++ w ∷ after)
member-split w [] m = absurd m
member-split w (v ∷ ws) m = elim m [
  | inl e ↦ ([], ws, ap (λ (x : Why). x ∷ ws) e)
  | inr i ↦ let p = member-split w ws i in (v ∷ p.0, p.1, ap (λ (xs : List Why). v ∷ xs) p.2)
]

-- what holds of all holds of each member
all-member : (P : Why → Type 0) (ws : List Why) → All P ws → (w : Why) → Member w ws → P w
all-member P [] a w m = absurd m
all-member P (v ∷ ws) a w m = elim m [
  | inl e ↦ subst P e (All-head P v ws a)
  | inr i ↦ all-member P ws (All-tail P v ws a) w i
]

-- what holds of each member holds of all
member-all : (P : Why → Type 0) (ws : List Why) → ((w : Why) → Member w ws → P w) → All P ws
member-all P [] h = All-nil P
member-all P (v ∷ ws) h = All-cons P v ws (h v (inl refl)) (member-all P ws (λ w m. h w (inr m)))

-- the numbers before an item of a list whose numbers rise are lower
rising-before : (before after : List Why) (why : Why) → AreNumbersRising (before ++ why ∷ after) → (w : Why) → Member w before → number_of_why w < number_of_why why
rising-before [] after why r w m = absurd m
rising-before (b ∷ before) after why r w m = elim m [
  | inl e ↦ subst (λ (y : Why). number_of_why y < number_of_why why) e (rising-below b (before ++ why ∷ after) r why (member-behind before after why))
  | inr i ↦ rising-before before after why (rising-tail b (before ++ why ∷ after) r) w i
]

-- the first of a list whose numbers rise

-- F holds of w, which is in the list
abbrev IsOneOf : (Why → Type 0) → List Why → Why → Type 0
IsOneOf F ws w = Contains ws w × F w

-- the first refusal of the list of which F holds has the lowest number of those
first-lowest : (F : Why → Type 0) (before after : List Why) (why : Why) → AreNumbersRising (before ++ why ∷ after) → All (λ w. F w → ⊥) before
    → (w : Why) → IsOneOf F (before ++ why ∷ after) w → number_of_why why ≤ number_of_why w
first-lowest F before after why r n w o = elim (member-where before after why w (contains-member w (before ++ why ∷ after) o.0)) [
  | inl m ↦ absurd (all-member (λ (x : Why). F x → ⊥) before n w m o.1)
  | inr g ↦ elim g [
    | inl e ↦ subst (λ (y : Why). number_of_why why ≤ number_of_why y) e (omega arith)
    | inr m ↦ let l = rising-below why after (rising-rest before (why ∷ after) r) w m in omega (arith, l)
  ]
]

-- of no refusal before the lowest does F hold
lowest-first : (F : Why → Type 0) (before after : List Why) (why : Why) → AreNumbersRising (before ++ why ∷ after)
    → ((w : Why) → IsOneOf F (before ++ why ∷ after) w → number_of_why why ≤ number_of_why w) → All (λ w. F w → ⊥) before
lowest-first F before after why r least = member-all (λ (x : Why). F x → ⊥) before (λ w m f.
    let l = least w (member-contains w (before ++ why ∷ after) (front before after why w m), f) in
    let n = rising-before before after why r w m in
    absurd (omega (arith, l, n)))
  where
    front : (before after : List Why) (why w : Why) → Member w before → Member w (before ++ why ∷ after)
    front [] after why w m = absurd m
    front (b ∷ before) after why w m = elim m [ inl e ↦ inl e | inr i ↦ inr (front before after why w i) ]

-- the laws

-- a call is refused for a reason exactly if, of its tests that fail, that of the reason has the lowest number
pub refusals-lowest : (st : State) → AreLocksBounded st → AreRefusalsLowest st
refusals-lowest st few s c why = (λ h. to ((refusals-meant st few s c why).0 h), λ h. (refusals-meant st few s c why).1 (from h))
  where
    to : IsFirstToFail st s c why → IsLowestToFail st s c why
    to h =
        let r = subst AreNumbersRising h.2 (refusals-rise c) in (
          (subst (λ (ws : List Why). Contains ws why) (sym h.2) (member-contains why (h.0 ++ why ∷ h.1) (member-behind h.0 h.1 why)), h.3),
          λ w o. first-lowest (Fails st s c) h.0 h.1 why r h.4 w (subst (λ (ws : List Why). Contains ws w) h.2 o.0, o.1),
        )

    from : IsLowestToFail st s c why → IsFirstToFail st s c why
    from h =
        let p = member-split why (refusals_of c) (contains-member why (refusals_of c) h.0.0) in
        let r = subst AreNumbersRising p.2 (refusals-rise c) in (
          p.0,
          p.1,
          p.2,
          h.0.1,
          lowest-first (Fails st s c) p.0 p.1 why r (λ w o. h.1 w (subst (λ (ws : List Why). Contains ws w) (sym p.2) o.0, o.1)),
        )

-- a request for a resource that the session holds is never refused with TooManyLocks
pub conversions-unbounded : (st : State) → AreLocksBounded st → AreConversionsUnbounded st
conversions-unbounded st few s r m k e = (
  λ h. let f = (refusals-meant st few s (Lock r m) TooManyLocks).0 h in unlike (held_mode st.table s r) k e f.3.0,
  λ h. let f = (refusals-meant st few s (Convert r m) TooManyLocks).0 h in f.3,
)
  where
    unlike : (o : Option Mode) (k : Mode) → o ≡ Some k → o ≡ None → ⊥
    unlike o k e f = cc
