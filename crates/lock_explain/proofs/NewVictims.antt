-- The victims that a call made, by session number and by age.
use Rattle.std.proofs.Common.{◌≡◌, ℕ, zero, suc, ◌+◌, ◌<◌, ◌≤◌, Bool, true, false, cond, not, eqb, ltb, inl, inr, List, [], ◌∷◌, ◌++◌, length, get_or, Option, Some, None, is_some, refl, sym, ◌∙◌, ap, arith}
use Rattle.std.specs.List.{flat_map, range_with_len, IsDistinct, AllByRecursion}
use Rattle.std.specs.List.Sorted.{IsPermutation, IsStrictlySortedBy, IsSortedBy}
use Rattle.std.specs.Cmp.{IsStrictWeakOrder}
use Rattle.std.specs.Ordering.{nat_cmp, is_lt}
use Rattle.std.specs.declared.cmp.Ordering.TheVariants.{Less, Equal, Greater}
use Rattle.std.proofs.lemmas.Bool.{and_parts, cases_Bool}
use Rattle.std.proofs.lemmas.Bool.Decides.{nat_tests, Decides-eqb}
use Rattle.std.proofs.lemmas.List.Concat.{flat_map-cons}
use Rattle.std.proofs.lemmas.List.Elements.{recursion_from_All}
use Rattle.std.proofs.lemmas.Cmp.{nat_cmp_total}
use Rattle.std.proofs.lemmas.List.{get_or_default}
use Rattle.std.proofs.lemmas.List.Sorted.{Contains-permutation, IsPermutation-sym, IsStrictWeakOrder-flip, ranks_by, sorted_far}
use Rattle.std.proofs.lemmas.Map.Keys.{IsDistinct-IsPermutation, apart_from_distinct, ge_from_not_lt}
use Rattle.lock_rules.specs.declared.calls.Transaction.{Transaction}
use Rattle.lock_rules.specs.State.{State, is_open, is_doomed, doomed_in, number_of}
use Rattle.lock_rules.specs.Laws.{AreNumbersDistinct}
use Rattle.sequential.proofs.Members.{Member, contains-member, member-contains}
use Rattle.lock_explain.specs.declared.explanation.Party.{Party}
use Rattle.lock_explain.specs.Waiting.{party_of}
use Rattle.lock_explain.specs.Endings.{is_new_victim, youngest_first, AreNewVictims}
use Rattle.lock_explain.specs.inner.NewVictims.{new_victim, new_victims}

-- members

module _ (before after : State) where
  -- a new victim from session a on, below session b
  pub record IsListed (a b : ℕ) (p : Party) : Type 0 where
    pub from : a ≤ p.session
    pub below : p.session < b
    pub new : is_new_victim before after p.session ≡ true
    pub party : p ≡ party_of after p.session

  -- the list of sessions from a on
  abbrev pub listed : ℕ → ℕ → List Party
  listed a n = flat_map (new_victim before after) (range_with_len a n)

  -- the list is that of the first session and the rest
  listed-first : (a n : ℕ) → listed a (suc n) ≡ new_victim before after a ++ listed (a + 1) n
  listed-first a n = flat_map-cons (new_victim before after) a (range_with_len (a + 1) n)

  -- each member is a new victim
  pub member-listed : (a n : ℕ) (p : Party) → Member p (listed a n) → IsListed a (a + n) p
  member-listed a zero p m = absurd m
  member-listed a (suc n) p m = go (λ k. member-listed (a + 1) n p k) (is_new_victim before after a) refl (rw (listed-first a n) at m)
    where
      Rest : Type 0
      Rest = Member p (listed (a + 1) n) → IsListed (a + 1) (a + 1 + n) p

      later : Rest → Member p (listed (a + 1) n) → IsListed a (a + suc n) p
      later rest k = let r = rest k in record { from = omega (arith, r.from); below = omega (arith, r.below); new = r.new; party = r.party }

      go : Rest → (b : Bool) → is_new_victim before after a ≡ b → Member p (cond b (party_of after a ∷ []) [] ++ listed (a + 1) n) → IsListed a (a + suc n) p
      go rest false e k = later rest k
      go rest true e (inl same) = let s : a ≡ p.session = ap (λ (q : Party). q.session) same in record {
        from = omega (arith, s);
        below = omega (arith, s);
        new = ap (is_new_victim before after) (sym s) ∙ e;
        party = sym same ∙ ap (party_of after) s;
      }
      go rest true e (inr k) = later rest k

  -- each new victim is a member
  pub listed-member : (a n : ℕ) (p : Party) → IsListed a (a + n) p → Member p (listed a n)
  listed-member a zero p h = absurd (omega (arith, h.from, h.below))
  listed-member a (suc n) p h = rw (listed-first a n) (go (λ k. listed-member (a + 1) n p k) (is_new_victim before after a) refl)
    where
      Rest : Type 0
      Rest = IsListed (a + 1) (a + 1 + n) p → Member p (listed (a + 1) n)

      later : Rest → eqb a p.session ≡ false → Member p (listed (a + 1) n)
      later rest e = rest (record { from = grind (arith, nat_tests, h.from); below = omega (arith, h.below); new = h.new; party = h.party })

      go : Rest → (b : Bool) → is_new_victim before after a ≡ b → Member p (cond b (party_of after a ∷ []) [] ++ listed (a + 1) n)
      go rest b e = elim (cases_Bool (eqb a p.session)) [
        | inl y ↦ (let s = (Decides-eqb a p.session).0 y in let t : b ≡ true = sym e ∙ (ap (is_new_victim before after) s ∙ h.new) in rw t (inl (ap (party_of after) s ∙ sym h.party)))
        | inr n ↦ add b (later rest n)
      ]
        where
          add : (b : Bool) → Member p (listed (a + 1) n) → Member p (cond b (party_of after a ∷ []) [] ++ listed (a + 1) n)
          add false m = m
          add true m = inr m

-- sessions are apart

-- two parties are of one session
abbrev pub same_session : Party → Party → Bool
same_session p q = eqb p.session q.session

-- in either order
pub same_session-symm : (p q : Party) → same_session p q ≡ same_session q p
same_session-symm p q = grind (arith, nat_tests)

-- what holds of each member holds of each by recursion
of-members : (P : Party → Type 0) (ps : List Party) → ((p : Party) → Member p ps → P p) → AllByRecursion P ps
of-members P [] h = tt
of-members P (p ∷ ps) h = (h p (inl refl), of-members P ps (λ q m. h q (inr m)))

-- the new victims are of different sessions
pub listed-apart : (before after : State) (a n : ℕ) → IsDistinct same_session (listed before after a n)
unfolding IsDistinct
listed-apart before after a zero = tt
listed-apart before after a (suc n) = rw (listed-first before after a n) (add (listed-apart before after (a + 1) n) (is_new_victim before after a))
  where
    add : IsDistinct same_session (listed before after (a + 1) n) → (b : Bool) → IsDistinct same_session (cond b (party_of after a ∷ []) [] ++ listed before after (a + 1) n)
    add rest false = rest
    add rest true = (of-members (λ q. same_session (party_of after a) q ≡ false) (listed before after (a + 1) n) (λ q m. let h = (member-listed before after (a + 1) n q m).from in grind (arith, nat_tests, h)), rest)

-- by age

-- the test whether a party is before another, the youngest first
abbrev pub is_younger : Party → Party → Bool
is_younger p q = is_lt (youngest_first p q)

-- it orders parties
pub younger-orders : IsStrictWeakOrder is_younger
younger-orders = IsStrictWeakOrder-flip (λ (p q : Party). is_lt (nat_cmp p.transaction q.transaction)) (ranks_by nat_cmp_total (λ (p : Party). p.transaction))

-- a list in which each party is before those at later places is strictly sorted
from-places : (ps : List Party) → ((i j : ℕ) (d : Party) → i < j → j < length ps → youngest_first (get_or ps i d) (get_or ps j d) ≡ Less) → IsStrictlySortedBy youngest_first ps
unfolding IsStrictlySortedBy
from-places [] h = tt
from-places (p ∷ ps) h = (recursion_from_All (λ q. youngest_first p q ≡ Less) ps (λ k d lt. h 0 (suc k) d (omega arith) (omega (arith, lt))), from-places ps (λ i j d lt le. h (suc i) (suc j) d (omega (arith, lt)) (omega (arith, le))))

-- a greater number is before a lower one
above-before : (p q : Party) → q.transaction < p.transaction → youngest_first p q ≡ Less
above-before p q lt = let e : ltb q.transaction p.transaction ≡ true = grind (arith, nat_tests, lt) in ap (λ (b : Bool). cond b Less (cond (eqb q.transaction p.transaction) Equal Greater)) e

-- a doomed transaction is open
doomed-open : (o : Option Transaction) → doomed_in o ≡ true → is_some o ≡ true
doomed-open None h = absurd (cc)
doomed-open (Some x) h = refl

-- the new victims in an order in which no number rises are the new victims, the youngest first
pub are-new_victims : (n : ℕ) (before after : State) (ps : List Party) → AreNumbersDistinct after → IsPermutation (new_victims n before after) ps → IsSortedBy is_younger ps → AreNewVictims n before after ps
are-new_victims n before after ps distinct moved sorted = record {
  listed = λ p. (
    λ c. (let r = within p (contains-member p ps c) in (r.from, omega (arith, r.below), r.new, r.party)),
    λ h. Contains-permutation (new_victims n before after) ps p moved (member-contains p (new_victims n before after) (listed-member before after 1 n p (record { from = h.0; below = omega (arith, h.1); new = h.2; party = h.3 }))),
  );
  falling = from-places ps falls;
}
  where
    within : (p : Party) → Member p ps → IsListed before after 1 (1 + n) p
    within p m = member-listed before after 1 n p (contains-member p (new_victims n before after) (Contains-permutation ps (new_victims n before after) p (IsPermutation-sym (new_victims n before after) ps moved) (member-contains p ps m)))

    member-at : (k : ℕ) (d : Party) → k < length ps → Member (get_or ps k d) ps
    member-at k d lt = contains-member (get_or ps k d) ps (k, lt, get_or_default ps k (get_or ps k d) d lt)

    doomed : (p : Party) → IsListed before after 1 (1 + n) p → is_open after p.session ≡ true
    doomed p r = doomed-open (after.begun p.session) (and_parts (not (is_doomed before p.session)) (is_doomed after p.session) r.new).1

    falls : (i j : ℕ) (d : Party) → i < j → j < length ps → youngest_first (get_or ps i d) (get_or ps j d) ≡ Less
    falls i j d lt le =
        let p = get_or ps i d in
        let q = get_or ps j d in
        let a = within p (member-at i d (omega (arith, lt, le))) in
        let b = within q (member-at j d le) in
        let most : q.transaction ≤ p.transaction = ge_from_not_lt p.transaction q.transaction (sorted_far is_younger younger-orders ps sorted i j d (omega (arith, lt)) le) in
        let apart : same_session p q ≡ false = apart_from_distinct same_session ps i j d (IsDistinct-IsPermutation same_session same_session-symm (new_victims n before after) ps moved (listed-apart before after 1 n)) lt le in
        above-before p q (elim (cases_Bool (eqb p.transaction q.transaction)) [
          | inr e ↦ grind (arith, nat_tests, most, e)
          | inl e ↦ (let same : p.transaction ≡ q.transaction = (Decides-eqb p.transaction q.transaction).0 e in
              let numbers : number_of after p.session ≡ number_of after q.session = sym (ap (λ (x : Party). x.transaction) a.party) ∙ (same ∙ ap (λ (x : Party). x.transaction) b.party) in
              let one = distinct p.session q.session (doomed p a) (doomed q b) numbers in
              absurd (grind (arith, nat_tests, apart, one)))
        ])
