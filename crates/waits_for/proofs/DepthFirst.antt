-- A search that goes depth first: what its stack, the sessions that it hasn't met and the rest keep.
use Rattle.std.proofs.Common.{◌≡◌, ◌≢◌, ℕ, ◌+◌, ◌<◌, ◌≤◌, ◌⊎◌, inl, inr, Bool, true, false, not, ◌&&◌, ◌||◌, eqb, List, [], ◌∷◌, length, get_or, set, refl, sym, ◌∙◌, ap, arith, get_or-set_other, get_or-set_same}
use Rattle.std.proofs.lemmas.Bool.{cases_lt, cases_eq, false≢true, and_parts, or_cases, or_left, or_right, eq-eqb, eqb-true, ne_eqb}
use Rattle.waits_for.specs.Pairs.{Pairs, pairs_of}
use Rattle.waits_for.specs.Walks.{IsWalk, Reaches}
use Rattle.waits_for.specs.inner.Bits.{has_bit, unset_below}
use Rattle.waits_for.specs.inner.Search.{HasAllWaiting, DoesAddLead, IsFrom, IsTo}
use Rattle.waits_for.proofs.BitRows.{unset-lt}
use Rattle.waits_for.proofs.Walks.{reaches-from, reaches-to, reaches-within}

-- A session is among the first `depth` of the list.
abbrev pub IsStacked : List ℕ → ℕ → ℕ → Type 0
IsStacked order depth u = (k : ℕ) × (k < depth) × (get_or order k 0 ≡ u)

-- A session that is put on the stack leaves those below it there.
stays : (order : List ℕ) (depth u i : ℕ) → i < depth → get_or (set order depth u) i 0 ≡ get_or order i 0
stays order depth u i lt = get_or-set_other order depth i u 0 (λ same. absurd (omega (arith, lt, same)))

-- During the search from t, whose stack is the first `depth` of the list: stack and sessions met are t or reached
-- from it, and each session met is on the stack, or waits for none that isn't met. The row of the top has none that
-- isn't met before `from`, the row of each other one none up to the session above it.
pub record IsDepthFirst (pairs : ℕ → ℕ → Bool) (t : ℕ) (waiting unseen order : List ℕ) (depth from : ℕ) : Type 0 where
  pub own : has_bit unseen t ≡ false
  pub stacked : (k : ℕ) → k < depth → IsFrom pairs t (get_or order k 0)
  pub seen : (u : ℕ) → has_bit waiting u ≡ true → has_bit unseen u ≡ false → IsFrom pairs t u
  pub done : (u : ℕ) → has_bit unseen u ≡ false → IsStacked order depth u ⊎ ((w : ℕ) → pairs u w ≡ true → has_bit unseen w ≡ false)
  pub top : (k : ℕ) → k + 1 ≡ depth → (w : ℕ) → w < from → pairs (get_or order k 0) w ≡ true → has_bit unseen w ≡ false
  pub below : (k : ℕ) → k + 1 < depth → (w : ℕ) → w ≤ get_or order (k + 1) 0 → pairs (get_or order k 0) w ≡ true → has_bit unseen w ≡ false

-- What is left after one more session is taken out was there before.
pub less-left : (unseen less : List ℕ) (u : ℕ) → ((j : ℕ) → has_bit less j ≡ (has_bit unseen j && not (eqb j u))) → (j : ℕ) → has_bit unseen j ≡ false → has_bit less j ≡ false
less-left unseen less u one j h = one j ∙ ap (λ (b : Bool). b && not (eqb j u)) h

-- It isn't left itself.
pub less-own : (unseen less : List ℕ) (u : ℕ) → ((j : ℕ) → has_bit less j ≡ (has_bit unseen j && not (eqb j u))) → has_bit less u ≡ false
less-own unseen less u one = elim (has_bit less u) as (λ b. has_bit less u ≡ b → has_bit less u ≡ false) [
  | true ↦ λ is. absurd (false≢true (sym (ap not (eq-eqb u u refl)) ∙ (and_parts (has_bit unseen u) (not (eqb u u)) (sym (one u) ∙ is)).1))
  | false ↦ λ is. is
] refl

-- Of two sessions that aren't left, one wasn't left before or is the one taken out.
pub less-either : (unseen less : List ℕ) (u : ℕ) → ((j : ℕ) → has_bit less j ≡ (has_bit unseen j && not (eqb j u))) → (j : ℕ) → has_bit less j ≡ false → (j ≡ u) ⊎ (has_bit unseen j ≡ false)
less-either unseen less u one j h = elim (cases_eq j u) [
  | inl e ↦ inl e
  | inr ne ↦ inr (at (has_bit unseen j) (ap (λ (b : Bool). has_bit unseen j && not b) (sym (ne_eqb j u ne)) ∙ (sym (one j) ∙ h)))
]
  where
    at : (b : Bool) → (b && true) ≡ false → b ≡ false
    at true p = p
    at false p = refl

-- After a session that was left is taken out, more bits are unset.
pub less-more : (n : ℕ) (unseen less : List ℕ) (u : ℕ) → ((j : ℕ) → has_bit less j ≡ (has_bit unseen j && not (eqb j u))) → u < n → has_bit unseen u ≡ true → unset_below n unseen < unset_below n less
less-more n unseen less u one lt is = unset-lt n less unseen (λ j h. (and_parts (has_bit unseen j) (not (eqb j u)) (sym (one j) ∙ h)).0) u lt (less-own unseen less u one) is

-- A session that is t or is reached from it is at a position below the number of sessions.
pub from-within : (p : Pairs) (t u : ℕ) → t < p.sessions → IsFrom (pairs_of p) t u → u < p.sessions
from-within p t u lt (inl e) = rw e lt
from-within p t u lt (inr r) = reaches-within p t u r

module _ (pairs : ℕ → ℕ → Bool) (t : ℕ) (waiting : List ℕ) where
  -- With t alone on the stack, the search has begun.
  pub depth_first-begun : HasAllWaiting pairs waiting → (unseen order : List ℕ) → ((j : ℕ) → has_bit unseen j ≡ (has_bit waiting j && not (eqb j t))) → get_or order 0 0 ≡ t → IsDepthFirst pairs t waiting unseen order 1 0
  depth_first-begun all unseen order one at = record {
    own = less-own waiting unseen t one;
    stacked = λ k lt. let e : k ≡ 0 = omega (arith, lt) in inl (rw e at);
    seen = λ u here gone. elim (less-either waiting unseen t one u gone) [
      | inl e ↦ inl e
      | inr none ↦ absurd (false≢true (sym none ∙ here))
    ];
    done = λ u gone. elim (less-either waiting unseen t one u gone) [
      | inl e ↦ inl (0, omega arith, at ∙ sym e)
      | inr none ↦ inr (λ w step. absurd (false≢true (sym none ∙ all u w step)))
    ];
    top = λ k e w lt step. absurd (omega (arith, lt));
    below = λ k lt w le step. absurd (omega (arith, lt));
  }

  module _ (unseen order : List ℕ) (depth from k : ℕ) (s : IsDepthFirst pairs t waiting unseen order depth from) (e : k + 1 ≡ depth) where
    -- A session that the top waits for and that isn't met is put on the stack.
    pub depth_first-pushed : (less : List ℕ) (u : ℕ) → pairs (get_or order k 0) u ≡ true → ((j : ℕ) → from ≤ j → j < u → pairs (get_or order k 0) j ≡ true → has_bit unseen j ≡ false) → ((j : ℕ) → has_bit less j ≡ (has_bit unseen j && not (eqb j u))) → depth < length order → IsDepthFirst pairs t waiting less (set order depth u) (depth + 1) 0
    depth_first-pushed less u step least one room = record {
      own = gone t s.own;
      stacked = λ i lt. elim (cases_lt i depth) [
        | inl low ↦ rw (stays order depth u i low) (s.stacked i low)
        | inr high ↦ let same : i ≡ depth = omega (arith, lt, high) in rw same (rw at (inr here))
      ];
      seen = λ w now out. elim (less-either unseen less u one w out) [
        | inl same ↦ inr (rw same here)
        | inr was ↦ s.seen w now was
      ];
      done = λ w out. elim (less-either unseen less u one w out) [
        | inl same ↦ inl (depth, omega arith, at ∙ sym same)
        | inr was ↦ elim (s.done w was) [
          | inl on ↦ inl (on.0, omega (arith, on.1), stays order depth u on.0 on.1 ∙ on.2)
          | inr all ↦ inr (λ x to. gone x (all x to))
        ]
      ];
      top = λ i is w lt to. absurd (omega (arith, lt));
      below = λ i lt w le to. elim (cases_lt (i + 1) depth) [
        | inl low ↦ gone w (s.below i low w (rw (stays order depth u (i + 1) low) at le) (rw (stays order depth u i (omega (arith, low))) at to))
        | inr high ↦
            let same : i ≡ k = omega (arith, e, lt, high) in
            let above : i + 1 ≡ depth = omega (arith, e, same) in
            let to_it : w ≤ u = rw (ap (λ (n : ℕ). get_or (set order depth u) n 0) above ∙ at) at le in
            let edge : pairs (get_or order k 0) w ≡ true = rw (ap (λ (n : ℕ). get_or (set order depth u) n 0) same ∙ stays order depth u k (omega (arith, e))) at to in
            elim (cases_eq w u) [
              | inl is ↦ rw is (less-own unseen less u one)
              | inr ne ↦ gone w (elim (cases_lt w from) [
                | inl before ↦ s.top k e w before edge
                | inr behind ↦ least w behind (omega (arith, to_it, ne)) edge
              ])
            ]
      ];
    }
      where
        gone : (j : ℕ) → has_bit unseen j ≡ false → has_bit less j ≡ false
        gone = less-left unseen less u one

        here : Reaches pairs t u
        here = reaches-from pairs t (get_or order k 0) u (s.stacked k (omega (arith, e))) step

        at : get_or (set order depth u) depth 0 ≡ u
        at = get_or-set_same order depth u 0 room

    -- The top is taken off the stack once all that it waits for are met.
    pub depth_first-popped : ((j : ℕ) → from ≤ j → pairs (get_or order k 0) j ≡ true → has_bit unseen j ≡ false) → IsDepthFirst pairs t waiting unseen order k (get_or order k 0 + 1)
    depth_first-popped none = record {
      own = s.own;
      stacked = λ i lt. s.stacked i (omega (arith, lt, e));
      seen = s.seen;
      done = λ w out. elim (s.done w out) [
        | inl on ↦ elim (cases_lt on.0 k) [
          | inl low ↦ inl (on.0, low, on.2)
          | inr high ↦
              let same : k ≡ on.0 = omega (arith, e, on.1, high) in
              inr (λ x to. all x (rw (sym on.2 ∙ ap (λ (n : ℕ). get_or order n 0) (sym same)) at to))
        ]
        | inr rest ↦ inr rest
      ];
      top = λ i is w lt to. s.below i (omega (arith, is, e)) w (rw (ap (λ (n : ℕ). get_or order n 0) (sym is)) at (at_most w lt)) to;
      below = λ i lt w le to. s.below i (omega (arith, lt, e)) w le to;
    }
      where
        at_most : (w : ℕ) → w < get_or order k 0 + 1 → w ≤ get_or order k 0
        at_most w lt = omega (arith, lt)

        all : (x : ℕ) → pairs (get_or order k 0) x ≡ true → has_bit unseen x ≡ false
        all x to = elim (cases_lt x from) [ inl before ↦ s.top k e x before to | inr at ↦ none x at to ]

  -- When the stack is empty, all that t reaches are met.
  pub depth_first-all : (unseen order : List ℕ) (from : ℕ) → IsDepthFirst pairs t waiting unseen order 0 from → (u : ℕ) → IsFrom pairs t u → has_bit unseen u ≡ false
  depth_first-all unseen order from s u (inl e) = rw e s.own
  depth_first-all unseen order from s u (inr r) = on t r.others s.own r.walk
    where
      next : (v w : ℕ) → has_bit unseen v ≡ false → pairs v w ≡ true → has_bit unseen w ≡ false
      next v w gone step = elim (s.done v gone) [
        | inl on ↦ absurd (omega (arith, on.1))
        | inr all ↦ all w step
      ]

      on : (v : ℕ) (ws : List ℕ) → has_bit unseen v ≡ false → IsWalk pairs v ws u → has_bit unseen u ≡ false
      on v [] gone walk = next v u gone walk
      on v (w ∷ ws) gone walk = on w ws (next v w gone walk.0) walk.1

-- What the search knows of who reaches t: the members of `circle` are t or reach it, and each session on the stack
-- waits for the one above it.
pub record IsLeading (pairs : ℕ → ℕ → Bool) (t : ℕ) (circle order : List ℕ) (depth : ℕ) : Type 0 where
  pub own : has_bit circle t ≡ true
  pub lead : (u : ℕ) → has_bit circle u ≡ true → IsTo pairs t u
  pub linked : (k : ℕ) → k + 1 < depth → pairs (get_or order k 0) (get_or order (k + 1) 0) ≡ true

module _ (pairs : ℕ → ℕ → Bool) (t : ℕ) where
  -- In the beginning t is known to be t.
  pub leading-begun : (none circle order : List ℕ) → ((j : ℕ) → has_bit none j ≡ false) → ((j : ℕ) → has_bit circle j ≡ (has_bit none j || eqb j t)) → IsLeading pairs t circle order 1
  leading-begun none circle order clear one = record {
    own = one t ∙ or_right (has_bit none t) (eqb t t) (eq-eqb t t refl);
    lead = λ u h. elim (or_cases (has_bit none u) (eqb u t) (sym (one u) ∙ h)) [
      | inl was ↦ absurd (false≢true (sym (clear u) ∙ was))
      | inr is ↦ inl (eqb-true u t is)
    ];
    linked = λ k lt. absurd (omega (arith, lt));
  }

  module _ (circle order : List ℕ) (depth : ℕ) (s : IsLeading pairs t circle order depth) where
    -- A session for whom the top waits is put on the stack.
    pub leading-pushed : (k u : ℕ) → k + 1 ≡ depth → pairs (get_or order k 0) u ≡ true → depth < length order → IsLeading pairs t circle (set order depth u) (depth + 1)
    leading-pushed k u e step room = record {
      own = s.own;
      lead = s.lead;
      linked = λ i lt. elim (cases_lt (i + 1) depth) [
        | inl low ↦ rw (stays order depth u i (omega (arith, low))) (rw (stays order depth u (i + 1) low) (s.linked i low))
        | inr high ↦
            let same : i ≡ k = omega (arith, e, lt, high) in
            let above : i + 1 ≡ depth = omega (arith, e, same) in
            rw (ap (λ (n : ℕ). get_or (set order depth u) n 0) above ∙ get_or-set_same order depth u 0 room) (rw (ap (λ (n : ℕ). get_or (set order depth u) n 0) same ∙ stays order depth u k (omega (arith, e))) step)
      ];
    }

    -- A session that waits for a member of `circle` becomes one.
    pub leading-more : (v u : ℕ) (wide : List ℕ) → pairs v u ≡ true → has_bit circle u ≡ true → ((j : ℕ) → has_bit wide j ≡ (has_bit circle j || eqb j v)) → IsLeading pairs t wide order depth
    leading-more v u wide step here one = record {
      own = one t ∙ or_left (has_bit circle t) (eqb t v) s.own;
      lead = λ j h. elim (or_cases (has_bit circle j) (eqb j v) (sym (one j) ∙ h)) [
        | inl was ↦ s.lead j was
        | inr is ↦ inr (rw (eqb-true j v is) (reaches-to pairs t v u step (s.lead u here)))
      ];
      linked = s.linked;
    }

    -- The same by a row, if anything was added.
    pub leading-noted : (v : ℕ) (row wide : List ℕ) → ((j : ℕ) → has_bit row j ≡ pairs v j) → DoesAddLead row circle wide v → IsLeading pairs t wide order depth
    leading-noted v row wide bits (inl same) = rw same s
    leading-noted v row wide bits (inr new) = leading-more v new.0 wide (sym (bits new.0) ∙ new.1) new.2 new.3

    -- The stack may be lower.
    pub leading-popped : (k : ℕ) → k ≤ depth → IsLeading pairs t circle order k
    leading-popped k le = record { own = s.own; lead = s.lead; linked = λ i lt. s.linked i (omega (arith, lt, le)) }
