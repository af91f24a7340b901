-- Who is on a cycle with a session, by positions and by session numbers, and their waits for one another.
use Rattle.std.proofs.Common.{◌≡◌, ℕ, zero, suc, ◌+◌, ◌-◌, ◌≤◌, Bool, true, false, cond, ◌&&◌, List, [], ◌∷◌, ◌++◌, refl, sym, ◌∙◌, ap, ap₂, arith, subst, append-nil}
use Rattle.std.specs.Prelude.{IsTrue, ◌↔◌, All}
use Rattle.std.specs.List.{flat_map, range_with_len}
use Rattle.std.proofs.lemmas.Bool.{and_parts, and_from}
use Rattle.std.proofs.lemmas.Grind.{flat_map-append}
use Rattle.std.proofs.lemmas.List.Concat.{flat_map-cons}
use Rattle.std.proofs.lemmas.List.Elements.{All-nil, All-cons}
use Rattle.waits_for.specs.Pairs.{Pairs, pairs_of}
use Rattle.waits_for.specs.Walks.{Reaches, AreOnCircle}
use Rattle.waits_for.proofs.Walks.{reaches-trans}
use Rattle.lock_rules.specs.State.{State}
use Rattle.lock_rules.specs.Waits.{waits_for, reaches}
use Rattle.lock_rules.proofs.Settle.{reached-walk, reaches-walk}
use Rattle.lock_table.proofs.VictimRounds.{up, down}
use Rattle.lock_explain.specs.declared.explanation.Party.{Party}
use Rattle.lock_explain.specs.Waiting.{party_of}
use Rattle.lock_explain.specs.Cycles.{is_on_cycle, party_on_cycle, cycle_of, edge_of, edges_of}
use Rattle.lock_explain.specs.inner.Graph.{AreWaitsOf, IsPartyWithin, edge_among, edges_from, edges_among}
use Rattle.lock_rules.proofs.Ranges.{both-ways}

-- two lists whose parts are the same
same-parts : {A : Type 0} (f g : ℕ → List A) (a n : ℕ) → 1 ≤ a → ((u : ℕ) → 1 ≤ u → f u ≡ g u) → flat_map f (range_with_len a n) ≡ flat_map g (range_with_len a n)
same-parts f g a zero some h = refl
same-parts f g a (suc n) some h =
    flat_map-cons f a (range_with_len (a + 1) n)
    ∙ (ap₂ (λ (l k : List _). l ++ k) (h a some) (same-parts f g (a + 1) n (omega (arith, some)) h)
    ∙ sym (flat_map-cons g a (range_with_len (a + 1) n)))

-- a list whose parts are all empty
no-parts : {A : Type 0} (us : List ℕ) → flat_map {A = A} (λ u. []) us ≡ []
no-parts [] = refl
no-parts (u ∷ us) = flat_map-cons (λ u. []) u us ∙ no-parts us

-- a session on no cycle

module _ (st : State) (s : ℕ) (none : Reaches (waits_for st.table) s s → ⊥) where
  -- nobody is on a cycle with it
  alone : (u : ℕ) → is_on_cycle st s u ≡ false
  alone u = go (is_on_cycle st s u) refl
    where
      go : (b : Bool) → is_on_cycle st s u ≡ b → b ≡ false
      go false e = refl
      go true e =
          let k = and_parts (reaches st.table s u) (reaches st.table u s) e in
          absurd (none (reaches-trans (waits_for st.table) s u s (reached-walk st.table s u k.0) (reached-walk st.table u s k.1)))

  -- so nobody is listed
  pub no-members : (n : ℕ) → cycle_of n st s ≡ []
  no-members n =
      same-parts (party_on_cycle st s) (λ u. []) 1 n (omega arith) (λ u some. ap (λ (b : Bool). cond b (party_of st u ∷ []) []) (alone u))
      ∙ no-parts (range_with_len 1 n)

  -- and no wait
  pub no-edges : (n : ℕ) → edges_of n st s ≡ []
  no-edges n =
      same-parts (λ u. flat_map (edge_of st s u) (range_with_len 1 n)) (λ u. []) 1 n (omega arith)
      (λ u some. same-parts (edge_of st s u) (λ v. []) 1 n (omega arith) (λ v one. ap (λ (b : Bool). cond (b && (is_on_cycle st s v && waits_for st.table u v)) (record { session = u; other = v } ∷ []) []) (alone u)) ∙ no-parts (range_with_len 1 n))
      ∙ no-parts (range_with_len 1 n)

-- positions and sessions

module _ (p : Pairs) (st : State) (w : AreWaitsOf p st) where
  -- the position of a session
  back : (s : ℕ) → 1 ≤ s → s - 1 + 1 ≡ s
  back s h = omega (arith, h)

  -- a session that is reached by positions is reached in the state
  climbs : (s u : ℕ) → 1 ≤ s → 1 ≤ u → Reaches (pairs_of p) (s - 1) (u - 1) → Reaches (waits_for st.table) s u
  climbs s u one some r = subst (λ (x : ℕ). Reaches (waits_for st.table) x u) (back s one) (subst (λ (x : ℕ). Reaches (waits_for st.table) (s - 1 + 1) x) (back u some) (up (pairs_of p) (waits_for st.table) w.pairs w.some (s - 1) (u - 1) r))

  -- a session that is reached in the state is reached by positions
  falls : (s u : ℕ) → 1 ≤ s → 1 ≤ u → Reaches (waits_for st.table) s u → Reaches (pairs_of p) (s - 1) (u - 1)
  falls s u one some r =
      down (pairs_of p) (waits_for st.table) w.pairs w.some (s - 1) (u - 1)
      (subst (λ (x : ℕ). Reaches (waits_for st.table) x (u - 1 + 1)) (sym (back s one)) (subst (λ (x : ℕ). Reaches (waits_for st.table) s x) (sym (back u some)) r))

  -- a session is on a cycle by positions exactly if it is in the state
  pub cycle-told : (s u : ℕ) → 1 ≤ s → 1 ≤ u → (b : Bool) → IsTrue b ↔ AreOnCircle (pairs_of p) (s - 1) (u - 1) → b ≡ is_on_cycle st s u
  cycle-told s u one some b h = both-ways b (is_on_cycle st s u) there back_again
    where
      there : b ≡ true → is_on_cycle st s u ≡ true
      there e =
          let c = h.0 e in
          and_from (reaches st.table s u) (reaches st.table u s) (reaches-walk st.table s u (climbs s u one some c.there)) (reaches-walk st.table u s (climbs u s some one c.back))

      back_again : is_on_cycle st s u ≡ true → b ≡ true
      back_again e =
          let k = and_parts (reaches st.table s u) (reaches st.table u s) e in
          h.1 (record { there = falls s u one some (reached-walk st.table s u k.0); back = falls u s some one (reached-walk st.table u s k.1) })

  -- with a session on no cycle nobody is listed
  pub nobody : (n s : ℕ) → 1 ≤ s → (Reaches (pairs_of p) (s - 1) (s - 1) → ⊥) → [] ≡ cycle_of n st s
  nobody n s one none = sym (no-members st s (λ r. none (falls s s one one r)) n)

  -- an edge between two positions is a wait of the state
  wait-told : (u v : ℕ) → 1 ≤ u → 1 ≤ v → pairs_of p (u - 1) (v - 1) ≡ waits_for st.table u v
  wait-told u v some one = w.pairs (u - 1) (v - 1) ∙ ap₂ (λ (x y : ℕ). waits_for st.table x y) (back u some) (back v one)

-- the members

module _ (st : State) (s : ℕ) where
  -- what is listed of each member
  by-member : {A : Type 0} (g : Party → List A) (us : List ℕ) → flat_map g (flat_map (party_on_cycle st s) us) ≡ flat_map (λ u. cond (is_on_cycle st s u) (g (party_of st u)) []) us
  by-member g [] = refl
  by-member g (u ∷ us) =
      ap (flat_map g) (flat_map-cons (party_on_cycle st s) u us)
      ∙ (flat_map-append g (party_on_cycle st s u) (flat_map (party_on_cycle st s) us)
      ∙ (ap₂ (λ (l k : List _). l ++ k) (one (is_on_cycle st s u)) (by-member g us)
      ∙ sym (flat_map-cons (λ u. cond (is_on_cycle st s u) (g (party_of st u)) []) u us)))
    where
      one : (b : Bool) → flat_map g (cond b (party_of st u ∷ []) []) ≡ cond b (g (party_of st u)) []
      one true = flat_map-cons g (party_of st u) [] ∙ append-nil (g (party_of st u))
      one false = refl

  -- each member is one of the sessions
  pub members-within : (n : ℕ) → All (IsPartyWithin n) (cycle_of n st s)
  members-within n = go 1 n (omega arith) (omega arith)
    where
      go : (a k : ℕ) → 1 ≤ a → a + k ≤ n + 1 → All (IsPartyWithin n) (flat_map (party_on_cycle st s) (range_with_len a k))
      go a zero some most = All-nil (IsPartyWithin n)
      go a (suc k) some most = subst (All (IsPartyWithin n)) (sym (flat_map-cons (party_on_cycle st s) a (range_with_len (a + 1) k))) (first (is_on_cycle st s a) (go (a + 1) k (omega (arith, some)) (omega (arith, most))))
        where
          first : (b : Bool) → All (IsPartyWithin n) (flat_map (party_on_cycle st s) (range_with_len (a + 1) k)) → All (IsPartyWithin n) (cond b (party_of st a ∷ []) [] ++ flat_map (party_on_cycle st s) (range_with_len (a + 1) k))
          first true rest = All-cons (IsPartyWithin n) (party_of st a) (flat_map (party_on_cycle st s) (range_with_len (a + 1) k)) (record { some = some; within = omega (arith, most) }) rest
          first false rest = rest

  -- the edges between members are the waits of those on the cycle for one another
  pub edges-told : (p : Pairs) (w : AreWaitsOf p st) (n : ℕ) → edges_among p (cycle_of n st s) ≡ edges_of n st s
  edges-told p w n =
      by-member (λ m. edges_from p (cycle_of n st s) m.session) (range_with_len 1 n)
      ∙ same-parts (λ u. cond (is_on_cycle st s u) (edges_from p (cycle_of n st s) u) []) (λ u. flat_map (edge_of st s u) (range_with_len 1 n)) 1 n (omega arith) (λ u some. outer u some (is_on_cycle st s u))
    where
      inner : (u v : ℕ) → 1 ≤ u → 1 ≤ v → (b : Bool) → cond b (edge_among p u (party_of st v)) [] ≡ cond (b && waits_for st.table u v) (record { session = u; other = v } ∷ []) []
      inner u v some one true = ap (λ (b : Bool). cond b (record { session = u; other = v } ∷ []) []) (wait-told p st w u v some one)
      inner u v some one false = refl

      outer : (u : ℕ) → 1 ≤ u → (b : Bool) → cond b (edges_from p (cycle_of n st s) u) [] ≡ flat_map (λ v. cond (b && (is_on_cycle st s v && waits_for st.table u v)) (record { session = u; other = v } ∷ []) []) (range_with_len 1 n)
      outer u some true =
          by-member (edge_among p u) (range_with_len 1 n)
          ∙ same-parts (λ v. cond (is_on_cycle st s v) (edge_among p u (party_of st v)) []) (λ v. cond (is_on_cycle st s v && waits_for st.table u v) (record { session = u; other = v } ∷ []) []) 1 n (omega arith) (λ v one. inner u v some one (is_on_cycle st s v))
      outer u some false = sym (no-parts (range_with_len 1 n))
