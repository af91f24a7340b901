-- The waits that an explanation tells lead round.
use Rattle.std.proofs.Common.{◌≡◌, ℕ, ◌≤◌, Bool, true, eqb, ◌&&◌, inl, inr, List, [], ◌∷◌, Option, Some, None, IfSome, Contains, refl, sym, ◌∙◌, ap, arith, subst}
use Rattle.std.specs.List.{All, flat_map, range_with_len}
use Rattle.std.proofs.lemmas.Bool.{and_parts, and_from, cases_Bool}
use Rattle.std.proofs.lemmas.Bool.Decides.{Decides-eqb}
use Rattle.waits_for.specs.Walks.{IsWalk, AreOnCircle}
use Rattle.waits_for.proofs.Walks.{reaches-step, reaches-trans}
use Rattle.lock_rules.specs.declared.calls.Call.{Call}
use Rattle.lock_rules.specs.Entries.{Entry}
use Rattle.lock_rules.specs.State.{Claim, State, request_of, with_table}
use Rattle.lock_rules.specs.Queue.{with_request}
use Rattle.lock_rules.specs.Waits.{waits_for, reaches}
use Rattle.lock_rules.specs.Step.{step}
use Rattle.lock_rules.specs.Legal.{state_of}
use Rattle.lock_rules.specs.Effects.{IsWaitSettled}
use Rattle.lock_rules.proofs.Alters.{true≢false}
use Rattle.lock_rules.proofs.Settle.{reached-walk, reaches-walk, walk-waits, has-waits}
use Rattle.sequential.specs.Histories.{IsEntryWithin}
use Rattle.sequential.proofs.Members.{Member, contains-member, member-contains}
use Rattle.lock_explain.specs.declared.explanation.Edge.{Edge}
use Rattle.lock_explain.specs.declared.explanation.Explanation.{Explanation}
use Rattle.lock_explain.specs.declared.explanation.Party.{Party}
use Rattle.lock_explain.specs.declared.explanation.Wait.{Wait}
use Rattle.lock_explain.specs.Cycles.{is_on_cycle, party_on_cycle, edge_of}
use Rattle.lock_explain.specs.Explanations.{IsExplanation, IsWaitOfCall, IsToldOnCycle, AreWaitsToldClosed, cycle_told, edges_told}
use Rattle.lock_explain.specs.Waiting.{party_of, waiting_state}
use Rattle.lock_explain.proofs.Beginnings.{made-answered, made-session}
use Rattle.lock_explain.proofs.OpenWithin.{waiting-within}
use Rattle.lock_explain.proofs.ForSessions.{session-member, member-session, only, there}
use Rattle.lock_explain.proofs.VictimsTold.{on-listed}

-- whoever is on a cycle waits for another on it
onward-on : (pairs : ℕ → ℕ → Bool) (s u : ℕ) → AreOnCircle pairs s u → (v : ℕ) × (pairs u v ≡ true) × AreOnCircle pairs s v
onward-on pairs s u c = go c.back.others c.back.walk
  where
    go : (ws : List ℕ) → IsWalk pairs u ws s → (v : ℕ) × (pairs u v ≡ true) × AreOnCircle pairs s v
    go [] walk = (s, walk, record { there = reaches-trans pairs s u s c.there c.back; back = reaches-trans pairs s u s c.there c.back })
    go (v ∷ vs) walk = (v, walk.0, record { there = reaches-trans pairs s u v c.there (reaches-step pairs u v walk.0); back = record { others = vs; walk = walk.1 } })

-- the test for a cycle, and walks
on-circle : (st : State) (s u : ℕ) → is_on_cycle st s u ≡ true → AreOnCircle (waits_for st.table) s u
on-circle st s u h = let p = and_parts (reaches st.table s u) (reaches st.table u s) h in record { there = reached-walk st.table s u p.0; back = reached-walk st.table u s p.1 }

circle-on : (st : State) (s u : ℕ) → AreOnCircle (waits_for st.table) s u → is_on_cycle st s u ≡ true
circle-on st s u c = and_from (reaches st.table s u) (reaches st.table u s) (reaches-walk st.table s u c.there) (reaches-walk st.table u s c.back)

module _ (n s : ℕ) (history : List Entry) (c : Call) (a : All (IsEntryWithin n) history) (some : 1 ≤ s) (most : s ≤ n) where
  module _ (w : Wait) (i : IsWaitOfCall n (state_of history) s c w) where
    abbrev start : State
    start = waiting_state (state_of history) i.request

    own : i.request.session ≡ s
    own = made-session (state_of history) s c i.request i.begins.made

    settled : IsWaitSettled s i.request.resource i.request.mode (state_of history) (step (state_of history) s c)
    settled = (made-answered (state_of history) s c i.request i.begins.made i.begins.accepted).later (λ e. i.begins.not_held (rw own e)) (λ f. i.begins.not_free (rw own f))

    begun : with_table (with_request s i.request.resource i.request.mode (state_of history).table) (state_of history) ≡ start
    begun = ap (λ (k : ℕ). with_table (with_request k i.request.resource i.request.mode (state_of history).table) (state_of history)) (sym own)

    -- whoever waits is one of 1 to n
    waits-within : (u : ℕ) (q : Claim) → request_of u start.table.requests ≡ Some q → (1 ≤ u) × (u ≤ n)
    waits-within u q e = elim (cases_Bool (eqb u s)) [
      | inl y ↦ (let f = (Decides-eqb u s).0 y in (rw f some, rw f most))
      | inr m ↦ waiting-within n history a u q (sym (settled.wait.others_wait u (λ f. true≢false ((Decides-eqb u s).1 f) m)) ∙ (ap (λ (x : State). request_of u x.table.requests) begun ∙ e))
    ]

    circle-within : (u : ℕ) → AreOnCircle (waits_for start.table) s u → (1 ≤ u) × (u ≤ n)
    circle-within u k = let r = has-waits u start.table.requests (walk-waits start.table u k.back.others s k.back.walk) in waits-within u r.0 r.1

    -- whoever is on a cycle is told
    told-on : (u : ℕ) → AreOnCircle (waits_for start.table) s u → IsToldOnCycle (Some w) u
    told-on u k =
        let r = circle-within u k in
        (party_of start u, member-contains (party_of start u) w.cycle.items (rw i.cycle (on-listed start s 1 n u r.0 (omega (arith, r.1)) (circle-on start s u k))), refl)

    -- and whoever is told is on a cycle
    on-told : (u : ℕ) → IsToldOnCycle (Some w) u → AreOnCircle (waits_for start.table) s u
    on-told u t =
        let m = member-session (party_on_cycle start s) t.0 1 n (rw i.cycle at (contains-member t.0 w.cycle.items t.1)) in
        let o = only (is_on_cycle start s m.0) t.0 (party_of start m.0) m.1 in
        let same : m.0 ≡ u = ap (λ (p : Party). p.session) o.1 ∙ t.2 in
        subst (AreOnCircle (waits_for start.table) s) same (on-circle start s m.0 o.0)

    onward : (u : ℕ) → IsToldOnCycle (Some w) u → (v : ℕ) × Contains w.edges.items (record { session = u; other = v })
    onward u t =
        let k = on-told u t in
        let f = onward-on (waits_for start.table) s u k in
        let x = circle-within u k in
        let y = circle-within f.0 f.2 in
        let test = and_from (is_on_cycle start s u) (is_on_cycle start s f.0 && waits_for start.table u f.0) (circle-on start s u k) (and_from (is_on_cycle start s f.0) (waits_for start.table u f.0) (circle-on start s f.0 f.2) f.1) in
        let inner = session-member (edge_of start s u) (record { session = u; other = f.0 }) 1 n f.0 y.0 (omega (arith, y.1)) (there (is_on_cycle start s u && (is_on_cycle start s f.0 && waits_for start.table u f.0)) (record { session = u; other = f.0 }) test) in
        let outer = session-member (λ v. flat_map (edge_of start s v) (range_with_len 1 n)) (record { session = u; other = f.0 }) 1 n u x.0 (omega (arith, x.1)) inner in
        (f.0, member-contains (record { session = u; other = f.0 }) w.edges.items (subst (Member (record { session = u; other = f.0 })) (sym i.edges) outer))

    among : (edge : Edge) → Contains w.edges.items edge → IsToldOnCycle (Some w) edge.session × IsToldOnCycle (Some w) edge.other
    among edge t =
        let m = member-session (λ v. flat_map (edge_of start s v) (range_with_len 1 n)) edge 1 n (rw i.edges at (contains-member edge w.edges.items t)) in
        let k = member-session (edge_of start s m.0) edge 1 n m.1 in
        let o = only (is_on_cycle start s m.0 && (is_on_cycle start s k.0 && waits_for start.table m.0 k.0)) edge (record { session = m.0; other = k.0 }) k.1 in
        let p = and_parts (is_on_cycle start s m.0) (is_on_cycle start s k.0 && waits_for start.table m.0 k.0) o.0 in
        let q = and_parts (is_on_cycle start s k.0) (waits_for start.table m.0 k.0) p.1 in (
          subst (IsToldOnCycle (Some w)) (ap (λ (x : Edge). x.session) o.1) (told-on m.0 (on-circle start s m.0 p.0)),
          subst (IsToldOnCycle (Some w)) (ap (λ (x : Edge). x.other) o.1) (told-on k.0 (on-circle start s k.0 q.0)),
        )

  -- the waits told lead round
  pub waits-told : (e : Explanation) → IsExplanation n (state_of history) s c e → AreWaitsToldClosed e
  waits-told e told = go e.wait refl told.wait
    where
      none : (A : Type 0) (x : A) → Contains [] x → ⊥
      none A x m = contains-member x [] m

      go : (o : Option Wait) → e.wait ≡ o → IfSome o (IsWaitOfCall n (state_of history) s c) → AreWaitsToldClosed e
      go (Some w) f i = record {
        onward = λ u t. (let r = onward w i u (subst (λ (o : Option Wait). IsToldOnCycle o u) f t) in (r.0, subst (λ (o : Option Wait). Contains (edges_told o) (record { session = u; other = r.0 })) (sym f) r.1));
        among = λ edge t. subst (λ (o : Option Wait). IsToldOnCycle o edge.session × IsToldOnCycle o edge.other) (sym f) (among w i edge (subst (λ (o : Option Wait). Contains (edges_told o) edge) f t));
      }
      go None f i = record {
        onward = λ u t. absurd (none Party t.0 (subst (λ (o : Option Wait). Contains (cycle_told o) t.0) f t.1));
        among = λ edge t. absurd (none Edge edge (subst (λ (o : Option Wait). Contains (edges_told o) edge) f t));
      }
