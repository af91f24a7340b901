-- What victims lose and keep: their locks stay, and requests for what they waited for may be granted.
use Rattle.std.proofs.Common.{◌≡◌, ℕ, Bool, true, false, cond, not, eqb, ◌⊎◌, inl, inr, List, [], ◌∷◌, Option, Some, None, is_some, refl, sym, ◌∙◌, ap, arith, subst}
use Rattle.std.proofs.lemmas.Bool.{or_cases, cases_Bool}
use Rattle.std.proofs.lemmas.Bool.Decides.{Decides-eqb}
use Rattle.lock_tree.specs.Paths.{same_path}
use Rattle.lock_rules.specs.declared.calls.Transaction.{Transaction}
use Rattle.lock_rules.specs.State.{Claim, Table, State, request_of, doomed_in, with_table}
use Rattle.lock_rules.specs.Queue.{with_request, after_promotions}
use Rattle.lock_rules.specs.Waits.{resource_of_request, without_request, after_cancel, doom, after_victim}
use Rattle.lock_rules.specs.Laws.{AreVictims, ArePromotionsLongest}
use Rattle.lock_rules.specs.Effects.{IsUnchanged, IsAmong, IsWantedBy, IsDoomOf, DoVictimsKeepLocks, DoVictimsKeepTheirLocks, DoesDoomPromote, IsWithdrawalOf, DoesWithdrawTakeRequest}
use Rattle.lock_rules.specs.Sound.{IsOnce}
use Rattle.lock_rules.proofs.Lists.{eqb-refl, other, same_path-true, times-claims_but, request_of-claims_but, request_of-claims_but_other}
use Rattle.lock_rules.proofs.Promote.{among}
use Rattle.lock_rules.proofs.Fronts.{promotions-longest}
use Rattle.lock_rules.proofs.Begins.{once-push}
use Rattle.lock_rules.proofs.Settle.{walk-waits, has-waits}
use Rattle.lock_rules.proofs.Steps.{is-none, all-pass}
use Rattle.lock_rules.proofs.Taken.{IsUnchangedOrPromoted, refl-same, same-same, same-promotion, promotion-same, after-same, none, unserved, all-once, all-served, passes, step-acts}
use Rattle.lock_rules.specs.declared.calls.Call.TheVariants.{Withdraw}
use Rattle.lock_rules.specs.declared.calls.Reply.TheVariants.{Withdrawn}
use Rattle.lock_rules.specs.Step.{Outcome, tests}

-- the doom of an open transaction dooms it
pub doom-dooms : (o : Option Transaction) → is_some o ≡ true → doomed_in (doom o) ≡ true
doom-dooms None h = absurd (cc)
doom-dooms (Some x) h = refl

-- one victim

-- without a victim's request each session still has one at most
cut-once : (v : ℕ) (t : Table) → IsOnce t.requests → IsOnce (without_request v t).requests
cut-once v t o u = omega (arith, times-claims_but u v t.requests, o u)

-- after a cancelled request each session still has one at most
cancelled-once : (v : ℕ) (t : Table) → IsOnce t.requests → IsOnce (after_cancel v t).requests
cancelled-once v t o = all-once (resource_of_request (request_of v t.requests)) (without_request v t) (cut-once v t o)

-- promotions after a victim's request is removed leave the victim unchanged
cancelled-own : (v : ℕ) (t : Table) → IsOnce t.requests → IsUnchanged v (without_request v t) (after_cancel v t)
cancelled-own v t o =
    unserved v (λ x. among (resource_of_request (request_of v t.requests)) x ≡ true) (without_request v t) (after_cancel v t) (request_of-claims_but v t.requests)
    (all-served (resource_of_request (request_of v t.requests)) (without_request v t) (cut-once v t o) v)

-- cancelling a request leaves another session unchanged, or grants its request for that resource
pub cancelled-others : (v : ℕ) (t : Table) → IsOnce t.requests → (u : ℕ) → eqb u v ≡ false → IsUnchangedOrPromoted u (λ x. among (resource_of_request (request_of v t.requests)) x ≡ true) t (after_cancel v t)
cancelled-others v t o u n =
    after-same u (λ x. among (resource_of_request (request_of v t.requests)) x ≡ true) t (without_request v t) (after_cancel v t)
    (record { held = λ x. refl; request = request_of-claims_but_other u v t.requests n })
    (all-served (resource_of_request (request_of v t.requests)) (without_request v t) (cut-once v t o) u)

-- the resource promoted is that of the victim's request
pub wanted-is : (o : Option Claim) (p : Claim) (x : List ℕ) → o ≡ Some p → among (resource_of_request o) x ≡ true → p.resource ≡ x
wanted-is None p x e h = absurd (cc)
wanted-is (Some q) p x e h = let same : q ≡ p = cc in ap (λ (c : Claim). c.resource) (sym same) ∙ same_path-true q.resource x (elim (or_cases (same_path q.resource x) false h) [ inl k ↦ k | inr k ↦ absurd (cc) ])

-- a victim and those after it

module _ (v : ℕ) (vs : List ℕ) (st last : State) (p : Claim) (e : request_of v st.table.requests ≡ Some p) (o : IsOnce st.table.requests) (next : DoVictimsKeepLocks vs (after_victim v st) last) where
  -- the first victim has no request after its cancellation
  gone : request_of v (after_cancel v st.table).requests ≡ None
  gone = (cancelled-own v st.table o).request ∙ request_of-claims_but v st.table.requests

  -- the first victim isn't among the later ones
  not-again : IsAmong v vs → ⊥
  not-again i = none gone (next.victims v i).waited.1

  -- a later victim isn't the first one
  apart-from : (u : ℕ) → IsAmong u vs → eqb u v ≡ false
  apart-from u i = elim (cases_Bool (eqb u v)) [ inl y ↦ let f = (Decides-eqb u v).0 y in absurd (not-again (rw f at i)) | inr n ↦ n ]

  -- the later victims leave the first one unchanged
  own : IsUnchanged v (after_cancel v st.table) last.table
  own = elim (next.others v not-again) [ inl a ↦ a | inr q ↦ absurd (none gone q.1.waited) ]

  -- a victim leaves the transactions of others
  begun-other : (u : ℕ) → eqb u v ≡ false → (after_victim v st).begun u ≡ st.begun u
  begun-other u n = ap (λ (b : Bool). cond b (doom (st.begun v)) (st.begun u)) n

  -- the first victim is doomed and keeps its locks
  first-doomed : IsDoomOf v st last
  first-doomed = record {
    waited = (p, e);
    waits_no_more = own.request ∙ gone;
    doomed = next.others_begun v not-again ∙ ap (λ (b : Bool). cond b (doom (st.begun v)) (st.begun v)) (eqb-refl v);
    held = λ x. own.held x ∙ (cancelled-own v st.table o).held x;
  }

  -- a session that waits after the first victim is unchanged by it
  before : (u : ℕ) (q : Claim) → IsAmong u vs → request_of u (after_cancel v st.table).requests ≡ Some q → IsUnchanged u st.table (after_cancel v st.table)
  before u q i w = elim (cancelled-others v st.table o u (apart-from u i)) [ inl a ↦ a | inr z ↦ absurd (none z.1.waits_no_more w) ]

  -- each later victim is doomed and keeps its locks
  later-doomed : (u : ℕ) → IsAmong u vs → IsDoomOf u st last
  later-doomed u i =
      let d = next.victims u i in
      let a = before u d.waited.0 i d.waited.1 in
      record {
        waited = (d.waited.0, sym a.request ∙ d.waited.1);
        waits_no_more = d.waits_no_more;
        doomed = d.doomed ∙ ap doom (begun-other u (apart-from u i));
        held = λ x. d.held x ∙ a.held x;
      }

  -- what a later victim waits for, it waited for before the first
  wanted-before : (x : List ℕ) → IsWantedBy vs (after_cancel v st.table) x → IsWantedBy (v ∷ vs) st.table x
  wanted-before x w = let a = before w.0 w.1 w.2 w.3 in (w.0, w.1, inr w.2, sym a.request ∙ w.3, w.4)

  -- each other session is unchanged, or its request for what a victim waited for is granted
  both-others : (u : ℕ) → (IsAmong u (v ∷ vs) → ⊥) → IsUnchangedOrPromoted u (λ x. IsWantedBy (v ∷ vs) st.table x) st.table last.table
  both-others u h = elim (cancelled-others v st.table o u (other v u (λ f. h (inl f)))) [
    | inl a ↦ elim (next.others u (λ i. h (inr i))) [
      | inl b ↦ inl (same-same u st.table (after_cancel v st.table) last.table a b)
      | inr q ↦ inr (q.0, same-promotion u q.0 st.table (after_cancel v st.table) last.table a q.1, wanted-before q.0.resource q.2)
    ]
    | inr q ↦ elim (next.others u (λ i. h (inr i))) [
      | inl b ↦ inr (q.0, promotion-same u q.0 st.table (after_cancel v st.table) last.table q.1 b, (v, p, inl refl, e, wanted-is (request_of v st.table.requests) p q.0.resource e q.2))
      | inr z ↦ absurd (none q.1.waits_no_more z.1.waited)
    ]
  ]

  -- the first victim and the later ones keep their locks
  keep-both : DoVictimsKeepLocks (v ∷ vs) st last
  keep-both = record {
    victims = λ u h. elim h [ inl f ↦ rw f first-doomed | inr i ↦ later-doomed u i ];
    others = both-others;
    others_begun = λ u h. next.others_begun u (λ i. h (inr i)) ∙ begun-other u (other v u (λ f. h (inl f)));
    count = next.count;
  }

-- all victims keep their locks
pub victims-keep : (s : ℕ) (vs : List ℕ) (st last : State) → IsOnce st.table.requests → AreVictims s vs st last → DoVictimsKeepLocks vs st last
victims-keep s [] st last o a = record {
  victims = λ v h. absurd h;
  others = λ u h. inl (rw a.1 (refl-same u st.table));
  others_begun = λ u h. ap (λ (x : State). x.begun u) a.1;
  count = ap (λ (x : State). x.count) a.1;
}
victims-keep s (v ∷ vs) st last o a =
    let c = a.0.on_circle.back in
    let w = has-waits v st.table.requests (walk-waits st.table v c.others s c.walk) in
    keep-both v vs st last w.0 w.1 o (victims-keep s vs (after_victim v st) last (cancelled-once v st.table o) a.1)

-- the victims of any request that begins to wait keep their locks
pub keep-theirs : (st : State) → IsOnce st.table.requests → DoVictimsKeepTheirLocks st
keep-theirs st o s r k vs last w a = victims-keep s vs (with_table (with_request s r k st.table) st) last (once-push s r k st.table.requests o (is-none (request_of s st.table.requests) w)) a

-- a session is one of these or it isn't
pub among-or-not : (u : ℕ) (vs : List ℕ) → IsAmong u vs ⊎ (IsAmong u vs → ⊥)
among-or-not u [] = inr (λ h. h)
among-or-not u (v ∷ vs) = elim (cases_Bool (eqb u v)) [
  | inl y ↦ inl (inl ((Decides-eqb u v).0 y))
  | inr n ↦ elim (among-or-not u vs) [ inl i ↦ inl (inr i) | inr m ↦ inr (λ h. neither n m h) ]
]
  where
    neither : eqb u v ≡ false → (IsAmong u vs → ⊥) → IsAmong u (v ∷ vs) → ⊥
    neither n m (inl f) = let y = (Decides-eqb u v).1 f in cc
    neither n m (inr i) = m i

-- a victim's resource is promoted once its request is removed
pub doom-promotes : (st : State) → DoesDoomPromote st
doom-promotes st v q e =
    let t = without_request v st.table in
    subst (λ (o : Option Claim). ArePromotionsLongest (q.resource ∷ []) t (after_promotions (resource_of_request o) t)) (sym e) (promotions-longest (q.resource ∷ []) t)

-- a request that its session takes back

-- the request goes, its resource is promoted, and all else stays
withdrawn-takes : (s : ℕ) (q : Claim) (st : State) → IsOnce st.table.requests → request_of s st.table.requests ≡ Some q → IsWithdrawalOf s q st (with_table (after_cancel s st.table) st)
withdrawn-takes s q st o e = record {
  waited = e;
  waits_no_more = (cancelled-own s st.table o).request ∙ request_of-claims_but s st.table.requests;
  held = (cancelled-own s st.table o).held;
  others = λ u m. elim (cancelled-others s st.table o u (other s u m)) [
    | inl a ↦ inl a
    | inr p ↦ inr (p.0, p.1, sym (wanted-is (request_of s st.table.requests) q p.0.resource e p.2))
  ];
  promotion = doom-promotes st s q e;
  transactions = (refl, refl);
}

-- a withdrawal that isn't refused takes the session's request back
pub withdraw-one : (st : State) → IsOnce st.table.requests → DoesWithdrawTakeRequest st
withdraw-one st o s h =
    let p = all-pass (tests st s Withdraw) (passes st s Withdraw h) in
    let w = waits (request_of s st.table.requests) p.1.1.0 in
    subst (λ (x : Outcome). (x.reply ≡ Withdrawn) × ((q : Claim) × IsWithdrawalOf s q st x.state)) (sym (step-acts st s Withdraw h))
    (refl, (w.0, withdrawn-takes s w.0 st o w.1))
  where
    waits : (r : Option Claim) → not (is_some r) ≡ false → (q : Claim) × (r ≡ Some q)
    waits None f = absurd (cc)
    waits (Some q) f = (q, refl)
