-- How a change of one session's locks keeps the table's invariant.
use Rattle.std.proofs.Common.{◌≡◌, ℕ, ◌≤◌, Bool, true, false, cond, not, eqb, ◌&&◌, ◌||◌, ◌⊎◌, inl, inr, List, [], ◌∷◌, Option, Some, None, refl, sym, ◌∙◌, ap, arith}
use Rattle.std.specs.Prelude.{filter, is_some}
use Rattle.std.specs.List.{list_all}
use Rattle.std.proofs.lemmas.Bool.Decides.{nat_tests, Decides-eqb}
use Rattle.std.proofs.lemmas.Bool.{and_parts, not-false, or_parts, cases_Bool}
use Rattle.lock_modes.specs.declared.Mode.{Mode}
use Rattle.lock_modes.specs.Order.{IsAtOrBelow, at_or_below, need_of}
use Rattle.lock_modes.proofs.Order.{order-from, at_or_below-refl, at_or_below-trans}
use Rattle.lock_modes.specs.Compatibility.{are_compatible}
use Rattle.lock_tree.specs.Paths.{same_path, parent_of, has_parent}
use Rattle.lock_rules.specs.Laws.{IsUnderParent}
use Rattle.lock_rules.specs.State.{Claim, Table, mode_in, held_mode, mode_or_nothing, request_of, claims_but, holders}
use Rattle.lock_rules.specs.Queue.{queue, fits, after_grant}
use Rattle.lock_rules.specs.Waits.{conflicts, without_request}
use Rattle.lock_rules.specs.Step.{is_nothing, lacks_parent}
use Rattle.lock_rules.specs.Sound.{GoTogetherByTest, IsOnce, IsOrdered, IsSound, Stands, after, ascend, times}
use Rattle.lock_rules.proofs.Lists.{ordered-with_lock, seek, seek-after, mode_in-seek, eqb-refl, same_path_tells, mode_in-with_lock, mode_in-with_lock_path, mode_in-with_lock_other, times-claims_but, times-append, times-apart, In, In-append, In-filter, In-request}
use Rattle.lock_rules.proofs.Marks.{need-some, conflicts-raised, nothing-below}
use Rattle.lock_rules.proofs.Alters.{Alters, queue-alters, request-alters, waiting-other, true≢false}

-- two modes that go together do so in the other order too
pub GoTogetherByTest-swap : (a b : Mode) → GoTogetherByTest a b → GoTogetherByTest b a
GoTogetherByTest-swap a b h = elim h [ inl k ↦ inr k | inr k ↦ inl k ]

-- the parent rule keeps holding if the session's lock on the parent stays
pub lacks-same : (t t' : Table) (s : ℕ) (r : List ℕ) (m : Mode) → mode_in s (parent_of r) t'.held ≡ mode_in s (parent_of r) t.held → lacks_parent t s r m ≡ false → lacks_parent t' s r m ≡ false
lacks-same t t' s r m e h = ap (λ (o : Option Mode). has_parent r && not (at_or_below (need_of m) (mode_or_nothing o))) e ∙ h

-- the test of equality fails in either order
pub eqb-swap : (s u : ℕ) → eqb s u ≡ false → eqb u s ≡ false
eqb-swap s u h = grind (arith, nat_tests)

-- `Stands` keeps holding if the session's lock on the parent stays
pub stands-same : (t t' : Table) (s : ℕ) (r : List ℕ) (m : Mode) → mode_in s (parent_of r) t'.held ≡ mode_in s (parent_of r) t.held → Stands t s r m → Stands t' s r m
stands-same t t' s r m e h = (lacks-same t t' s r m e h.0, h.1)

-- a change of v's locks keeps the invariant if v's new locks obey the parent rule and go with those of others
pub altered-sound : (v : ℕ) (t t' : Table) → Alters v t t' → IsSound t
    → ((r : List ℕ) (k : Mode) → held_mode t' v r ≡ Some k → Stands t' v r k)
    → ((u : ℕ) (r : List ℕ) (k l : Mode) → eqb u v ≡ false → held_mode t' v r ≡ Some k → held_mode t u r ≡ Some l → GoTogetherByTest k l)
    → IsSound t'
altered-sound v t t' a i under agree = record {
  order = a.order i.order;
  once = λ s. omega (arith, times-claims_but s v t.requests, i.once s, ap (times s) a.requests);
  raising = λ s q e. elim (cases_Bool (eqb s v)) [
    | inl f ↦ absurd (waiting-other v t t' a s q e ((Decides-eqb s v).0 f))
    | inr n ↦ ap (λ (o : Option Mode). at_or_below (mode_or_nothing o) q.mode) (a.others s q.resource n) ∙ i.raising s q (sym (request-alters v t t' a s n) ∙ e)
  ];
  asked_under = λ s q e. elim (cases_Bool (eqb s v)) [
    | inl f ↦ absurd (waiting-other v t t' a s q e ((Decides-eqb s v).0 f))
    | inr n ↦ stands-same t t' s q.resource q.mode (a.others s (parent_of q.resource) n) (i.asked_under s q (sym (request-alters v t t' a s n) ∙ e))
  ];
  held_under = λ s r k e. elim (cases_Bool (eqb s v)) [
    | inl f ↦ let g = (Decides-eqb s v).0 f in rw g (under r k (rw g at e))
    | inr n ↦ stands-same t t' s r k (a.others s (parent_of r) n) (i.held_under s r k (sym (a.others s r n) ∙ e))
  ];
  agree = λ s u r k l n e f. elim (cases_Bool (eqb s v)) [
    | inl g ↦ let h = (Decides-eqb s v).0 g in
        let m = eqb-swap v u (rw h at n) in
        agree u r k l m (rw h at e) (sym (a.others u r m) ∙ f)
    | inr m ↦ elim (cases_Bool (eqb u v)) [
      | inl g ↦ let h = (Decides-eqb u v).0 g in GoTogetherByTest-swap l k (agree s r l k m (rw h at f) (sym (a.others s r m) ∙ e))
      | inr p ↦ i.agree s u r k l n (sym (a.others s r m) ∙ e) (sym (a.others u r p) ∙ f)
    ]
  ];
}

-- modes that fit, and modes that don't

-- a mode that fits is compatible with each other holder's mode
fits-each : (s : ℕ) (m : Mode) (hs : List (ℕ × Mode)) → list_all (λ h. eqb h.0 s || are_compatible m h.1) hs ≡ true → (u : ℕ) (k : Mode) → eqb u s ≡ false → seek u hs ≡ Some k → are_compatible m k ≡ true
fits-each s m [] h u k n e = absurd (cc)
fits-each s m (c ∷ hs) h u k n e = grind (arith, nat_tests, cases_Bool (are_compatible m c.1), fits-each s m hs)

-- a mode that fits conflicts with no other session's lock
pub fits-tells : (t : Table) (s : ℕ) (r : List ℕ) (m : Mode) → fits t s r m ≡ true → (u : ℕ) → eqb u s ≡ false → conflicts m (held_mode t u r) ≡ false
fits-tells t s r m h u n = go (mode_in u r t.held) refl
  where
    go : (o : Option Mode) → mode_in u r t.held ≡ o → conflicts m (mode_in u r t.held) ≡ false
    go None e = ap (conflicts m) e
    go (Some k) e = ap (conflicts m) e ∙ ap not (fits-each s m (holders r t.held) h u k n (sym (mode_in-seek u r t.held) ∙ e))

-- a mode that doesn't fit conflicts with some other holder's mode
unfit-each : (s : ℕ) (m : Mode) (hs : List (ℕ × Mode)) → list_all (λ h. eqb h.0 s || are_compatible m h.1) hs ≡ false → ascend hs ≡ true → (u : ℕ) × (eqb u s ≡ false) × (conflicts m (seek u hs) ≡ true)
unfit-each s m [] h a = absurd (cc)
unfit-each s m (c ∷ hs) h a = elim (cases_Bool (eqb c.0 s || are_compatible m c.1)) [
  | inl e ↦
      let w = unfit-each s m hs (later _ _ e h) p.1 in
      (w.0, w.1, beyond w.0 w.2 (cases_Bool (eqb c.0 w.0)))
  | inr e ↦ let q = or_parts (eqb c.0 s) (are_compatible m c.1) e in (c.0, q.0, ap (λ (b : Bool). conflicts m (cond b (Some c.1) (seek c.0 hs))) (eqb-refl c.0) ∙ ap not q.1)
]
  where
    p : (after c.0 hs ≡ true) × (ascend hs ≡ true)
    p = and_parts (after c.0 hs) (ascend hs) a

    later : (x y : Bool) → x ≡ true → (x && y) ≡ false → y ≡ false
    later true y e h = h
    later false y e h = cc

    beyond : (u : ℕ) → conflicts m (seek u hs) ≡ true → (eqb c.0 u ≡ true) ⊎ (eqb c.0 u ≡ false) → conflicts m (cond (eqb c.0 u) (Some c.1) (seek u hs)) ≡ true
    beyond u k (inl e) = let f = ap (λ (i : ℕ). conflicts m (seek i hs)) (sym ((Decides-eqb c.0 u).0 e)) ∙ ap (conflicts m) (seek-after c.0 hs p.0) in absurd (true≢false k f)
    beyond u k (inr e) = ap (λ (b : Bool). conflicts m (cond b (Some c.1) (seek u hs))) e ∙ k

-- a mode that doesn't fit conflicts with some other session's lock
pub unfit-some : (t : Table) → IsOrdered t.held → (s : ℕ) (r : List ℕ) (m : Mode) → fits t s r m ≡ false → (u : ℕ) × (eqb u s ≡ false) × (conflicts m (held_mode t u r) ≡ true)
unfit-some t o s r m h = let w = unfit-each s m (holders r t.held) h (o r) in (w.0, w.1, ap (conflicts m) (mode_in-seek w.0 r t.held) ∙ w.2)

-- if v's lock on a resource doesn't fall, what didn't fit there still doesn't
pub unfit-kept : (v : ℕ) (t t' : Table) → Alters v t t' → IsOrdered t.held → (x : List ℕ) → at_or_below (mode_or_nothing (held_mode t v x)) (mode_or_nothing (held_mode t' v x)) ≡ true → (s : ℕ) (m : Mode) → fits t s x m ≡ false → fits t' s x m ≡ false
unfit-kept v t t' a o x up s m h = elim (cases_Bool (fits t' s x m)) [
  | inr k ↦ k
  | inl k ↦ let w = unfit-some t o s x m h in absurd (true≢false (conflict w.0 w.2 (cases_Bool (eqb w.0 v))) (fits-tells t' s x m k w.0 w.1))
]
  where
    conflict : (u : ℕ) → conflicts m (mode_in u x t.held) ≡ true → (eqb u v ≡ true) ⊎ (eqb u v ≡ false) → conflicts m (mode_in u x t'.held) ≡ true
    conflict u k c = elim c [
      | inl e ↦ let f = (Decides-eqb u v).0 e in rw f (conflicts-raised m (mode_in v x t.held) (mode_in v x t'.held) up (rw f at k))
      | inr n ↦ ap (conflicts m) (a.others u x n) ∙ k
    ]

-- queues

-- a request in a queue is a waiting request for its resource
pub In-queue : (t : Table) (x : List ℕ) (h : Claim) → In h (queue t x) → In h t.requests × (same_path h.resource x ≡ true)
In-queue t x h i = elim (In-append h _ _ i) [
  | inl j ↦ let r = In-filter (λ q. same_path q.resource x && is_some (held_mode t q.session x)) h t.requests j in (r.0, (and_parts (same_path h.resource x) (is_some (held_mode t h.session x)) r.1).0)
  | inr j ↦ let r = In-filter (λ q. same_path q.resource x && not (is_some (held_mode t q.session x))) h t.requests j in (r.0, (and_parts (same_path h.resource x) (not (is_some (held_mode t h.session x))) r.1).0)
]

-- the head of a queue is its session's request, for the queue's resource
pub head-request : (t : Table) (x : List ℕ) (h : Claim) (hs : List Claim) → IsOnce t.requests → queue t x ≡ h ∷ hs → (request_of h.session t.requests ≡ Some h) × (same_path h.resource x ≡ true)
head-request t x h hs o e =
    let i = In-queue t x h (rw e (inl refl)) in
    (In-request h t.requests (o h.session) i.0, i.1)

-- a request isn't both a conversion and fresh
pub either-kind : (b c : Bool) → (b && c) ≡ true → (b && not c) ≡ false
either-kind true true h = refl
either-kind true false h = cc
either-kind false c h = refl

-- a queue has no more requests of a session than the table
times-queue : (t : Table) (x : List ℕ) (s : ℕ) → times s (queue t x) ≤ times s t.requests
times-queue t x s = omega (
  arith,
  times-append s (filter (λ q. same_path q.resource x && is_some (held_mode t q.session x)) t.requests) (filter (λ q. same_path q.resource x && not (is_some (held_mode t q.session x))) t.requests),
  times-apart s (λ q. same_path q.resource x && is_some (held_mode t q.session x)) (λ q. same_path q.resource x && not (is_some (held_mode t q.session x))) t.requests (λ q h. either-kind (same_path q.resource x) (is_some (held_mode t q.session x)) h),
)

-- removing the requests of a session counted 0 times changes nothing
claims_but-absent : (s : ℕ) (qs : List Claim) → times s qs ≡ 0 → claims_but s qs ≡ qs
claims_but-absent s [] h = refl
claims_but-absent s (q ∷ qs) h = grind (arith, nat_tests, claims_but-absent s qs)

-- removing the head's session leaves the rest, if it has no other request
claims_but-head : (q : Claim) (qs : List Claim) → times q.session (q ∷ qs) ≤ 1 → claims_but q.session (q ∷ qs) ≡ qs
claims_but-head q qs h = grind (arith, nat_tests, claims_but-absent q.session qs)

-- once the head of a queue is gone, the rest is the queue
pub queue-rest : (t t' : Table) (r : List ℕ) (q : Claim) (qs : List Claim) → IsOnce t.requests → queue t r ≡ q ∷ qs → Alters q.session t t' → queue t' r ≡ qs
queue-rest t t' r q qs o e a =
    queue-alters q.session t t' a r ∙ (ap (claims_but q.session) e ∙ claims_but-head q qs (omega (arith, times-queue t r q.session, o q.session, ap (times q.session) e)))

-- no head of a queue fits

-- the head of the resource's queue, if there is one, doesn't fit
abbrev pub UnfitAt : Table → List ℕ → Type 0
UnfitAt t x = (q : Claim) (qs : List Claim) → queue t x ≡ q ∷ qs → fits t q.session x q.mode ≡ false

-- if v doesn't wait for a resource, its queue keeps its head
same-head : (v : ℕ) (t t' : Table) (x : List ℕ) → Alters v t t' → ((q : Claim) → request_of v t.requests ≡ Some q → same_path q.resource x ≡ false) → IsOnce t.requests
    → (q : Claim) (qs : List Claim) → queue t' x ≡ q ∷ qs → (old : List Claim) → queue t x ≡ old → (hs : List Claim) × (queue t x ≡ q ∷ hs)
same-head v t t' x a apart o q qs e [] f = let g = queue-alters v t t' a x ∙ ap (claims_but v) f in absurd (cc)
same-head v t t' x a apart o q qs e (h ∷ hs) f = elim (cases_Bool (eqb h.session v)) [
  | inl k ↦
      let r = head-request t x h hs o f in
      absurd (true≢false r.1 (apart h (ap (λ (i : ℕ). request_of i t.requests) (sym ((Decides-eqb h.session v).0 k)) ∙ r.0)))
  | inr k ↦
      let g = sym e ∙ (queue-alters v t t' a x ∙ (ap (claims_but v) f ∙ ap (λ (b : Bool). cond (not b) (h ∷ claims_but v hs) (claims_but v hs)) k)) in
      let same : h ≡ q = cc in
      (hs, f ∙ ap (λ (c : Claim). c ∷ hs) same)
]

-- a head that doesn't fit still doesn't, if v didn't wait there and its lock there doesn't fall
pub unfit_at-alters : (v : ℕ) (t t' : Table) (x : List ℕ) → Alters v t t' → at_or_below (mode_or_nothing (held_mode t v x)) (mode_or_nothing (held_mode t' v x)) ≡ true
    → ((q : Claim) → request_of v t.requests ≡ Some q → same_path q.resource x ≡ false) → IsSound t → UnfitAt t x → UnfitAt t' x
unfit_at-alters v t t' x a up apart i h q qs e =
    let old = same-head v t t' x a apart i.once q qs e (queue t x) refl in
    unfit-kept v t t' a i.order x up q.session q.mode (h q old.0 old.1)

-- a grant

-- a grant is such a change
pub granted-alters : (s : ℕ) (r : List ℕ) (m : Mode) (t : Table) → Alters s t (after_grant s r m t)
granted-alters s r m t = record { requests = refl; others = λ u x n. mode_in-with_lock_other u s x r m t.held n; order = ordered-with_lock s r m t.held }

-- the removal of a request is such a change
pub no_more-alters : (s : ℕ) (t : Table) → Alters s t (without_request s t)
no_more-alters s t = record { requests = refl; others = λ u x n. refl; order = λ o. o }

-- no session's lock on any resource falls
abbrev pub Rises : Table → Table → Type 0
Rises t t' = (s : ℕ) (x : List ℕ) → at_or_below (mode_or_nothing (held_mode t s x)) (mode_or_nothing (held_mode t' s x)) ≡ true

-- an equal mode is no lower
pub same-rises : (a b : Option Mode) → b ≡ a → at_or_below (mode_or_nothing a) (mode_or_nothing b) ≡ true
same-rises a b e = rw e (at_or_below-refl (mode_or_nothing a))

-- after a grant nobody holds less, if the granted mode is at or above the one held
pub granted-rises : (s : ℕ) (r : List ℕ) (m : Mode) (t : Table) → at_or_below (mode_or_nothing (held_mode t s r)) m ≡ true → Rises t (after_grant s r m t)
granted-rises s r m t h u x = elim (cases_Bool (eqb u s)) [
  | inr n ↦ same-rises _ _ (mode_in-with_lock_other u s x r m t.held n)
  | inl e ↦ let f = (Decides-eqb u s).0 e in elim (same_path_tells r x) [
    | inr n ↦ same-rises _ _ (mode_in-with_lock_path u s x r m t.held n)
    | inl p ↦ let g = sym p.1 in rw (f, g) (ap (λ (o : Option Mode). at_or_below (mode_or_nothing (mode_in s r t.held)) (mode_or_nothing o)) (mode_in-with_lock s r m t.held) ∙ h)
  ]
]

-- a need that a mode covers is covered by any mode above it
lacks-at : (b : Bool) (n a c : Mode) → at_or_below a c ≡ true → (b && not (at_or_below n a)) ≡ false → (b && not (at_or_below n c)) ≡ false
lacks-at false n a c h k = refl
lacks-at true n a c h k = ap not (at_or_below-trans n a c (not-false _ k) h)

-- the parent rule keeps holding if the lock on the parent rises
pub lacks-raised : (t t' : Table) (s : ℕ) (r : List ℕ) (m : Mode) → at_or_below (mode_or_nothing (held_mode t s (parent_of r))) (mode_or_nothing (held_mode t' s (parent_of r))) ≡ true → lacks_parent t s r m ≡ false → lacks_parent t' s r m ≡ false
lacks-raised t t' s r m up h = lacks-at (has_parent r) (need_of m) (mode_or_nothing (held_mode t s (parent_of r))) (mode_or_nothing (held_mode t' s (parent_of r))) up h

-- `Stands` keeps holding if the lock on the parent rises
pub stands-raised : (t t' : Table) (s : ℕ) (r : List ℕ) (m : Mode) → at_or_below (mode_or_nothing (held_mode t s (parent_of r))) (mode_or_nothing (held_mode t' s (parent_of r))) ≡ true → Stands t s r m → Stands t' s r m
stands-raised t t' s r m up h = (lacks-raised t t' s r m up h.0, h.1)

-- a grant of a target that fits and obeys the parent rule keeps the invariant
pub granted-sound : (s : ℕ) (r : List ℕ) (m : Mode) (t : Table) → IsSound t → at_or_below (mode_or_nothing (held_mode t s r)) m ≡ true → Stands t s r m → fits t s r m ≡ true → IsSound (after_grant s r m t)
granted-sound s r m t i up under fit = altered-sound s t (after_grant s r m t) (granted-alters s r m t) i
    (λ x k e. stands-raised t (after_grant s r m t) s x k (granted-rises s r m t up s (parent_of x)) (elim (same_path_tells r x) [
      | inl p ↦ let g = sym p.1 in let f = sym (mode_in-with_lock s r m t.held) ∙ rw g at e in let same : m ≡ k = cc in rw (g, ← same) under
      | inr n ↦ i.held_under s x k (sym (mode_in-with_lock_path s s x r m t.held n) ∙ e)
    ]))
    (λ u x k l n e f. elim (same_path_tells r x) [
      | inl p ↦ let g = sym p.1 in let f2 = sym (mode_in-with_lock s r m t.held) ∙ rw g at e in let same : m ≡ k = cc in
          inl (rw (← same) (compatible m l (ap (conflicts m) (sym (rw g at f)) ∙ fits-tells t s r m fit u n)))
      | inr n2 ↦ i.agree s u x k l (eqb-swap u s n) (sym (mode_in-with_lock_path s s x r m t.held n2) ∙ e) f
    ])
  where
    compatible : (m l : Mode) → not (are_compatible m l) ≡ false → are_compatible m l ≡ true
    compatible m l h = not-false (are_compatible m l) h

-- a session without a lock holds at most any mode
pub none-below : (o : Option Mode) (k : Mode) → o ≡ None → at_or_below (mode_or_nothing o) k ≡ true
none-below o k e = ap (λ (p : Option Mode). at_or_below (mode_or_nothing p) k) e ∙ nothing-below k

-- the parent rule, as the laws state it

-- the test of the parent rule, as a relation
pub under-parent : (b : Bool) (m : Mode) (o : Option Mode) → is_nothing m ≡ false → (b && not (at_or_below (need_of m) (mode_or_nothing o))) ≡ false → b ≡ true → (k : Mode) × (o ≡ Some k) × IsAtOrBelow (need_of m) k
under-parent false m o n h e = absurd (cc)
under-parent true m None n h e = absurd (true≢false (not-false _ h) (need-some m n))
under-parent true m (Some k) n h e = (k, refl, order-from (need_of m) k (not-false _ h))

-- what passes the test of the parent rule obeys it as the laws state it
pub stands-under : (t : Table) (s : ℕ) (r : List ℕ) (m : Mode) → Stands t s r m → IsUnderParent t s r m
stands-under t s r m h p = under-parent (has_parent r) m (held_mode t s (parent_of r)) h.1 h.0 p
