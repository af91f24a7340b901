-- One event more, and one entry more, of calls that are linearizable. Of any object.
use Rattle.std.proofs.Common.{◌≡◌, ◌⊎◌, inl, inr, ⊎_elim, ℕ, suc, ◌+◌, ◌<◌, ◌≤◌, Bool, true, false, cond, is_some, eqb, Option, Some, None, List, [], ◌∷◌, ◌++◌, length, refl, sym, ap, subst, ◌∙◌, arith, append-nil, length-append}
use Rattle.std.proofs.lemmas.List.{length-map}
use Rattle.std.proofs.lemmas.List.Elements.{All-push}
use Rattle.sequential.specs.declared.entry.Entry.{Entry}
use Rattle.sequential.specs.declared.object.Sequential.{Ghosts}
use Rattle.sequential.specs.Histories.{Answered, calls_from, calls_of, IsEntryWithin}
use Rattle.sequential.specs.Linearizable.{Event, invocation, response, Calls, after_response, after_event, after_events, calls_in, invoked, MayFollow, IsWellFormed, performed_by, IsCompletionOf, IsLinearization}
use Rattle.sequential.proofs.SessionCalls.{calls_of-push}
use Rattle.publication.proofs.Splitting.{last-split, snoc-split}

module _ {C R : Type 0} where
  -- One event more of sessions that make one call after another.
  pub well_formed-push : (n : ℕ) (es : List (Event C R)) (e : Event C R) → IsWellFormed n es → MayFollow n es e → IsWellFormed n (es ++ e ∷ [])
  well_formed-push n es e well may before after x split = ⊎_elim
      (λ t. well before t.0 x t.1)
      (λ t. subst (λ (b : List (Event C R)). MayFollow n b x) (sym t.0) (subst (MayFollow n es) (sym t.1) may))
      (snoc-split es before after e x split)

  -- The history has no more calls of a session than it has made, and no fewer than have returned.
  performed-few : (d : Calls C R) (performed : List (C × R)) → IsCompletionOf d performed → (length performed ≤ invoked d) × (length d.returned ≤ length performed)
  performed-few d performed (inl e) = let n = ap {B = ℕ} (λ (l : List (C × R)). length l) e in (omega (arith, n), omega (arith, n))
  performed-few d performed (inr t) =
      let n = ap {B = ℕ} (λ (l : List (C × R)). length l) t.3 in
      let m = length-append d.returned ((t.0, t.1) ∷ []) in
      let p = ap {B = ℕ} (λ (o : Option C). cond (is_some o) 1 0) t.2 in
      (omega (arith, n, m, p), omega (arith, n, m, p))

  performed-length : (i : ℕ) (h : List (Entry C R)) → length (performed_by i h) ≡ length (calls_of i h)
  performed-length i h = length-map (calls_of i h) (λ a. (a.call, a.reply))

  -- An event more takes back none that has returned.
  response-more : (returned : List (C × R)) (pending : Option C) (reply : R) → length returned ≤ length (after_response reply (record { returned = returned; pending = pending })).returned
  response-more returned None reply = let none : List (C × R) = [] in omega (arith, length-append returned none)
  response-more returned (Some c) reply = omega (arith, length-append returned ((c, reply) ∷ []))

  event-more : (i : ℕ) (d : Calls C R) (e : Event C R) → length d.returned ≤ length (after_event i d e).returned
  event-more i d (invocation j call) = go (eqb j i)
    where
      go : (b : Bool) → length d.returned ≤ length (cond b (record { returned = d.returned; pending = Some call }) d).returned
      go true = omega arith
      go false = omega arith
  event-more i d (response j reply) = go (eqb j i)
    where
      go : (b : Bool) → length d.returned ≤ length (cond b (after_response reply d) d).returned
      go true = response-more d.returned d.pending reply
      go false = omega arith

  events-more : (i : ℕ) (d : Calls C R) (es : List (Event C R)) → length d.returned ≤ length (after_events i d es).returned
  events-more i d [] = omega arith
  events-more i d (e ∷ es) = omega (arith, event-more i d e, events-more i (after_event i d e) es)

  after-append : (i : ℕ) (d : Calls C R) (xs ys : List (Event C R)) → after_events i d (xs ++ ys) ≡ after_events i (after_events i d xs) ys
  after-append i d [] ys = refl
  after-append i d (x ∷ xs) ys = after-append i (after_event i d x) xs ys

  returned-early : (i : ℕ) (before after es : List (Event C R)) → es ≡ before ++ after → length (calls_in i before).returned ≤ length (calls_in i es).returned
  returned-early i before after es split =
      let e = ap {B = ℕ} (λ (l : List (Event C R)). length (calls_in i l).returned) split in
      let f = ap {B = ℕ} (λ (d : Calls C R). length d.returned) (after-append i (record { returned = []; pending = None }) before after) in
      omega (arith, e, f, events-more i (calls_in i before) after)

  -- A call of a history has its place in it.
  places : (i p : ℕ) (h : List (Entry C R)) (first others : List (Answered C R)) (x : Answered C R) → calls_from i p h ≡ first ++ x ∷ others → x.place < p + length h
  places i p [] [] others x e = absurd (cc e)
  places i p [] (f ∷ first) others x e = absurd (cc e)
  places i p (d ∷ h) first others x e = go (eqb d.session i) first (places i (p + 1) h) e
    where
      go : (b : Bool) (first : List (Answered C R)) → ((first others : List (Answered C R)) (x : Answered C R) → calls_from i (p + 1) h ≡ first ++ x ∷ others → x.place < p + 1 + length h)
          → cond b (record { place = p; call = d.call; reply = d.reply } ∷ calls_from i (p + 1) h) (calls_from i (p + 1) h) ≡ first ++ x ∷ others → x.place < p + suc (length h)
      go true [] rest e = let f : record { place = p; call = d.call; reply = d.reply } ≡ x = cc e in let g = ap (λ (a : Answered C R). a.place) f in omega (arith, g)
      go true (f ∷ first) rest e = let r = rest first others x (cc e) in omega (arith, r)
      go false first rest e = let r = rest first others x e in omega (arith, r)

  -- After all events, no call of the history is made later.
  none-later : (n : ℕ) (es : List (Event C R)) (h : List (Entry C R)) → ((i : ℕ) → 1 ≤ i → i ≤ n → IsCompletionOf (calls_in i es) (performed_by i h))
      → (j : ℕ) → 1 ≤ j → j ≤ n → (y : Answered C R) (earlier later : List (Answered C R)) → calls_of j h ≡ earlier ++ y ∷ later → invoked (calls_in j es) ≤ length earlier → ⊥
  none-later n es h equal j some few y earlier later is made =
      let f = performed-few (calls_in j es) (performed_by j h) (equal j some few) in
      let few_made = f.0 in
      let l = ap {B = ℕ} (λ (a : List (Answered C R)). length a) is in
      omega (arith, few_made, performed-length j h, l, length-append earlier (y ∷ later), made)

module _ {O C R : Type 0} {obj : Ghosts O C R} where
  -- One event more, which leaves the history as it is.
  pub event-linear : (n : ℕ) (es : List (Event C R)) (h : List (Entry C R)) (e : Event C R) → IsLinearization obj n es h
      → ((i : ℕ) → 1 ≤ i → i ≤ n → IsCompletionOf (calls_in i (es ++ e ∷ [])) (performed_by i h)) → IsLinearization obj n (es ++ e ∷ []) h
  event-linear n es h e l equal = record {
    legal = l.legal;
    equal = equal;
    whose = l.whose;
    in_time = λ before after split i j i_some i_few j_some j_few x y first others earlier later x_is returned y_is made. ⊎_elim
        (λ t. absurd (none-later n (es ++ e ∷ []) h equal j j_some j_few y earlier later y_is (subst (λ (b : List (Event C R)). invoked (calls_in j b) ≤ length earlier) t.0 made)))
        (λ t. l.in_time before t.0 t.1 i j i_some i_few j_some j_few x y first others earlier later x_is returned y_is made)
        (last-split es before after e split);
  }

  -- One entry more, of a call that hasn't returned.
  pub entry-linear : (n : ℕ) (es : List (Event C R)) (h : List (Entry C R)) (e : Entry C R) → IsLinearization obj n es h → obj.is_legal (h ++ e ∷ []) → IsEntryWithin n e
      → ((i : ℕ) → 1 ≤ i → i ≤ n → IsCompletionOf (calls_in i es) (performed_by i (h ++ e ∷ []))) → IsLinearization obj n es (h ++ e ∷ [])
  entry-linear n es h e l legal within equal = record {
    legal = legal;
    equal = equal;
    whose = All-push (IsEntryWithin n) h e l.whose within;
    in_time = λ before after split i j i_some i_few j_some j_few x y first others earlier later x_is returned y_is made.
        let f = performed-few (calls_in i es) (performed_by i h) (l.equal i i_some i_few) in
        let enough = f.1 in
        let lt : length first < length (calls_of i h) = omega (arith, returned, enough, performed-length i h, returned-early i before after es split) in
        let old = was i first others x x_is lt in
        ⊎_elim
        (λ t. l.in_time before after split i j i_some i_few j_some j_few x y first old.0 earlier t.0 old.1 returned t.1 made)
        (λ (t : y.place ≡ length h). let p = places i 0 h first old.0 x old.1 in omega (arith, t, p))
        (is-new j earlier later y y_is);
  }
    where
      new : Answered C R
      new = record { place = length h; call = e.call; reply = e.reply }

      -- a call before the end is one of those before
      was : (i : ℕ) (first others : List (Answered C R)) (x : Answered C R) → calls_of i (h ++ e ∷ []) ≡ first ++ x ∷ others → length first < length (calls_of i h)
          → (rest : List (Answered C R)) × (calls_of i h ≡ first ++ x ∷ rest)
      was i first others x is lt = go (eqb e.session i) (sym (calls_of-push i h e) ∙ is)
        where
          go : (b : Bool) → calls_of i h ++ cond b (new ∷ []) [] ≡ first ++ x ∷ others → (rest : List (Answered C R)) × (calls_of i h ≡ first ++ x ∷ rest)
          go true k = ⊎_elim (λ t. t) (λ t. absurd (let z = ap {B = ℕ} (λ (a : List (Answered C R)). length a) t.0 in omega (arith, z, lt))) (snoc-split (calls_of i h) first others new x k)
          go false k = (others, sym (append-nil (calls_of i h)) ∙ k)

      -- a call is one of those before, or the last
      is-new : (j : ℕ) (earlier later : List (Answered C R)) (y : Answered C R) → calls_of j (h ++ e ∷ []) ≡ earlier ++ y ∷ later
          → ((rest : List (Answered C R)) × (calls_of j h ≡ earlier ++ y ∷ rest)) ⊎ (y.place ≡ length h)
      is-new j earlier later y is = go (eqb e.session j) (sym (calls_of-push j h e) ∙ is)
        where
          go : (b : Bool) → calls_of j h ++ cond b (new ∷ []) [] ≡ earlier ++ y ∷ later → ((rest : List (Answered C R)) × (calls_of j h ≡ earlier ++ y ∷ rest)) ⊎ (y.place ≡ length h)
          go true k = ⊎_elim (λ t. inl t) (λ t. inr (ap (λ (a : Answered C R). a.place) t.1)) (snoc-split (calls_of j h) earlier later new y k)
          go false k = inl (later, sym (append-nil (calls_of j h)) ∙ k)
