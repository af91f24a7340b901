-- The locks of a session as two lists: the indexed locks and the recent ones.
use Rattle.std.proofs.Common.{◌≡◌, ℕ, zero, suc, ◌-◌, ◌<◌, ◌≤◌, Bool, true, false, cond, ◌||◌, List, [], ◌∷◌, ◌++◌, length, length-append, get_or, set, take, drop, slice_get, unwrap_or, Option, None, Some, IfSome, Result, Ok, Err, IsOk, OnOk, refl, sym, ◌∙◌, ap, arith, subst, inl, inr}
use Rattle.std.specs.Map.{keys_of, values_of, lookup, lookup_key}
use Rattle.std.proofs.lemmas.Map.Made.{lookup_key_passes}
use Rattle.std.proofs.lemmas.Option.{slice_get_within, slice_get-get_or}
use Rattle.std.specs.List.{list_any, remove, swap_remove}
use Rattle.std.proofs.lemmas.Bool.{and_from, or_parts, or_right}
use Rattle.std.proofs.lemmas.List.{append_assoc, append-nil, get_or_default, map-append}
use Rattle.std.proofs.lemmas.List.Folds.{list_any-append}
use Rattle.indexmap.proofs.SetLemmas.{map-remove, map-swap_remove}
use Rattle.indexmap.specs.IndexMap.{set_value_at}
use Rattle.std.proofs.Math.Bool.{or-false}
use Rattle.lock_tree.specs.Paths.{same_path, parent_of, has_parent}
use Rattle.lock_rules.proofs.Lists.{same_path-refl, same_path-true, same_path_tells}
use Rattle.session_locks.specs.Resources.{has_path, AreApart}
use Rattle.session_locks.specs.declared.locks.HeldLock.{HeldLock}
use Rattle.session_locks.specs.LockLists.{is_child, has_child, IsUnder, IsWithout}
use Rattle.session_locks.specs.inner.ChildCounts.{AreUnder, resources_of}
use Rattle.session_locks.proofs.ResourceLists.{has_path-push, same_path-swap}
use Rattle.session_locks.proofs.ChildCounts as counts

-- two lists, one after the other

pub has_path-append : (q : List ℕ) (xs ys : List (List ℕ)) → has_path q (xs ++ ys) ≡ (has_path q xs || has_path q ys)
has_path-append q xs ys = list_any-append (λ x. same_path x q) xs ys

pub has_child-append : (q : List ℕ) (xs ys : List (List ℕ)) → has_child q (xs ++ ys) ≡ (has_child q xs || has_child q ys)
has_child-append q xs ys = list_any-append (λ x. is_child q x) xs ys

-- if no list has a resource twice and no resource is in both, their concatenation has none twice
pub record ArePartsApart (xs ys : List (List ℕ)) : Type 0 where
  pub first : AreApart xs
  pub second : AreApart ys
  pub none : (q : List ℕ) → has_path q xs ≡ true → has_path q ys ≡ false

pub apart-parts : (xs ys : List (List ℕ)) → AreApart (xs ++ ys) → ArePartsApart xs ys
apart-parts [] ys a = record { first = tt; second = a; none = λ q h. absurd (cc) }
apart-parts (x ∷ xs) ys a =
    let k = apart-parts xs ys a.1 in
    let p = or_parts (has_path x xs) (has_path x ys) (sym (has_path-append x xs ys) ∙ a.0) in
    record {
      first = (p.0, k.first);
      second = k.second;
      none = λ q h. elim (same_path_tells x q) [
        | inl e ↦ subst (λ (r : List ℕ). has_path r ys ≡ false) e.1 p.1
        | inr e ↦ k.none q (sym (ap (λ (b : Bool). b || has_path q xs) e) ∙ h)
      ];
    }

pub apart-join : (xs ys : List (List ℕ)) → AreApart xs → AreApart ys → ((q : List ℕ) → has_path q xs ≡ true → has_path q ys ≡ false) → AreApart (xs ++ ys)
apart-join [] ys a b n = b
apart-join (x ∷ xs) ys a b n =
    let own : has_path x ys ≡ false = n x (ap (λ (c : Bool). c || has_path x xs) (same_path-refl x)) in
    (has_path-append x xs ys ∙ ((λ i. a.0 i || own i)), apart-join xs ys a.1 b (λ q h. n q (or_right (same_path x q) (has_path q xs) h)))

-- the parent of each recent lock comes before it: after a push, after a pop

pub under-push : (rs qs : List (List ℕ)) (q : List ℕ) → AreUnder rs qs → IsUnder (rs ++ qs) q → AreUnder rs (qs ++ q ∷ [])
under-push rs [] q h u = (subst (λ (xs : List (List ℕ)). IsUnder xs q) (append-nil rs) u, tt)
under-push rs (x ∷ qs) q h u = (h.0, under-push (rs ++ x ∷ []) qs q h.1 (subst (λ (xs : List (List ℕ)). IsUnder xs q) (sym (append_assoc rs (x ∷ []) qs)) u))

pub under-pop : (rs qs : List (List ℕ)) (q : List ℕ) → AreUnder rs (qs ++ q ∷ []) → AreUnder rs qs
under-pop rs [] q h = tt
under-pop rs (x ∷ qs) q h = (h.0, under-pop (rs ++ x ∷ []) qs q h.1)

-- a resource without children among the recent locks can leave the index
pub under-less : (q : List ℕ) (rs less qs : List (List ℕ)) → ((p : List ℕ) → same_path q p ≡ false → has_path p less ≡ has_path p rs) → has_child q qs ≡ false → AreUnder rs qs → AreUnder less qs
under-less q rs less [] same n h = tt
under-less q rs less (x ∷ qs) same n h =
    let p = or_parts (is_child q x) (has_child q qs) n in (
      (λ has. go has (same_path q (parent_of x)) refl p.0),
      under-less q (rs ++ x ∷ []) (less ++ x ∷ []) qs (λ y e. has_path-push y x less ∙ (ap (λ (b : Bool). b || same_path x y) (same y e) ∙ sym (has_path-push y x rs))) p.1 h.1,
    )
  where
    go : has_parent x ≡ true → (b : Bool) → same_path q (parent_of x) ≡ b → is_child q x ≡ false → has_path (parent_of x) less ≡ true
    go has true e c = absurd (let child : is_child q x ≡ true = and_from (has_parent x) (same_path (parent_of x) q) has (subst (λ (y : List ℕ). same_path (parent_of x) y ≡ true) (sym (same_path-true q (parent_of x) e)) (same_path-refl (parent_of x))) in cc)
    go has false e c = same (parent_of x) e ∙ h.0 has

-- a resource is removed from the middle of a list

pub split-at : (xs : List (List ℕ)) (i : ℕ) → i < length xs → xs ≡ take i xs ++ get_or xs i [] ∷ drop (suc i) xs
split-at [] i lt = absurd (omega arith)
split-at (x ∷ xs) zero lt = refl
split-at (x ∷ xs) (suc i) lt = ap (λ (ys : List (List ℕ)). x ∷ ys) (split-at xs i (omega arith))

one-gone : (ys bs : List (List ℕ)) (q : List ℕ) → AreApart (ys ++ q ∷ bs) → has_path q (ys ++ bs) ≡ false
one-gone ys bs q a =
    let k = apart-parts ys (q ∷ bs) a in
    has_path-append q ys bs ∙ (λ i. first (has_path q ys) refl i || k.second.0 i)
  where
    first : (b : Bool) → has_path q ys ≡ b → has_path q ys ≡ false
    first false e = e
    first true e = absurd (let n = (apart-parts ys (q ∷ bs) a).none q e in let o : has_path q (q ∷ bs) ≡ true = ap (λ (c : Bool). c || has_path q bs) (same_path-refl q) in cc)

one-others : (ys bs : List (List ℕ)) (q p : List ℕ) → same_path q p ≡ false → has_path p (ys ++ bs) ≡ has_path p (ys ++ q ∷ bs)
one-others ys bs q p n = has_path-append p ys bs ∙ (ap (λ (b : Bool). has_path p ys || (b || has_path p bs)) (sym n) ∙ sym (has_path-append p ys (q ∷ bs)))

one-apart : (ys bs : List (List ℕ)) (q : List ℕ) → AreApart (ys ++ q ∷ bs) → AreApart (ys ++ bs)
one-apart ys bs q a = let k = apart-parts ys (q ∷ bs) a in apart-join ys bs k.first k.second.1 (λ p h. (or_parts (same_path q p) (has_path p bs) (k.none p h)).1)

one-under : (q : List ℕ) (rs fs bs : List (List ℕ)) → has_child q bs ≡ false → AreUnder rs (fs ++ q ∷ bs) → AreUnder rs (fs ++ bs)
one-under q rs [] bs n h = under-less q (rs ++ q ∷ []) rs bs (λ p e. sym (has_path-push p q rs ∙ (ap (λ (b : Bool). has_path p rs || b) e ∙ or-false (has_path p rs)))) n h.1
one-under q rs (x ∷ fs) bs n h = (h.0, one-under q (rs ++ x ∷ []) fs bs n h.1)

-- a lock is removed from the recent ones

module _ (rs qs : List (List ℕ)) (i : ℕ) (lt : i < length qs) (q : List ℕ) (at : get_or qs i [] ≡ q) where
  abbrev f : List (List ℕ)
  f = take i qs

  abbrev b : List (List ℕ)
  b = drop (suc i) qs

  is : qs ≡ f ++ q ∷ b
  is = split-at qs i lt ∙ ap (λ (x : List ℕ). f ++ x ∷ b) at

  all-is : rs ++ qs ≡ (rs ++ f) ++ q ∷ b
  all-is = ap (λ (xs : List (List ℕ)). rs ++ xs) is ∙ sym (append_assoc rs f (q ∷ b))

  left-is : rs ++ remove qs i ≡ (rs ++ f) ++ b
  left-is = sym (append_assoc rs f b)

  few-left : length (rs ++ remove qs i) ≤ length (rs ++ qs)
  few-left =
      let m = ap length left-is in
      let n = ap length all-is in
      omega (arith, m, n, length-append (rs ++ f) b, length-append (rs ++ f) (q ∷ b))

  pub recent-left : AreApart (rs ++ qs) → IsWithout q (rs ++ qs) (rs ++ remove qs i)
  recent-left a = record {
    gone = ap (has_path q) left-is ∙ one-gone (rs ++ f) b q (subst AreApart all-is a);
    others = λ p n. ap (has_path p) left-is ∙ (one-others (rs ++ f) b q p n ∙ sym (ap (has_path p) all-is));
    apart = subst AreApart (sym left-is) (one-apart (rs ++ f) b q (subst AreApart all-is a));
    few = few-left;
  }

  pub recent-under : has_child q (rs ++ qs) ≡ false → AreUnder rs qs → AreUnder rs (remove qs i)
  recent-under n u =
      let k = or_parts (has_child q (rs ++ f)) (has_child q (q ∷ b)) (sym (has_child-append q (rs ++ f) (q ∷ b)) ∙ (sym (ap (has_child q) all-is) ∙ n)) in
      one-under q rs f b (or_parts (is_child q q) (has_child q b) k.1).1 (subst (AreUnder rs) is u)

-- the resources of held locks

pub resources-push : (ls ms : List HeldLock) (l : HeldLock) → ms ≡ ls ++ l ∷ [] → resources_of ms ≡ resources_of ls ++ l.resource ∷ []
resources-push ls ms l e = ap resources_of e ∙ map-append (λ x. x.resource) ls (l ∷ [])

pub resources-remove : (ls ms : List HeldLock) (i : ℕ) → ms ≡ remove ls i → resources_of ms ≡ remove (resources_of ls) i
resources-remove ls ms i e = ap resources_of e ∙ map-remove (λ x. x.resource) ls i

pub resources-long : (ls : List HeldLock) → length (resources_of ls) ≡ length ls
resources-long [] = refl
resources-long (l ∷ ls) = ap suc (resources-long ls)

pub any-child : (r : List ℕ) (ls : List HeldLock) → list_any (λ (l : HeldLock). is_child r l.resource) ls ≡ has_child r (resources_of ls)
any-child r [] = refl
any-child r (l ∷ ls) = ap (λ (b : Bool). is_child r l.resource || b) (any-child r ls)

-- entries of the index

pub values-written : (es : List (List ℕ × ℕ)) (i n : ℕ) → values_of (set_value_at es i n) ≡ set (values_of es) i n
values-written [] i n = refl
values-written (e ∷ es) zero n = refl
values-written (e ∷ es) (suc i) n = ap (λ (ns : List ℕ). e.1 ∷ ns) (values-written es i n)

pub keys-written : (es : List (List ℕ × ℕ)) (i n : ℕ) → keys_of (set_value_at es i n) ≡ keys_of es
keys-written [] i n = refl
keys-written (e ∷ es) zero n = refl
keys-written (e ∷ es) (suc i) n = ap (λ (rs : List (List ℕ)). e.0 ∷ rs) (keys-written es i n)

pub keys-long : (es : List (List ℕ × ℕ)) → length (keys_of es) ≡ length es
keys-long [] = refl
keys-long (e ∷ es) = ap suc (keys-long es)

pub values-long : (es : List (List ℕ × ℕ)) → length (values_of es) ≡ length es
values-long [] = refl
values-long (e ∷ es) = ap suc (values-long es)

-- a resource that isn't found isn't among the keys
pub none-found : (q : List ℕ) (es : List (List ℕ × ℕ)) → has_path q (keys_of es) ≡ false → lookup (same_path q) es ≡ None
none-found q [] h = refl
none-found q (e ∷ es) h =
    let p = or_parts (same_path e.0 q) (has_path q (keys_of es)) h in
    ap (λ (b : Bool). cond b (Some e.1) (lookup (same_path q) es)) (same_path-swap e.0 q p.0) ∙ none-found q es p.1

-- a resource that isn't among the keys isn't found
pub not-among : (q : List ℕ) (es : List (List ℕ × ℕ)) → lookup (same_path q) es ≡ None → has_path q (keys_of es) ≡ false
not-among q [] h = refl
not-among q (e ∷ es) h = go (same_path q e.0) refl h (not-among q es)
  where
    go : (b : Bool) → same_path q e.0 ≡ b → cond b (Some e.1) (lookup (same_path q) es) ≡ None → (lookup (same_path q) es ≡ None → has_path q (keys_of es) ≡ false) → has_path q (keys_of (e ∷ es)) ≡ false
    go true t h next = absurd (cc)
    go false t h next = ap (λ (b : Bool). b || has_path q (keys_of es)) (same_path-swap q e.0 t) ∙ next h

-- an entry, in the lists of keys and of values

pub entry-within : (es : List (List ℕ × ℕ)) (i : ℕ) (k : List ℕ) (n : ℕ) → slice_get es i ≡ Some (k, n) → i < length es
entry-within es i k n e = slice_get_within es i (k, n) e

pub entry-key : (es : List (List ℕ × ℕ)) (i : ℕ) (k : List ℕ) (n : ℕ) → slice_get es i ≡ Some (k, n) → get_or (keys_of es) i [] ≡ k
entry-key [] i k n e = absurd (cc)
entry-key (x ∷ es) zero k n e = ap (λ (o : Option (List ℕ × ℕ)). (unwrap_or o (k, n)).0) e
entry-key (x ∷ es) (suc i) k n e = entry-key es i k n e

pub entry-value : (es : List (List ℕ × ℕ)) (i : ℕ) (k : List ℕ) (n : ℕ) → slice_get es i ≡ Some (k, n) → get_or (values_of es) i 0 ≡ n
entry-value [] i k n e = absurd (cc)
entry-value (x ∷ es) zero k n e = ap (λ (o : Option (List ℕ × ℕ)). (unwrap_or o (k, n)).1) e
entry-value (x ∷ es) (suc i) k n e = entry-value es i k n e

module _ (eq : List ℕ → List ℕ → Bool) (same : (a b : List ℕ) → eq a b ≡ same_path a b) where
  pub tests : eq ≡ same_path
  tests i a b = same a b i

  -- the key found is the key looked for
  pub key-is : (r : List ℕ) (es : List (List ℕ × ℕ)) (k : List ℕ) → Some k ≡ lookup_key (eq r) es → r ≡ k
  key-is r es k h = same_path-true r k (sym (same r k) ∙ lookup_key_passes (eq r) es k (sym h))

  pub not-found : (r : List ℕ) (es : List (List ℕ × ℕ)) → None ≡ lookup (eq r) es → has_path r (keys_of es) ≡ false
  not-found r es h = not-among r es (ap (λ (t : List ℕ → List ℕ → Bool). lookup (t r) es) (sym tests) ∙ sym h)

  pub new-found : (r : List ℕ) (es : List (List ℕ × ℕ)) → has_path r (keys_of es) ≡ false → lookup (eq r) es ≡ None
  new-found r es h = ap (λ (t : List ℕ → List ℕ → Bool). lookup (t r) es) tests ∙ none-found r es h

-- in a list without repetition, what comes after a resource isn't the resource
pub before-none : (ks qs rest : List (List ℕ)) (x : List ℕ) → qs ≡ x ∷ rest → AreApart (ks ++ qs) → has_path x ks ≡ false
before-none ks qs rest x e a = go (has_path x ks) refl
  where
    go : (b : Bool) → has_path x ks ≡ b → b ≡ false
    go false h = refl
    go true h = absurd (let n = (apart-parts ks (x ∷ rest) (subst (λ (ys : List (List ℕ)). AreApart (ks ++ ys)) e a)).none x h in let o : has_path x (x ∷ rest) ≡ true = ap (λ (c : Bool). c || has_path x rest) (same_path-refl x) in cc)

pub keys-push : (es : List (List ℕ × ℕ)) (k : List ℕ) (n : ℕ) → keys_of (es ++ (k, n) ∷ []) ≡ keys_of es ++ k ∷ []
keys-push [] k n = refl
keys-push (e ∷ es) k n = ap (λ (rs : List (List ℕ)). e.0 ∷ rs) (keys-push es k n)

pub values-push : (es : List (List ℕ × ℕ)) (k : List ℕ) (n : ℕ) → values_of (es ++ (k, n) ∷ []) ≡ values_of es ++ n ∷ []
values-push [] k n = refl
values-push (e ∷ es) k n = ap (λ (ns : List ℕ). e.1 ∷ ns) (values-push es k n)

-- swap_remove puts the last item at the place of the removed one, whatever stands for a missing item
pub swap-any : {X : Type 0} (xs : List X) (i : ℕ) (c d : X) → 0 < length xs → swap_remove xs i c ≡ swap_remove xs i d
swap-any {X = X} xs i c d some = ap (λ (x : X). take (length xs - 1) (set xs i x)) (get_or_default xs (length xs - 1) c d (omega arith))

pub record IsSwapped (old new : List (List ℕ × ℕ)) (i : ℕ) : Type 0 where
  pub keys : keys_of new ≡ swap_remove (keys_of old) i []
  pub values : values_of new ≡ swap_remove (values_of old) i 0

pub swapped : (o : Option (List ℕ × ℕ)) (old new : List (List ℕ × ℕ)) (i : ℕ) → i < length old → o ≡ slice_get old i → IfSome o (λ p. new ≡ swap_remove old i p) → IsSwapped old new i
swapped None old new i lt e h = absurd (let f = slice_get-get_or old i ([], 0) lt in cc)
swapped (Some p) old new i lt e h = record {
  keys = ap keys_of h ∙ (map-swap_remove (λ x. x.0) old i p (omega (arith, lt)) ∙ swap-any (keys_of old) i p.0 [] (omega (arith, lt, keys-long old)));
  values = ap values_of h ∙ (map-swap_remove (λ x. x.1) old i p (omega (arith, lt)) ∙ swap-any (values_of old) i p.1 0 (omega (arith, lt, values-long old)));
}

-- a lock is removed from the index

module _ (ks qs : List (List ℕ)) (p : ℕ) (lt : p < length ks) (q : List ℕ) (at : get_or ks p [] ≡ q) (none : has_path q qs ≡ false) (a : AreApart (ks ++ qs)) where
  same-left : swap_remove ks p [] ≡ swap_remove ks p (get_or ks p [])
  same-left = swap-any ks p [] (get_or ks p []) (omega (arith, lt))

  first-apart : AreApart ks
  first-apart = (apart-parts ks qs a).first

  own-gone : has_path q (swap_remove ks p []) ≡ false
  own-gone = ap (has_path q) same-left ∙ (ap (λ (x : List ℕ). has_path x (swap_remove ks p (get_or ks p []))) (sym at) ∙ counts.left-gone ks [] [] p lt first-apart)

  indexed-has : (x : List ℕ) → same_path q x ≡ false → has_path x (swap_remove ks p []) ≡ has_path x ks
  indexed-has x n = ap (has_path x) same-left ∙ counts.left-has ks [] [] p lt first-apart x (ap (λ (y : List ℕ). same_path y x) at ∙ n)

  few-left-indexed : length (swap_remove ks p [] ++ qs) ≤ length (ks ++ qs)
  few-left-indexed =
      let e = ap length same-left in
      omega (arith, e, counts.left-long ks [] [] p lt first-apart, length-append (swap_remove ks p []) qs, length-append ks qs)

  pub indexed-left : IsWithout q (ks ++ qs) (swap_remove ks p [] ++ qs)
  indexed-left = record {
    gone = has_path-append q (swap_remove ks p []) qs ∙ (λ i. own-gone i || none i);
    others = λ x n. has_path-append x (swap_remove ks p []) qs ∙ (ap (λ (b : Bool). b || has_path x qs) (indexed-has x n) ∙ sym (has_path-append x ks qs));
    apart =
        apart-join (swap_remove ks p []) qs (subst AreApart (sym same-left) (counts.left-apart ks [] [] p lt first-apart)) (apart-parts ks qs a).second
        (λ x h. elim (same_path_tells q x) [
          | inl e ↦ subst (λ (y : List ℕ). has_path y qs ≡ false) e.1 none
          | inr n ↦ (apart-parts ks qs a).none x (sym (indexed-has x n) ∙ h)
        ]);
    few = few-left-indexed;
  }

  pub indexed-under : has_child q (ks ++ qs) ≡ false → AreUnder ks qs → AreUnder (swap_remove ks p []) qs
  indexed-under n u = under-less q ks (swap_remove ks p []) qs indexed-has (or_parts (has_child q ks) (has_child q qs) (sym (has_child-append q ks qs) ∙ n)).1 u

-- a key is added to the index

-- the fact that a success states holds of a result that is one
pub from-ok : {T E : Type 0} (r : Result T E) (P : Type 0) → IsOk r → OnOk r P → P
from-ok (Ok x) P i h = h
from-ok (Err e) P i h = absurd (cc)
