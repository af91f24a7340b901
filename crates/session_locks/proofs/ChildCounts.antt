-- How many children of each lock are held: after one lock more, and one less.
use Rattle.std.proofs.Common.{◌≡◌, ℕ, zero, suc, ◌+◌, ◌-◌, ◌<◌, ◌≤◌, Bool, true, false, cond, eqb, ltb, ◌||◌, ◌⊎◌, inl, inr, List, [], ◌∷◌, ◌++◌, length, length-append, get_or, set, take, refl, sym, ◌∙◌, ap, arith, subst}
use Rattle.std.specs.List.{swap_remove}
use Rattle.std.proofs.lemmas.Bool.{and_parts, and_from, or_parts, or_right, or_cases, cases_lt, cases_eq}
use Rattle.std.proofs.lemmas.Bool.Decides.{nat_tests, Decides-eqb}
use Rattle.std.proofs.lemmas.List.{get_or_default, get_or_append_left, get_or_push, get_or-set_same, get_or-set_other, length-set}
use Rattle.std.proofs.Math.Bool.{or_comm}
use Rattle.lock_tree.specs.Paths.{same_path, is_ancestor, parent_of, has_parent}
use Rattle.lock_tree.proofs.Ancestors.{parent-ancestor}
use Rattle.lock_rules.proofs.Lists.{same_path-refl, same_path-true, same_path_tells}
use Rattle.session_locks.specs.Resources.{has_path, AreApart}
use Rattle.session_locks.specs.LockLists.{is_child, has_child, IsUnder}
use Rattle.session_locks.specs.inner.ChildCounts.{children_of, DoCount}
use Rattle.session_locks.proofs.ResourceLists.{has_path-push, same_path-swap, apart-pop}

-- resources and their places

-- the resource at a place is in the list
pub has_path-at : (rs : List (List ℕ)) (i : ℕ) → i < length rs → has_path (get_or rs i []) rs ≡ true
has_path-at [] i lt = absurd (omega arith)
has_path-at (r ∷ rs) zero lt = ap (λ (b : Bool). b || has_path r rs) (same_path-refl r)
has_path-at (r ∷ rs) (suc i) lt = or_right (same_path r (get_or rs i [])) (has_path (get_or rs i []) rs) (has_path-at rs i (omega arith))

-- in a list without repetition a resource has one place
pub apart-places : (rs : List (List ℕ)) (i j : ℕ) → AreApart rs → i < length rs → j < length rs → get_or rs i [] ≡ get_or rs j [] → i ≡ j
apart-places [] i j a lt le e = absurd (omega arith)
apart-places (r ∷ rs) zero zero a lt le e = refl
apart-places (r ∷ rs) zero (suc j) a lt le e = absurd (let k = a.0 in let h = has_path-at rs j (omega arith) in let f : has_path r rs ≡ true = rw e h in cc)
apart-places (r ∷ rs) (suc i) zero a lt le e = absurd (let k = a.0 in let h = has_path-at rs i (omega arith) in let f : has_path r rs ≡ true = rw (← e) h in cc)
apart-places (r ∷ rs) (suc i) (suc j) a lt le e = ap suc (apart-places rs i j a.1 (omega arith) (omega arith) e)

-- children

-- no resource is its own child
pub own-child : (r : List ℕ) → is_child r r ≡ false
own-child r = go (is_child r r) refl
  where
    none-own : (x : List ℕ) → is_ancestor x x ≡ true → ⊥
    none-own [] h = cc
    none-own (a ∷ []) h = let k = (and_parts (eqb a a) false h).1 in cc
    none-own (a ∷ b ∷ x) h = none-own (b ∷ x) (and_parts (eqb a a) _ h).1

    go : (b : Bool) → is_child r r ≡ b → b ≡ false
    go false e = refl
    go true e =
        let p = and_parts (has_parent r) (same_path (parent_of r) r) e in
        absurd (none-own r (subst (λ (x : List ℕ). is_ancestor x r ≡ true) (same_path-true (parent_of r) r p.1) (parent-ancestor r p.0)))

-- a resource whose parent isn't in the list is the child of none there
pub none-parent : (rs : List (List ℕ)) (q : List ℕ) (i : ℕ) → has_path (parent_of q) rs ≡ false → i < length rs → is_child (get_or rs i []) q ≡ false
none-parent rs q i h lt = go (is_child (get_or rs i []) q) refl
  where
    go : (b : Bool) → is_child (get_or rs i []) q ≡ b → b ≡ false
    go false e = refl
    go true e =
        let p = and_parts (has_parent q) (same_path (parent_of q) (get_or rs i [])) e in
        let same = same_path-true (parent_of q) (get_or rs i []) p.1 in
        let there : has_path (parent_of q) rs ≡ true = rw same (has_path-at rs i lt) in
        absurd (cc)

-- a resource is the child of its parent alone
pub child-only : (rs : List (List ℕ)) (q : List ℕ) (p : ℕ) → AreApart rs → p < length rs → get_or rs p [] ≡ parent_of q → has_parent q ≡ true → (i : ℕ) → i < length rs → is_child (get_or rs i []) q ≡ eqb p i
child-only rs q p a lt at has i le = elim (cases_eq p i) [
  | inl e ↦ (let k : is_child (get_or rs i []) q ≡ true = and_from (has_parent q) (same_path (parent_of q) (get_or rs i [])) has (rw (← at) (rw e (same_path-refl (get_or rs i [])))) in k ∙ sym ((Decides-eqb p i).1 e))
  | inr n ↦ go (is_child (get_or rs i []) q) refl n
]
  where
    go : (b : Bool) → is_child (get_or rs i []) q ≡ b → (p ≡ i → ⊥) → b ≡ eqb p i
    go false e n = grind (arith, nat_tests)
    go true e n =
        let k = and_parts (has_parent q) (same_path (parent_of q) (get_or rs i [])) e in
        let same = same_path-true (parent_of q) (get_or rs i []) k.1 in
        absurd (n (apart-places rs p i a lt le (at ∙ same)))

-- if the count is 0, there is no child
pub none-counted : (r : List ℕ) (rs : List (List ℕ)) → has_child r rs ≡ false → children_of r rs ≡ 0
none-counted r [] h = refl
none-counted r (q ∷ rs) h = let p = or_parts (is_child r q) (has_child r rs) h in let l = ap {B = ℕ} (λ (b : Bool). cond b 1 0) p.0 in omega (arith, l, none-counted r rs p.1)

pub some-counted : (r : List ℕ) (rs : List (List ℕ)) → has_child r rs ≡ true → 0 < children_of r rs
some-counted r [] h = absurd (cc)
some-counted r (q ∷ rs) h = go (is_child r q) h (some-counted r rs)
  where
    go : (b : Bool) → (b || has_child r rs) ≡ true → (has_child r rs ≡ true → 0 < children_of r rs) → 0 < cond b 1 0 + children_of r rs
    go true h next = omega arith
    go false h next = omega (arith, next h)

-- a count tells whether there is a child
pub counted-tells : (n : ℕ) (r : List ℕ) (rs : List (List ℕ)) → n ≡ children_of r rs → ltb 0 n ≡ has_child r rs
counted-tells n r rs e = go (has_child r rs) refl
  where
    go : (b : Bool) → has_child r rs ≡ b → ltb 0 n ≡ b
    go true h = let k = some-counted r rs h in grind (arith, nat_tests)
    go false h = let k = none-counted r rs h in grind (arith, nat_tests)

-- one count is written
pub raised-at : (ns : List ℕ) (p i x : ℕ) → p < length ns → x ≡ get_or ns p x → get_or (set ns p (x + 1)) i 0 ≡ get_or ns i 0 + cond (eqb p i) 1 0
raised-at ns p i x lt at = elim (cases_eq p i) [
  | inl e ↦ rw (← e) (let own = ap {B = ℕ} (λ (b : Bool). cond b 1 0) ((Decides-eqb p p).1 refl) in let same = get_or_default ns p x 0 lt in omega (arith, get_or-set_same ns p (x + 1) 0 lt, own, same, at))
  | inr n ↦ (let f : eqb p i ≡ false = grind (arith, nat_tests) in let none = ap {B = ℕ} (λ (b : Bool). cond b 1 0) f in omega (arith, get_or-set_other ns p i (x + 1) 0 (λ e. n (sym e)), none))
]

pub lowered-at : (ns : List ℕ) (p i x : ℕ) → p < length ns → x ≡ get_or ns p x → 1 ≤ x → get_or (set ns p (x - 1)) i 0 + cond (eqb p i) 1 0 ≡ get_or ns i 0
lowered-at ns p i x lt at some = elim (cases_eq p i) [
  | inl e ↦ rw (← e) (let own = ap {B = ℕ} (λ (b : Bool). cond b 1 0) ((Decides-eqb p p).1 refl) in let same = get_or_default ns p x 0 lt in omega (arith, get_or-set_same ns p (x - 1) 0 lt, own, same, at, some))
  | inr n ↦ (let f : eqb p i ≡ false = grind (arith, nat_tests) in let none = ap {B = ℕ} (λ (b : Bool). cond b 1 0) f in omega (arith, get_or-set_other ns p i (x - 1) 0 (λ e. n (sym e)), none))
]

-- the children are no more than the resources
pub few-children : (r : List ℕ) (rs : List (List ℕ)) → children_of r rs ≤ length rs
few-children r [] = omega arith
few-children r (q ∷ rs) = go (is_child r q) (few-children r rs)
  where
    go : (b : Bool) → children_of r rs ≤ length rs → cond b 1 0 + children_of r rs ≤ length (q ∷ rs)
    go true h = omega (arith, h)
    go false h = omega (arith, h)

-- one more lock adds at most one child
pub children-push : (r q : List ℕ) (rs : List (List ℕ)) → children_of r (rs ++ q ∷ []) ≡ children_of r rs + cond (is_child r q) 1 0
children-push r q [] = omega arith
children-push r q (x ∷ rs) = omega (arith, children-push r q rs)

-- a child that is in the list is counted
pub child-there : (r q : List ℕ) (rs : List (List ℕ)) → has_path q rs ≡ true → is_child r q ≡ true → 0 < children_of r rs
child-there r q [] h c = absurd (cc)
child-there r q (x ∷ rs) h c = go (same_path_tells x q) h (λ k. child-there r q rs k c)
  where
    go : ((same_path x q ≡ true) × (x ≡ q)) ⊎ (same_path x q ≡ false) → (same_path x q || has_path q rs) ≡ true → (has_path q rs ≡ true → 0 < children_of r rs) → 0 < children_of r (x ∷ rs)
    go (inl e) h next = let k : is_child r x ≡ true = rw e.1 c in let l = ap {B = ℕ} (λ (b : Bool). cond b 1 0) k in omega (arith, l)
    go (inr e) h next = let n = next (sym (ap (λ (b : Bool). b || has_path q rs) e) ∙ h) in omega (arith, n)

-- a child that is held
pub record Child (r : List ℕ) (rs : List (List ℕ)) : Type 0 where
  pub path : List ℕ
  pub child : is_child r path ≡ true
  pub there : has_path path rs ≡ true

pub child-path : (r : List ℕ) (rs : List (List ℕ)) → has_child r rs ≡ true → Child r rs
child-path r [] h = absurd (cc)
child-path r (p ∷ rs) h = go (is_child r p) refl h (child-path r rs)
  where
    go : (b : Bool) → is_child r p ≡ b → (b || has_child r rs) ≡ true → (has_child r rs ≡ true → Child r rs) → Child r (p ∷ rs)
    go true e h next = record { path = p; child = e; there = ap (λ (b : Bool). b || has_path p rs) (same_path-refl p) }
    go false e h next = let w = next h in record { path = w.path; child = w.child; there = or_right (same_path p w.path) (has_path w.path rs) w.there }

pub path-child : (r q : List ℕ) (rs : List (List ℕ)) → has_path q rs ≡ true → is_child r q ≡ true → has_child r rs ≡ true
path-child r q rs h c = go (has_child r rs) refl
  where
    go : (b : Bool) → has_child r rs ≡ b → b ≡ true
    go true e = refl
    go false e = absurd (let n = none-counted r rs e in let m = child-there r q rs h c in omega (arith, n, m))

-- under a resource that isn't held there is no child
pub none-under : (r : List ℕ) (rs : List (List ℕ)) → ((q : List ℕ) → has_path q rs ≡ true → IsUnder rs q) → has_path r rs ≡ false → has_child r rs ≡ false
none-under r rs u n = go (has_child r rs) refl
  where
    go : (b : Bool) → has_child r rs ≡ b → b ≡ false
    go false e = refl
    go true e =
        let w = child-path r rs e in
        let p = and_parts (has_parent w.path) (same_path (parent_of w.path) r) w.child in
        let there : has_path r rs ≡ true = subst (λ (x : List ℕ). has_path x rs ≡ true) (same_path-true (parent_of w.path) r p.1) (u w.path w.there p.0) in
        absurd (cc)

-- one lock more

pub pushed-counts : (rs : List (List ℕ)) (q : List ℕ) (ns raised : List ℕ) → DoCount rs ns → has_path q rs ≡ false → IsUnder rs q → length raised ≡ length rs
    → ((i : ℕ) → i < length rs → get_or raised i 0 ≡ get_or ns i 0 + cond (is_child (get_or rs i []) q) 1 0) → DoCount (rs ++ q ∷ []) (raised ++ 0 ∷ [])
pushed-counts rs q ns raised d new under long up = record {
  counts = λ i lt. elim (cases_lt i (length rs)) [
    | inl l ↦ get_or_append_left raised (0 ∷ []) 0 i (omega (arith, long, l)) ∙ (up i l ∙ (ap (λ n. n + cond (is_child (get_or rs i []) q) 1 0) (d.counts i l)
        ∙ (sym (children-push (get_or rs i []) q rs) ∙ ap (λ (x : List ℕ). children_of x (rs ++ q ∷ [])) (sym (get_or_append_left rs (q ∷ []) [] i l)))))
    | inr l ↦
        let e : i ≡ length rs = let n = length-append rs (q ∷ []) in omega (arith, n, lt, l) in
        let none = none-counted q rs (none-under q rs d.under new) in
        let own = ap {B = ℕ} (λ (b : Bool). cond b 1 0) (own-child q) in
        get_or_push raised 0 0 i (long ∙ sym e) ∙ sym (ap (λ (x : List ℕ). children_of x (rs ++ q ∷ [])) (get_or_push rs q [] i (sym e)) ∙ (children-push q q rs ∙ omega (arith, none, own)))
  ];
  under = λ x h has. has_path-push (parent_of x) q rs ∙ elim (or_cases (has_path x rs) (same_path q x) (sym (has_path-push x q rs) ∙ h)) [
    | inl k ↦ ap (λ (b : Bool). b || same_path q (parent_of x)) (d.under x k has)
    | inr k ↦ ap (λ (b : Bool). b || same_path q (parent_of x)) (subst (λ (y : List ℕ). IsUnder rs y) (same_path-true q x k) under has)
  ];
}

-- one lock less: the last one takes its place

-- a list ends in its last item
pub record Last {X : Type 0} (xs : List X) : Type 0 where
  pub front : List X
  pub last : X
  pub is : xs ≡ front ++ last ∷ []

pub last-of : {X : Type 0} (xs : List X) → 0 < length xs → Last xs
last-of [] lt = absurd (omega arith)
last-of (x ∷ []) lt = record { front = []; last = x; is = refl }
last-of {X = X} (x ∷ y ∷ xs) lt = let w = last-of (y ∷ xs) (omega arith) in record { front = x ∷ w.front; last = w.last; is = ap (λ (zs : List X). x ∷ zs) w.is }

take-front : {X : Type 0} (ys zs : List X) → take (length ys) (ys ++ zs) ≡ ys
take-front [] zs = refl
take-front {X = X} (y ∷ ys) zs = ap (λ (xs : List X). y ∷ xs) (take-front ys zs)

take-set : {X : Type 0} (ys : List X) (l : X) (p : ℕ) → take (length ys) (set (ys ++ l ∷ []) p l) ≡ set ys p l
take-set [] l p = refl
take-set {X = X} (y ∷ ys) l zero = ap (λ (xs : List X). l ∷ xs) (take-front ys (l ∷ []))
take-set {X = X} (y ∷ ys) l (suc p) = ap (λ (xs : List X). y ∷ xs) (take-set ys l p)

-- what remains is the front, with the last item at the place
pub swap-last : {X : Type 0} (ys : List X) (l d : X) (p : ℕ) → swap_remove (ys ++ l ∷ []) p d ≡ set ys p l
swap-last {X = X} ys l d p =
    let n : length (ys ++ l ∷ []) - 1 ≡ length ys = omega (arith, length-append ys (l ∷ [])) in
    let at : get_or (ys ++ l ∷ []) (length (ys ++ l ∷ []) - 1) d ≡ l = get_or_push ys l d (length (ys ++ l ∷ []) - 1) (sym n) in
    ap (λ (x : X). take (length (ys ++ l ∷ []) - 1) (set (ys ++ l ∷ []) p x)) at
    ∙ (ap (λ (k : ℕ). take k (set (ys ++ l ∷ []) p l)) n ∙ take-set ys l p)

abbrev at-place : List (List ℕ) → List ℕ → ℕ → List ℕ
at-place ys l p = get_or (ys ++ l ∷ []) p []

children-left : (x : List ℕ) (ys : List (List ℕ)) (l : List ℕ) (p : ℕ) → p ≤ length ys → children_of x (set ys p l) + cond (is_child x (at-place ys l p)) 1 0 ≡ children_of x (ys ++ l ∷ [])
children-left x [] l zero le = omega arith
children-left x [] l (suc p) le = absurd (omega arith)
children-left x (y ∷ ys) l zero le = omega (arith, children-push x l ys)
children-left x (y ∷ ys) l (suc p) le = omega (arith, children-left x ys l p (omega arith))

has-left : (q : List ℕ) (ys : List (List ℕ)) (l : List ℕ) (p : ℕ) → p ≤ length ys → same_path (at-place ys l p) q ≡ false → has_path q (set ys p l) ≡ has_path q (ys ++ l ∷ [])
has-left q [] l zero le n = sym (ap (λ (b : Bool). b || false) n)
has-left q [] l (suc p) le n = absurd (omega arith)
has-left q (y ∷ ys) l zero le n = or_comm (same_path l q) (has_path q ys) ∙ (sym (has_path-push q l ys) ∙ sym (ap (λ (b : Bool). b || has_path q (ys ++ l ∷ [])) n))
has-left q (y ∷ ys) l (suc p) le n = ap (λ (b : Bool). same_path y q || b) (has-left q ys l p (omega arith) n)

apart-first : (y : List ℕ) (rs : List (List ℕ)) (p : ℕ) → p < length rs → has_path y rs ≡ false → same_path y (get_or rs p []) ≡ false
apart-first y rs p lt h = go (same_path y (get_or rs p [])) refl
  where
    go : (b : Bool) → same_path y (get_or rs p []) ≡ b → b ≡ false
    go false e = refl
    go true e = absurd (let there : has_path y rs ≡ true = rw (same_path-true y (get_or rs p []) e) (has_path-at rs p lt) in cc)

gone-left : (ys : List (List ℕ)) (l : List ℕ) (p : ℕ) → p ≤ length ys → AreApart (ys ++ l ∷ []) → has_path (at-place ys l p) (set ys p l) ≡ false
gone-left [] l p le a = refl
gone-left (y ∷ ys) l zero le a =
    let k = or_parts (has_path y ys) (same_path l y) (sym (has_path-push y l ys) ∙ a.0) in
    ap (λ (b : Bool). b || has_path y ys) k.1 ∙ k.0
gone-left (y ∷ ys) l (suc p) le a =
    let n = length-append ys (l ∷ []) in
    ap (λ (b : Bool). b || has_path (at-place ys l p) (set ys p l)) (apart-first y (ys ++ l ∷ []) p (omega (arith, n, le)) a.0) ∙ gone-left ys l p (omega arith) a.1

apart-left : (ys : List (List ℕ)) (l : List ℕ) (p : ℕ) → p ≤ length ys → AreApart (ys ++ l ∷ []) → AreApart (set ys p l)
apart-left [] l p le a = tt
apart-left (y ∷ ys) l zero le a = let k = apart-pop ys l a.1 in (k.1, k.0)
apart-left (y ∷ ys) l (suc p) le a =
    let n = length-append ys (l ∷ []) in
    let other = same_path-swap y (at-place ys l p) (apart-first y (ys ++ l ∷ []) p (omega (arith, n, le)) a.0) in
    (has-left y ys l p (omega arith) other ∙ a.0, apart-left ys l p (omega arith) a.1)

-- the earlier place of each item that remains
stood : {X : Type 0} (ys : List X) (l d : X) (p j : ℕ) → j < length ys → get_or (set ys p l) j d ≡ get_or (ys ++ l ∷ []) (cond (eqb p j) (length ys) j) d
stood ys l d p j lt = elim (cases_eq p j) [
  | inl e ↦ rw (← e) (get_or-set_same ys p l d (rw e lt) ∙ sym (ap (λ (b : Bool). get_or (ys ++ l ∷ []) (cond b (length ys) p) d) ((Decides-eqb p p).1 refl) ∙ get_or_push ys l d (length ys) refl))
  | inr n ↦ (let f : eqb p j ≡ false = grind (arith, nat_tests) in
      get_or-set_other ys p j l d (λ e. n (sym e)) ∙ sym (ap (λ (b : Bool). get_or (ys ++ l ∷ []) (cond b (length ys) j) d) f ∙ get_or_append_left ys (l ∷ []) d j lt))
]

-- the counts after a lock without children was removed

module _ (rs : List (List ℕ)) (ns lowered : List ℕ) (p : ℕ) (lt : p < length rs) (apart : AreApart rs) where
  abbrev gone : List ℕ
  gone = get_or rs p []

  pub w : Last rs
  w = last-of rs (omega (arith, lt))

  long : length rs ≡ length w.front + 1
  long = let e = ap length w.is in omega (arith, e, length-append w.front (w.last ∷ []))

  le : p ≤ length w.front
  le = omega (arith, lt, long)

  same-gone : gone ≡ at-place w.front w.last p
  same-gone = ap (λ (xs : List (List ℕ)). get_or xs p []) w.is

  pub left-is : (d : List ℕ) → swap_remove rs p d ≡ set w.front p w.last
  left-is d = ap (λ (xs : List (List ℕ)). swap_remove xs p d) w.is ∙ swap-last w.front w.last d p

  apart-is : AreApart (w.front ++ w.last ∷ [])
  apart-is = subst AreApart w.is apart

  pub left-apart : AreApart (swap_remove rs p gone)
  left-apart = subst AreApart (sym (left-is gone)) (apart-left w.front w.last p le apart-is)

  pub left-gone : has_path gone (swap_remove rs p gone) ≡ false
  left-gone = ap (has_path gone) (left-is gone) ∙ (ap (λ (x : List ℕ). has_path x (set w.front p w.last)) same-gone ∙ gone-left w.front w.last p le apart-is)

  pub left-has : (q : List ℕ) → same_path gone q ≡ false → has_path q (swap_remove rs p gone) ≡ has_path q rs
  left-has q n = ap (has_path q) (left-is gone) ∙ (has-left q w.front w.last p le (ap (λ (x : List ℕ). same_path x q) (sym same-gone) ∙ n) ∙ ap (has_path q) (sym w.is))

  pub left-long : length (swap_remove rs p gone) + 1 ≡ length rs
  left-long = let e = ap length (left-is gone) in let f = length-set w.front p w.last in omega (arith, e, f, long)

  children-of-left : (x : List ℕ) → children_of x (swap_remove rs p gone) + cond (is_child x gone) 1 0 ≡ children_of x rs
  children-of-left x =
      let e = ap (children_of x) (left-is gone) in
      let f = children-left x w.front w.last p le in
      let g = ap {B = ℕ} (λ (y : List ℕ). cond (is_child x y) 1 0) same-gone in
      let h = ap (children_of x) w.is in
      omega (arith, e, f, g, h)

  module _ (d : DoCount rs ns) (childless : has_child gone rs ≡ false) (same : length lowered ≡ length rs)
      (down : (i : ℕ) → i < length rs → get_or lowered i 0 + cond (is_child (get_or rs i []) gone) 1 0 ≡ get_or ns i 0) where
    v : Last lowered
    v = last-of lowered (omega (arith, same, lt))

    front-long : length v.front ≡ length w.front
    front-long = let e = ap length v.is in omega (arith, e, length-append v.front (v.last ∷ []), same, long)

    counts-left : (c j : ℕ) → j < length (swap_remove rs p gone) → get_or (swap_remove lowered p c) j 0 ≡ children_of (get_or (swap_remove rs p gone) j []) (swap_remove rs p gone)
    counts-left c j l =
        let within : j < length w.front = omega (arith, l, left-long, long) in
        let k = cond (eqb p j) (length w.front) j in
        let k-lt : k < length rs = cond-lt (eqb p j) within in
        let number : get_or (swap_remove lowered p c) j 0 ≡ get_or lowered k 0 =
        ap (λ (xs : List ℕ). get_or xs j 0) (ap (λ (xs : List ℕ). swap_remove xs p c) v.is ∙ swap-last v.front v.last c p)
        ∙ (stood v.front v.last 0 p j (omega (arith, front-long, within)) ∙ (ap (λ (n : ℕ). get_or (v.front ++ v.last ∷ []) (cond (eqb p j) n j) 0) front-long ∙ ap (λ (xs : List ℕ). get_or xs k 0) (sym v.is))) in
        let path : get_or (swap_remove rs p gone) j [] ≡ get_or rs k [] =
        ap (λ (xs : List (List ℕ)). get_or xs j []) (left-is gone) ∙ (stood w.front w.last [] p j within ∙ ap (λ (xs : List (List ℕ)). get_or xs k []) (sym w.is)) in
        let low = down k k-lt in
        let before = d.counts k k-lt in
        let after = children-of-left (get_or rs k []) in
        let again = ap (λ (x : List ℕ). children_of x (swap_remove rs p gone)) path in
        omega (arith, number, low, before, after, again)
      where
        cond-lt : (b : Bool) → j < length w.front → cond b (length w.front) j < length rs
        cond-lt true l = omega (arith, long)
        cond-lt false l = omega (arith, long, l)

    pub left-counts : (c : ℕ) → DoCount (swap_remove rs p gone) (swap_remove lowered p c)
    left-counts c = record {
      counts = counts-left c;
      under = λ q h has. go q h has (same_path gone q) refl (same_path gone (parent_of q)) refl;
    }
      where
        go : (q : List ℕ) → has_path q (swap_remove rs p gone) ≡ true → has_parent q ≡ true → (a : Bool) → same_path gone q ≡ a → (b : Bool) → same_path gone (parent_of q) ≡ b → has_path (parent_of q) (swap_remove rs p gone) ≡ true
        go q h has true e b f = absurd (let g : has_path gone (swap_remove rs p gone) ≡ true = subst (λ (x : List ℕ). has_path x (swap_remove rs p gone) ≡ true) (sym (same_path-true gone q e)) h in let n = left-gone in cc)
        go q h has false e false f = left-has (parent_of q) f ∙ d.under q (sym (left-has q e) ∙ h) has
        go q h has false e true f = absurd (let child : is_child gone q ≡ true = and_from (has_parent q) (same_path (parent_of q) gone) has (subst (λ (x : List ℕ). same_path (parent_of q) x ≡ true) (sym (same_path-true gone (parent_of q) f)) (same_path-refl (parent_of q))) in let there = path-child gone q rs (sym (left-has q e) ∙ h) child in cc)
