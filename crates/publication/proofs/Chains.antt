-- The publication list as plain data: the records on it, and what their links name.
use Rattle.std.proofs.Common.{◌≡◌, ◌≢◌, ◌⊎◌, inl, inr, ⊎_elim, ℕ, Bool, cond, Some, drop, List, [], ◌∷◌, ◌++◌, refl, sym, ap, ◌∙◌, subst, eq-eqb, ne_eqb}
use Rattle.std.proofs.lemmas.Option.{same_Some}
use mathlib.Core.Logic.{dite}
use native.Mathlib.Decide.{ℕ_discrete}
use Rattle.publication.specs.List.{IsOn, AreApart, head_of, first_of, behind, without, with_behind, Chain}

-- A chain depends only on the links of the records on the list.
pub chain_same : (f g : ℕ → ℕ) (k : ℕ) (l : List ℕ) → ((q : ℕ) → IsOn q l → f q ≡ g q) → Chain f k l → Chain g k l
chain_same f g k [] same c = c
chain_same f g k (x ∷ xs) same c = (c.0, chain_same f g (g x) xs (λ q on. same q (inr on)) (subst (λ (n : ℕ). Chain f n xs) (same x (inl refl)) c.1))

-- A chain read from k on has k as the value of its head.
pub chain_head : (f : ℕ → ℕ) (k : ℕ) (l : List ℕ) → Chain f k l → k ≡ head_of l
chain_head f k [] c = c
chain_head f k (x ∷ xs) c = c.0

-- A record of the second part is on the whole list.
pub on_right : (q : ℕ) (xs ys : List ℕ) → IsOn q ys → IsOn q (xs ++ ys)
on_right q [] ys on = on
on_right q (x ∷ xs) ys on = inr (on_right q xs ys on)

-- The second part of a chain is a chain.
pub chain_right : (f : ℕ → ℕ) (k : ℕ) (xs ys : List ℕ) → Chain f k (xs ++ ys) → (n : ℕ) × Chain f n ys
chain_right f k [] ys c = (k, c)
chain_right f k (x ∷ xs) ys c = chain_right f (f x) xs ys c.1

-- The second part of a list without repetition has none.
pub apart_right : (xs ys : List ℕ) → AreApart (xs ++ ys) → AreApart ys
apart_right [] ys a = a
apart_right (x ∷ xs) ys a = apart_right xs ys a.1

-- The link of a record on the list names the record behind it.
pub link_names : (f : ℕ → ℕ) (k : ℕ) (l : List ℕ) (q : ℕ) → IsOn q l → Chain f k l → f q ≡ head_of (behind q l)
link_names f k [] q on c = absurd on
link_names f k (x ∷ xs) q on c = dite (ℕ_discrete q x)
    (λ e. ap f e ∙ (chain_head f (f x) xs c.1 ∙ sym (ap (λ (b : Bool). head_of (cond b xs (behind q xs))) (eq-eqb q x e))))
    (λ ne. link_names f (f x) xs q (⊎_elim (λ (e : q ≡ x). absurd (ne e)) (λ t. t) on) c.1 ∙ sym (ap (λ (b : Bool). head_of (cond b xs (behind q xs))) (ne_eqb q x ne)))

-- A list with one record removed or inserted.

-- A record of the whole list is in its first or in its second part.
pub on_append : (q : ℕ) (xs ys : List ℕ) → IsOn q (xs ++ ys) → IsOn q xs ⊎ IsOn q ys
on_append q [] ys on = inr on
on_append q (x ∷ xs) ys on = ⊎_elim (λ e. inl (inl e)) (λ r. ⊎_elim (λ a. inl (inr a)) (λ b. inr b) (on_append q xs ys r)) on

-- A record of the first part is on the whole list.
pub on_left : (q : ℕ) (xs ys : List ℕ) → IsOn q xs → IsOn q (xs ++ ys)
on_left q (x ∷ xs) ys on = ⊎_elim (λ e. inl e) (λ r. inr (on_left q xs ys r)) on
on_left q [] ys on = absurd on

-- Unlink: the link of `before` goes past `whose`.
pub chain_without : (f g : ℕ → ℕ) (k before whose : ℕ) (xs ys : List ℕ) → AreApart (xs ++ before ∷ whose ∷ ys) → ((q : ℕ) → q ≢ before → g q ≡ f q) → g before ≡ f whose
    → Chain f k (xs ++ before ∷ whose ∷ ys) → Chain g k (xs ++ before ∷ ys)
chain_without f g k before whose [] ys apart same new c =
    (c.0, subst (λ (n : ℕ). Chain g n ys) (sym new) (chain_same f g (f whose) ys (λ q on. sym (same q (λ e. apart.0 (inr (subst (λ (n : ℕ). IsOn n ys) e on))))) c.1.1))
chain_without f g k before whose (x ∷ xs) ys apart same new c =
    let ne : x ≢ before = λ e. apart.0 (on_right x xs (before ∷ whose ∷ ys) (inl e)) in
    (c.0, chain_without f g (g x) before whose xs ys apart.1 same new (subst (λ (n : ℕ). Chain f n (xs ++ before ∷ whose ∷ ys)) (sym (same x ne)) c.1))

-- Relink: the link of `before` names `whose` again, whose own link still names the record behind.
pub chain_with : (f g : ℕ → ℕ) (k before whose : ℕ) (xs ys : List ℕ) → AreApart (xs ++ before ∷ ys) → (IsOn whose (xs ++ before ∷ ys) → ⊥) → ((q : ℕ) → q ≢ before → g q ≡ f q) → g before ≡ whose → f whose ≡ head_of ys
    → Chain f k (xs ++ before ∷ ys) → Chain g k (xs ++ before ∷ whose ∷ ys)
chain_with f g k before whose [] ys apart off same new next c =
    let ne : whose ≢ before = λ e. off (inl e) in
    let begins : f before ≡ head_of ys = chain_head f (f before) ys c.1 in
    let rest : Chain g (f before) ys = chain_same f g (f before) ys (λ q on. sym (same q (λ e. apart.0 (subst (λ (n : ℕ). IsOn n ys) e on)))) c.1 in
    (c.0, (new, subst (λ (n : ℕ). Chain g n ys) (begins ∙ (sym next ∙ sym (same whose ne))) rest))
chain_with f g k before whose (x ∷ xs) ys apart off same new next c =
    let ne : x ≢ before = λ e. apart.0 (on_right x xs (before ∷ ys) (inl e)) in
    (c.0, chain_with f g (g x) before whose xs ys apart.1 (λ on. off (inr on)) same new next (subst (λ (n : ℕ). Chain f n (xs ++ before ∷ ys)) (sym (same x ne)) c.1))

apart_one : (xs ys : List ℕ) (w : ℕ) → AreApart (xs ++ w ∷ ys) → AreApart (xs ++ ys) × (IsOn w (xs ++ ys) → ⊥)
apart_one [] ys w a = (a.1, a.0)
apart_one (x ∷ xs) ys w a = let r = apart_one xs ys w a.1 in (
  ((λ on. a.0 (⊎_elim (λ p. on_left x xs (w ∷ ys) p) (λ p. on_right x xs (w ∷ ys) (inr p)) (on_append x xs ys on))), r.0),
  λ on. ⊎_elim (λ e. a.0 (on_right x xs (w ∷ ys) (inl (sym e)))) r.1 on,
)

apart_more : (xs ys : List ℕ) (w : ℕ) → AreApart (xs ++ ys) → (IsOn w (xs ++ ys) → ⊥) → AreApart (xs ++ w ∷ ys)
apart_more [] ys w a off = (off, a)
apart_more (x ∷ xs) ys w a off = (
  (λ on. ⊎_elim (λ p. a.0 (on_left x xs ys p)) (λ p. ⊎_elim (λ (e : x ≡ w). off (inl (sym e))) (λ q. a.0 (on_right x xs ys q)) p) (on_append x xs (w ∷ ys) on)),
  apart_more xs ys w a.1 (λ on. off (inr on)),
)

seam : (xs ys : List ℕ) (x : ℕ) → xs ++ x ∷ ys ≡ (xs ++ x ∷ []) ++ ys
seam [] ys x = refl
seam (z ∷ zs) ys x = ap (λ l. z ∷ l) (seam zs ys x)

-- Without the second of two neighbours, every other record is still on the list.
pub drop_two : (q : ℕ) (xs ys : List ℕ) (b w : ℕ) → IsOn q (xs ++ b ∷ w ∷ ys) → IsOn q (xs ++ b ∷ ys) ⊎ (q ≡ w)
drop_two q xs ys b w on = ⊎_elim (λ x. inl (on_left q xs (b ∷ ys) x))
    (λ y. ⊎_elim (λ e. inl (on_right q xs (b ∷ ys) (inl e))) (λ z. ⊎_elim (λ e. inr e) (λ t. inl (on_right q xs (b ∷ ys) (inr t))) z) y) (on_append q xs (b ∷ w ∷ ys) on)

-- With a second neighbour inserted, the list has that record and all it had.
pub add_two : (q : ℕ) (xs ys : List ℕ) (b w : ℕ) → IsOn q (xs ++ b ∷ ys) ⊎ (q ≡ w) → IsOn q (xs ++ b ∷ w ∷ ys)
add_two q xs ys b w on = ⊎_elim (λ p. ⊎_elim (λ x. on_left q xs (b ∷ w ∷ ys) x) (λ y. on_right q xs (b ∷ w ∷ ys) (⊎_elim (λ z. inl z) (λ t. inr (inr t)) y)) (on_append q xs (b ∷ ys) p))
    (λ is. on_right q xs (b ∷ w ∷ ys) (inr (inl is))) on

-- Removing the second of two neighbours repeats no record, and that record is off the list.
pub apart_two : (xs ys : List ℕ) (b w : ℕ) → AreApart (xs ++ b ∷ w ∷ ys) → AreApart (xs ++ b ∷ ys) × (IsOn w (xs ++ b ∷ ys) → ⊥)
apart_two xs ys b w a = let t = apart_one (xs ++ b ∷ []) ys w (subst AreApart (seam xs (w ∷ ys) b) a) in
    (subst AreApart (sym (seam xs ys b)) t.0, λ on. t.1 (subst (IsOn w) (seam xs ys b) on))

-- Inserting a record that isn't on the list repeats no record.
pub apart_again : (xs ys : List ℕ) (b w : ℕ) → AreApart (xs ++ b ∷ ys) → (IsOn w (xs ++ b ∷ ys) → ⊥) → AreApart (xs ++ b ∷ w ∷ ys)
apart_again xs ys b w a off = subst AreApart (sym (seam xs (w ∷ ys) b))
    (apart_more (xs ++ b ∷ []) ys w (subst AreApart (seam xs ys b) a) (λ on. off (subst (IsOn w) (sym (seam xs ys b)) on)))

-- The records in front of a record don't contain it.
pub apart_front : (xs ys : List ℕ) (b : ℕ) → AreApart (xs ++ b ∷ ys) → IsOn b xs → ⊥
apart_front (x ∷ xs) ys b a on = ⊎_elim (λ (e : b ≡ x). a.0 (on_right x xs (b ∷ ys) (inl (sym e)))) (apart_front xs ys b a.1) on
apart_front [] ys b a on = on

-- A list split at a record and the one behind it, and the list without the latter.
pub record IsSplit (q w : ℕ) (l : List ℕ) : Type 0 where
  pub front : List ℕ
  pub rest : List ℕ
  pub is : l ≡ front ++ q ∷ w ∷ rest
  pub without_is : without q l ≡ front ++ q ∷ rest
  pub behind_is : behind q l ≡ w ∷ rest

next_of : (l : List ℕ) (w : ℕ) → first_of l ≡ Some w → (ys : List ℕ) × (l ≡ w ∷ ys)
next_of [] w e = absurd (cc e)
next_of (x ∷ xs) w e = (xs, ap (λ (y : ℕ). y ∷ xs) (same_Some x w e))

-- A list with q on it and w right behind q splits there.
pub splits : (q w : ℕ) (l : List ℕ) → IsOn q l → first_of (behind q l) ≡ Some w → IsSplit q w l
splits q w [] on e = absurd on
splits q w (x ∷ xs) on e = dite (ℕ_discrete q x)
    (λ is. let here : behind q (x ∷ xs) ≡ xs = ap (λ (b : Bool). cond b xs (behind q xs)) (eq-eqb q x is) in
    let n = next_of xs w (sym (ap first_of here) ∙ e) in record {
      front = [];
      rest = n.0;
      is = ap (λ (y : ℕ). y ∷ xs) (sym is) ∙ ap (λ (l : List ℕ). q ∷ l) n.1;
      without_is = ap (λ (b : Bool). cond b (x ∷ drop 1 xs) (x ∷ without q xs)) (eq-eqb q x is) ∙ (ap (λ (l : List ℕ). x ∷ drop 1 l) n.1 ∙ ap (λ (y : ℕ). y ∷ n.0) (sym is));
      behind_is = here ∙ n.1;
    })
    (λ ne. let past : behind q (x ∷ xs) ≡ behind q xs = ap (λ (b : Bool). cond b xs (behind q xs)) (ne_eqb q x ne) in
    let t = splits q w xs (⊎_elim (λ (z : q ≡ x). absurd (ne z)) (λ r. r) on) (sym (ap first_of past) ∙ e) in record {
      front = x ∷ t.front;
      rest = t.rest;
      is = ap (λ (l : List ℕ). x ∷ l) t.is;
      without_is = ap (λ (b : Bool). cond b (x ∷ drop 1 xs) (x ∷ without q xs)) (ne_eqb q x ne) ∙ ap (λ (l : List ℕ). x ∷ l) t.without_is;
      behind_is = past ∙ t.behind_is;
    })

-- Inserting a record behind q.
pub inserts : (q w : ℕ) (xs ys : List ℕ) → (IsOn q xs → ⊥) → with_behind q w (xs ++ q ∷ ys) ≡ xs ++ q ∷ w ∷ ys
inserts q w [] ys off = ap (λ (b : Bool). cond b (q ∷ w ∷ ys) (q ∷ with_behind q w ys)) (eq-eqb q q refl)
inserts q w (x ∷ xs) ys off =
    ap (λ (b : Bool). cond b (x ∷ w ∷ (xs ++ q ∷ ys)) (x ∷ with_behind q w (xs ++ q ∷ ys))) (ne_eqb q x (λ e. off (inl e)))
    ∙ ap (λ (l : List ℕ). x ∷ l) (inserts q w xs ys (λ on. off (inr on)))

-- Inserting behind q leaves the records in front as they are.
pub inserts_behind : (q w : ℕ) (xs ys : List ℕ) → (IsOn q xs → ⊥) → with_behind q w (xs ++ ys) ≡ xs ++ with_behind q w ys
inserts_behind q w [] ys off = refl
inserts_behind q w (x ∷ xs) ys off =
    ap (λ (b : Bool). cond b (x ∷ w ∷ (xs ++ ys)) (x ∷ with_behind q w (xs ++ ys))) (ne_eqb q x (λ e. off (inl e)))
    ∙ ap (λ (l : List ℕ). x ∷ l) (inserts_behind q w xs ys (λ on. off (inr on)))

-- A record of the second part isn't in the first part.
pub apart_parts : (q : ℕ) (xs ys : List ℕ) → AreApart (xs ++ ys) → IsOn q ys → IsOn q xs → ⊥
apart_parts q (x ∷ xs) ys a there on = ⊎_elim (λ (e : q ≡ x). a.0 (on_right x xs ys (subst (λ (n : ℕ). IsOn n ys) e there))) (apart_parts q xs ys a.1 there) on
apart_parts q [] ys a there on = on

-- The link of the second of two neighbours names the record behind both.
pub link_second : (f : ℕ → ℕ) (k b w : ℕ) (xs ys : List ℕ) → Chain f k (xs ++ b ∷ w ∷ ys) → f w ≡ head_of ys
link_second f k b w [] ys c = chain_head f (f w) ys c.1.1
link_second f k b w (x ∷ xs) ys c = link_second f (f x) b w xs ys c.1
