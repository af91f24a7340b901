-- What an act does to the slots: it lays some of the carried ones down, one after another, and takes others.
use Rattle.std.proofs.Common.{◌≡◌, ◌≢◌, ◌⊎◌, inl, inr, ⊎_elim, ℕ, zero, suc, List, [], ◌∷◌, ◌++◌, get_or, set, refl, sym, ap, subst, ◌∙◌, append_assoc, get_or-set_other}
use Rattle.std.proofs.lemmas.List.{append_cancel_right, append-nil}
use mathlib.Core.Option as opt
use mathlib.Core.Logic.{dite}
use native.Mathlib.Decide.{ℕ_discrete}
use lib.ListN.{get_elem?}
use Rattle.atomic_table.specs.Table.{Act, keeps, takes, gives, chain, Valid, carried_after, homes_after}
use Rattle.publication.specs.declared.slot.SlotValue.{SlotValue}
use Rattle.publication.proofs.Lists.{at_there}

module _ {A : Type 0} where
  -- One list in two parts, in two ways.
  two_splits : (xs ys zs ws : List A) → xs ++ ys ≡ zs ++ ws → ((m : List A) × (xs ≡ zs ++ m) × (ws ≡ m ++ ys)) ⊎ ((m : List A) × (zs ≡ xs ++ m) × (ys ≡ m ++ ws))
  two_splits xs ys [] ws e = inl (xs, refl, sym e)
  two_splits [] ys (z ∷ zs) ws e = inr (z ∷ zs, refl, e)
  two_splits (x ∷ xs) ys (z ∷ zs) ws e = let f : x ≡ z = cc e in let r : xs ++ ys ≡ zs ++ ws = cc e in ⊎_elim
      (λ t. inl (t.0, let g = t.1 in cc (f, g), t.2))
      (λ t. inr (t.0, let g = t.1 in cc (f, g), t.2))
      (two_splits xs ys zs ws r)

abbrev pub Homes : Type 0 → Type 0 → Type 0 → Type 0
Homes O C R = List (opt.Option (SlotValue O C R))

abbrev pub Carried : Type 0 → Type 0 → Type 0 → Type 0
Carried O C R = List (ℕ × SlotValue O C R)

module _ {O C R : Type 0} where
  -- The homes after these slots were laid down, the first one first.
  abbrev laid_all : Carried O C R → Homes O C R → Homes O C R
  laid_all [] hs = hs
  laid_all (x ∷ xs) hs = laid_all xs (set hs x.0 (opt.some x.1))

  -- The homes after these slots were taken, the first one last.
  abbrev got_all : Carried O C R → Homes O C R → Homes O C R
  got_all [] hs = hs
  got_all (x ∷ xs) hs = set (got_all xs hs) x.0 opt.none

  -- Each is at home when it is taken.
  abbrev CanGet : Carried O C R → Homes O C R → Type 0
  CanGet [] hs = Unit {0}
  CanGet (x ∷ xs) hs = CanGet xs hs × (get_elem? (got_all xs hs) x.0 ≡ opt.some (opt.some x.1))

  reset : (l : Homes O C R) (i : ℕ) (y : SlotValue O C R) → get_elem? l i ≡ opt.some (opt.some y) → set (set l i opt.none) i (opt.some y) ≡ l
  reset [] i y e = absurd (opt.some-ne-none (opt.some y) (sym e))
  reset (h ∷ hs) zero y e = ap (λ (z : opt.Option (SlotValue O C R)). z ∷ hs) (sym (opt.some-injective h (opt.some y) e))
  reset (h ∷ hs) (suc i) y e = ap (λ (l : Homes O C R). h ∷ l) (reset hs i y e)

  -- Slots that are laid down in the order in which they were taken are where they were.
  undo : (d m : Carried O C R) (hs : Homes O C R) → CanGet (d ++ m) hs → laid_all d (got_all (d ++ m) hs) ≡ got_all m hs
  undo [] m hs can = refl
  undo (x ∷ d) m hs can = ap (λ (l : Homes O C R). laid_all d l) (reset (got_all (d ++ m) hs) x.0 x.1 can.1) ∙ undo d m hs can.0

  can-rest : (d m : Carried O C R) (hs : Homes O C R) → CanGet (d ++ m) hs → CanGet m hs
  can-rest [] m hs can = can
  can-rest (x ∷ d) m hs can = can-rest d m hs can.0

  got-append : (u m : Carried O C R) (hs : Homes O C R) → got_all (u ++ m) hs ≡ got_all u (got_all m hs)
  got-append [] m hs = refl
  got-append (x ∷ u) m hs = ap (λ (l : Homes O C R). set l x.0 opt.none) (got-append u m hs)

  can-append : (u m : Carried O C R) (hs : Homes O C R) → CanGet u (got_all m hs) → CanGet m hs → CanGet (u ++ m) hs
  can-append [] m hs first then = then
  can-append (x ∷ u) m hs first then = (can-append u m hs first.0 then, ap (λ (l : Homes O C R). get_elem? l x.0) (got-append u m hs) ∙ first.1)

  laid-append : (d m : Carried O C R) (hs : Homes O C R) → laid_all (d ++ m) hs ≡ laid_all m (laid_all d hs)
  laid-append [] m hs = refl
  laid-append (x ∷ d) m hs = laid-append d m (set hs x.0 (opt.some x.1))

  -- An act lays down the slots `laid` and takes the slots `got`.
  record IsActOf (hs : Homes O C R) (c : Carried O C R) (a : Act (SlotValue O C R)) : Type 0 where
    pub laid : Carried O C R
    pub got : Carried O C R
    pub kept : Carried O C R
    pub before : c ≡ laid ++ kept
    pub after : carried_after c a ≡ got ++ kept
    pub can : CanGet got (laid_all laid hs)
    pub homes : homes_after hs c a ≡ got_all got (laid_all laid hs)

  act-of : (hs : Homes O C R) (c : Carried O C R) (a : Act (SlotValue O C R)) → Valid hs c a → IsActOf hs c a
  act-of hs c keeps valid = record { laid = []; got = []; kept = c; before = refl; after = refl; can = tt; homes = refl }
  act-of hs c (takes k y) valid = record { laid = []; got = (k, y) ∷ []; kept = c; before = refl; after = refl; can = (tt, valid); homes = refl }
  act-of hs [] gives valid = record { laid = []; got = []; kept = []; before = refl; after = refl; can = tt; homes = refl }
  act-of hs (x ∷ xs) gives valid = record { laid = x ∷ []; got = []; kept = xs; before = refl; after = refl; can = tt; homes = refl }
  act-of hs c (chain a b) valid =
      both (act-of hs c a valid.0) (act-of (homes_after hs c a) (carried_after c a) b valid.1)
    where
      both : IsActOf hs c a → IsActOf (homes_after hs c a) (carried_after c a) b → IsActOf hs c (chain a b)
      both p q = ⊎_elim
          (λ t. let h : Homes O C R = laid_all p.laid hs in
          let can : CanGet (q.laid ++ t.0) h = subst (λ (l : Carried O C R). CanGet l h) t.1 p.can in
          let back : laid_all q.laid (homes_after hs c a) ≡ got_all t.0 h
          = ap (λ (l : Homes O C R). laid_all q.laid l) (p.homes ∙ ap (λ (l : Carried O C R). got_all l h) t.1) ∙ undo q.laid t.0 h can in record {
            laid = p.laid;
            got = q.got ++ t.0;
            kept = p.kept;
            before = p.before;
            after = q.after ∙ (ap (λ (l : Carried O C R). q.got ++ l) t.2 ∙ sym (append_assoc q.got t.0 p.kept));
            can = can-append q.got t.0 h (subst (CanGet q.got) back q.can) (can-rest q.laid t.0 h can);
            homes = q.homes ∙ (ap (λ (l : Homes O C R). got_all q.got l) back ∙ sym (got-append q.got t.0 h));
          })
          (λ t. let h : Homes O C R = laid_all p.laid hs in
          let all : p.got ++ [] ≡ p.got = append-nil p.got in
          let can : CanGet (p.got ++ []) h = subst (λ (l : Carried O C R). CanGet l h) (sym all) p.can in
          let none : laid_all p.got (got_all p.got h) ≡ h = ap (λ (l : Carried O C R). laid_all p.got (got_all l h)) (sym all) ∙ undo p.got [] h can in
          let back : laid_all q.laid (homes_after hs c a) ≡ laid_all (p.laid ++ t.0) hs
          = ap (λ (l : Homes O C R). laid_all q.laid l) p.homes ∙ (ap (λ (l : Carried O C R). laid_all l (got_all p.got h)) t.1
          ∙ (laid-append p.got t.0 (got_all p.got h) ∙ (ap (λ (l : Homes O C R). laid_all t.0 l) none ∙ sym (laid-append p.laid t.0 hs)))) in record {
            laid = p.laid ++ t.0;
            got = q.got;
            kept = q.kept;
            before = p.before ∙ (ap (λ (l : Carried O C R). p.laid ++ l) t.2 ∙ sym (append_assoc p.laid t.0 q.kept));
            after = q.after;
            can = subst (CanGet q.got) back q.can;
            homes = q.homes ∙ ap (λ (l : Homes O C R). got_all q.got l) back;
          })
          (two_splits p.got p.kept q.laid q.kept (sym p.after ∙ q.before))

  -- What is at home in slot k afterwards: nothing, or what was there before.
  abbrev pub IsLeft : Homes O C R → Homes O C R → ℕ → Type 0
  IsLeft hs gs k = (get_or gs k opt.none ≡ opt.none) ⊎ (get_or gs k opt.none ≡ get_or hs k opt.none)

  cleared : (l : Homes O C R) (i : ℕ) → get_or (set l i opt.none) i opt.none ≡ opt.none
  cleared [] i = refl
  cleared (x ∷ xs) zero = refl
  cleared (x ∷ xs) (suc i) = cleared xs i

  -- The slots that are laid down are taken again.
  round : (d : Carried O C R) (hs : Homes O C R) (k : ℕ) → IsLeft hs (got_all d (laid_all d hs)) k
  round [] hs k = inr refl
  round (x ∷ d) hs k = dite (ℕ_discrete k x.0)
      (λ e. inl (subst (λ (i : ℕ). get_or (set (got_all d (laid_all d (set hs x.0 (opt.some x.1)))) x.0 opt.none) i opt.none ≡ opt.none) (sym e) (cleared (got_all d (laid_all d (set hs x.0 (opt.some x.1)))) x.0)))
      (λ ne. let other = get_or-set_other (got_all d (laid_all d (set hs x.0 (opt.some x.1)))) x.0 k opt.none opt.none ne in ⊎_elim
      (λ n. inl (other ∙ n))
      (λ s. inr (other ∙ (s ∙ get_or-set_other hs x.0 k (opt.some x.1) opt.none ne)))
      (round d (set hs x.0 (opt.some x.1)) k))

  -- The seat carries afterwards what it carried before.
  pub left-same : (hs : Homes O C R) (c : Carried O C R) (a : Act (SlotValue O C R)) → Valid hs c a → carried_after c a ≡ c → (k : ℕ) → IsLeft hs (homes_after hs c a) k
  left-same hs c a valid same k =
      let p = act-of hs c a valid in
      let one : p.got ≡ p.laid = append_cancel_right p.got p.laid p.kept (sym p.after ∙ (same ∙ p.before)) in
      subst (λ (gs : Homes O C R). IsLeft hs gs k) (sym (p.homes ∙ ap (λ (l : Carried O C R). got_all l (laid_all p.laid hs)) one)) (round p.laid hs k)

  -- It carries one slot more: that slot was at home, with this value.
  module _ (hs : Homes O C R) (c : Carried O C R) (a : Act (SlotValue O C R)) (valid : Valid hs c a) (j : ℕ) (y : SlotValue O C R) (more : carried_after c a ≡ (j, y) ∷ c) where
    p : IsActOf hs c a
    p = act-of hs c a valid

    one : p.got ≡ (j, y) ∷ p.laid
    one = append_cancel_right p.got ((j, y) ∷ p.laid) p.kept (sym p.after ∙ (more ∙ ap (λ (l : Carried O C R). (j, y) ∷ l) p.before))

    pub taken : get_or hs j opt.none ≡ opt.some y
    taken =
        let can : CanGet ((j, y) ∷ p.laid) (laid_all p.laid hs) = subst (λ (l : Carried O C R). CanGet l (laid_all p.laid hs)) one p.can in
        let at = (at_there (got_all p.laid (laid_all p.laid hs)) j (opt.some y) opt.none can.1).0 in ⊎_elim
        (λ n. absurd (opt.some-ne-none y (sym at ∙ n)))
        (λ s. sym s ∙ at)
        (round p.laid hs j)

    pub left-taken : (k : ℕ) → IsLeft hs (homes_after hs c a) k
    left-taken k = subst (λ (gs : Homes O C R). IsLeft hs gs k) (sym (p.homes ∙ ap (λ (l : Carried O C R). got_all l (laid_all p.laid hs)) one))
        (dite (ℕ_discrete k j)
        (λ e. inl (subst (λ (i : ℕ). get_or (set (got_all p.laid (laid_all p.laid hs)) j opt.none) i opt.none ≡ opt.none) (sym e) (cleared (got_all p.laid (laid_all p.laid hs)) j)))
        (λ ne. let other = get_or-set_other (got_all p.laid (laid_all p.laid hs)) j k opt.none opt.none ne in ⊎_elim
        (λ n. inl (other ∙ n))
        (λ s. inr (other ∙ s))
        (round p.laid hs k)))

  -- It carries its first slot no more.
  module _ (hs : Homes O C R) (j : ℕ) (y : SlotValue O C R) (c : Carried O C R) (a : Act (SlotValue O C R)) (valid : Valid hs ((j, y) ∷ c) a) (less : carried_after ((j, y) ∷ c) a ≡ c) where
    left-laid : (k : ℕ) → IsLeft (set hs j (opt.some y)) (homes_after hs ((j, y) ∷ c) a) k
    left-laid k =
        let q = act-of hs ((j, y) ∷ c) a valid in
        let all : q.laid ≡ (j, y) ∷ q.got = append_cancel_right q.laid ((j, y) ∷ q.got) q.kept (sym q.before ∙ ap (λ (l : Carried O C R). (j, y) ∷ l) (sym less ∙ q.after)) in
        subst (λ (gs : Homes O C R). IsLeft (set hs j (opt.some y)) gs k) (sym (q.homes ∙ ap (λ (l : Carried O C R). got_all q.got (laid_all l hs)) all)) (round q.got (set hs j (opt.some y)) k)

    -- Another slot is as before.
    pub left-given : (k : ℕ) → k ≢ j → IsLeft hs (homes_after hs ((j, y) ∷ c) a) k
    left-given k ne = ⊎_elim (λ n. inl n) (λ s. inr (s ∙ get_or-set_other hs j k (opt.some y) opt.none ne)) (left-laid k)

    -- If that slot is at home afterwards, it has this value.
    pub given : (z : SlotValue O C R) → get_or (homes_after hs ((j, y) ∷ c) a) j opt.none ≡ opt.some z → get_or (homes_after hs ((j, y) ∷ c) a) j opt.none ≡ opt.some y
    given z now = ⊎_elim
        (λ n. absurd (opt.some-ne-none z (sym now ∙ n)))
        (λ s. s ∙ ⊎_elim (λ e. e) (λ n. absurd (opt.some-ne-none z (sym now ∙ (s ∙ n)))) (set_or hs j))
        (left-laid j)
      where
        set_or : (l : Homes O C R) (i : ℕ) → (get_or (set l i (opt.some y)) i opt.none ≡ opt.some y) ⊎ (get_or (set l i (opt.some y)) i opt.none ≡ opt.none)
        set_or [] i = inr refl
        set_or (x ∷ xs) zero = inl refl
        set_or (x ∷ xs) (suc i) = set_or xs i
