-- If a session holds a lock below a resource, it holds a lock on a child of the resource.
use Rattle.std.proofs.Common.{◌≡◌, ◌≢◌, ℕ, zero, suc, ◌≤◌, true, inl, inr, List, [], ◌∷◌, length, Some, refl, sym, ap, arith}
use Rattle.lock_modes.specs.declared.Mode.{Mode}
use Rattle.lock_tree.specs.Paths.{is_ancestor, parent_of, has_parent}
use Rattle.lock_tree.proofs.Ancestors.{ancestor-parent}
use Rattle.lock_rules.specs.State.{Table, State, held_mode}
use Rattle.lock_rules.specs.Laws.{AreChildrenHeld}
use Rattle.lock_rules.specs.Sound.{IsSound}
use Rattle.lock_rules.proofs.Sound.{stands-under}

-- the empty list has no ancestor
pub none-above : (y : List ℕ) → is_ancestor y [] ≡ true → ⊥
none-above [] h = cc
none-above (b ∷ y) h = cc

-- a parent is shorter by one
pub length-parent : (b c : ℕ) (zs : List ℕ) → length (parent_of (b ∷ c ∷ zs)) ≡ suc (length zs)
length-parent b c [] = refl
length-parent b c (d ∷ zs) = ap suc (length-parent c d zs)

-- the session holds a lock on a child of r
record HoldsChild (t : Table) (s : ℕ) (r : List ℕ) : Type 0 where
  child : List ℕ
  mode : Mode
  has_one : has_parent child ≡ true
  is_parent : parent_of child ≡ r
  held : held_mode t s child ≡ Some mode

module _ (t : Table) (i : IsSound t) (s : ℕ) (r : List ℕ) (some : r ≢ []) where
  -- a lock on a descendant implies one on a child, since each lock has its parent held
  child-held : (n : ℕ) (x : List ℕ) → length x ≤ n → (m : Mode) → is_ancestor r x ≡ true → held_mode t s x ≡ Some m → HoldsChild t s r
  child-held n [] le m a h = elim (ancestor-parent r [] a) [ inl e ↦ absurd (some e) | inr k ↦ absurd (none-above r k) ]
  child-held n (b ∷ []) le m a h = elim (ancestor-parent r (b ∷ []) a) [ inl e ↦ absurd (some e) | inr k ↦ absurd (none-above r k) ]
  child-held zero (b ∷ c ∷ zs) le m a h = absurd (omega arith)
  child-held (suc n) (b ∷ c ∷ zs) le m a h = elim (ancestor-parent r (b ∷ c ∷ zs) a) [
    | inl e ↦ record { child = b ∷ c ∷ zs; mode = m; has_one = refl; is_parent = sym e; held = h }
    | inr k ↦
        let up = stands-under t s (b ∷ c ∷ zs) m (i.held_under s (b ∷ c ∷ zs) m h) refl in
        child-held n (parent_of (b ∷ c ∷ zs)) (omega (arith, length-parent b c zs)) up.0 k up.1
  ]

-- the law holds of every sound table
pub children-held : (st : State) → IsSound st.table → AreChildrenHeld st
children-held st i s r x m some a h = let w = child-held st.table i s r some (length x) x (omega arith) m a h in (w.child, w.mode, w.has_one, w.is_parent, w.held)
