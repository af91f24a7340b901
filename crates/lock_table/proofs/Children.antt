-- A session that holds anything below a resource holds a child of it, so its own list of locks says whether it does.
use Rattle.std.proofs.Common.{◌≡◌, ℕ, Bool, true, false, cond, eqb, ◌&&◌, ◌||◌, List, [], ◌∷◌, Option, Some, None, is_some, refl, sym, ap, arith, subst}
use Rattle.std.specs.List.{list_any}
use Rattle.std.proofs.lemmas.Bool.{and_parts, and_from}
use Rattle.std.proofs.lemmas.Bool.Decides.{nat_tests}
use Rattle.lock_modes.specs.declared.Mode.{Mode}
use Rattle.lock_tree.specs.Paths.{is_ancestor, parent_of, has_parent, same_path}
use Rattle.lock_tree.proofs.Ancestors.{parent-ancestor}
use Rattle.lock_rules.specs.State as rules
use Rattle.lock_rules.specs.Sound.{IsSound}
use Rattle.lock_rules.proofs.Lists.{same_path-refl, same_path-true, same_path_tells}
use Rattle.lock_rules.proofs.Children.{children-held}
use Rattle.session_locks.specs.LockLists.{is_child}

-- a resource below `r` for which `has` is true
pub record Below (r : List ℕ) (has : List ℕ → Bool) : Type 0 where
  pub path : List ℕ
  pub below : is_ancestor r path ≡ true
  pub there : has path ≡ true

-- a child is below its parent
pub child-below : (r q : List ℕ) → is_child r q ≡ true → is_ancestor r q ≡ true
child-below r q h =
    let p = and_parts (has_parent q) (same_path (parent_of q) r) h in
    subst (λ (x : List ℕ). is_ancestor x q ≡ true) (same_path-true (parent_of q) r p.1) (parent-ancestor q p.0)

-- session `s` has a claim on a resource below `r`
abbrev pub has_child : ℕ → List ℕ → List rules.Claim → Bool
has_child s r cs = list_any (λ c. eqb c.session s && is_ancestor r c.resource) cs

-- a session with a claim below has a lock that is found by its resource
pub child-there : (s : ℕ) (r : List ℕ) (cs : List rules.Claim) → has_child s r cs ≡ true → Below r (λ q. is_some (rules.mode_in s q cs))
child-there s r [] h = absurd (cc)
child-there s r (c ∷ cs) h = go (eqb c.session s && is_ancestor r c.resource) refl h (child-there s r cs)
  where
    some-more : (b : Bool) (o : Option Mode) → is_some o ≡ true → is_some (cond b (Some c.mode) o) ≡ true
    some-more true o h = refl
    some-more false o h = h

    go : (b : Bool) → (eqb c.session s && is_ancestor r c.resource) ≡ b → (b || has_child s r cs) ≡ true → (has_child s r cs ≡ true → Below r (λ q. is_some (rules.mode_in s q cs))) → Below r (λ q. is_some (rules.mode_in s q (c ∷ cs)))
    go true e h next =
        let p = and_parts (eqb c.session s) (is_ancestor r c.resource) e in
        record {
          path = c.resource;
          below = p.1;
          there = ap (λ (b : Bool). is_some (cond b (Some c.mode) (rules.mode_in s c.resource cs))) (and_from (eqb c.session s) (same_path c.resource c.resource) p.0 (same_path-refl c.resource));
        }
    go false e h next = let w = next h in record { path = w.path; below = w.below; there = some-more (eqb c.session s && same_path c.resource w.path) (rules.mode_in s w.path cs) w.there }

-- a lock that is found below is a claim below
pub there-child : (s : ℕ) (r q : List ℕ) (cs : List rules.Claim) → is_some (rules.mode_in s q cs) ≡ true → is_ancestor r q ≡ true → has_child s r cs ≡ true
there-child s r q [] h a = absurd (cc)
there-child s r q (c ∷ cs) h a = grind (arith, nat_tests, same_path_tells, there-child s r q cs)

-- a child of `r` that session `s` holds
pub record HeldChild (s : ℕ) (r : List ℕ) (t : rules.Table) : Type 0 where
  pub path : List ℕ
  pub child : is_child r path ≡ true
  pub there : is_some (rules.held_mode t s path) ≡ true

-- a session that holds anything below a resource holds a child of it
pub held-child : (st : rules.State) → IsSound st.table → (s : ℕ) (r q : List ℕ) → is_ancestor r q ≡ true → is_some (rules.held_mode st.table s q) ≡ true → HeldChild s r st.table
held-child st i s r q a h = go (rules.held_mode st.table s q) refl h
  where
    some-above : r ≡ [] → ⊥
    some-above e = let k : is_ancestor [] q ≡ true = subst (λ (x : List ℕ). is_ancestor x q ≡ true) e a in cc

    go : (o : Option Mode) → rules.held_mode st.table s q ≡ o → is_some o ≡ true → HeldChild s r st.table
    go None e k = absurd (cc)
    go (Some m) e k =
        let w = children-held st i s r q m some-above a e in
        let same : same_path (parent_of w.0) r ≡ true = subst (λ (x : List ℕ). same_path x r ≡ true) (sym w.3) (same_path-refl r) in
        record { path = w.0; child = and_from (has_parent w.0) (same_path (parent_of w.0) r) w.2 same; there = ap is_some w.4 }
