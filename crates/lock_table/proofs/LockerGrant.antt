-- The locker of a session whose request is granted, or whose last lock goes.
use Rattle.std.proofs.Common.{◌≡◌, ℕ, Bool, true, false, cond, not, List, [], ◌∷◌, ◌++◌, length, length-append, Option, Some, None, sym, ◌∙◌, ap, arith, subst}
use Rattle.std.specs.Prelude.{IfSome, IfNone, ◌≤◌}
use Rattle.lock_rules.proofs.Lists.{same_path-true}
use Rattle.lock_table.specs.declared.lockers.LockRequest.{LockRequest}
use Rattle.lock_table.specs.declared.lockers.LockRequest.TheVariants.{Fresh, Conversion}
use Rattle.lock_table.specs.declared.lockers.Locker.{Locker}
use Rattle.session_locks.specs.Resources.{has_path, AreApart}
use Rattle.session_locks.specs.LockLists.{IsUnder}
use Rattle.lock_table.specs.inner.Requests.{resource_asked, is_fresh, wanted_in, IsOfKind, IsComingUnder}
use Rattle.lock_table.specs.inner.Lockers.{is_wanted, with_path}
use Rattle.session_locks.specs.declared.locks.HeldLock.{HeldLock}
use Rattle.session_locks.proofs.ResourceLists.{apart-pop}

module _ (r : List ℕ) (locker : Locker) (waits : is_wanted r (wanted_in locker.wanted) ≡ true) where
  -- a request for `r` is a conversion exactly if `r` is held
  kind-told : has_path r locker.held.items ≡ not (is_fresh locker.wanted)
  kind-told = go locker.wanted locker.kind waits
    where
      go : (o : Option LockRequest) → IsOfKind o locker.held.items → is_wanted r (wanted_in o) ≡ true → has_path r locker.held.items ≡ not (is_fresh o)
      go None k w = absurd (cc)
      go (Some q) k w = subst (λ (x : List ℕ). has_path x locker.held.items ≡ not (is_fresh (Some q))) (same_path-true (resource_asked q) r w) k

  -- the parent of a fresh request's resource is held
  pub coming-under : is_fresh locker.wanted ≡ true → IsUnder locker.held.items r
  coming-under is = go locker.wanted locker.under waits is
    where
      go : (o : Option LockRequest) → IsComingUnder o locker.held.items → is_wanted r (wanted_in o) ≡ true → is_fresh o ≡ true → IsUnder locker.held.items r
      go None u w f = absurd (cc)
      go (Some (Conversion q)) u w f = absurd (cc)
      go (Some (Fresh q)) u w f = subst (IsUnder locker.held.items) (same_path-true q r w) u

  pub fresh-new : is_fresh locker.wanted ≡ true → has_path r locker.held.items ≡ false
  fresh-new is = kind-told ∙ ap not is

  -- the resources held after the grant: one more if the request is fresh
  pub granted-held : (b : Bool) (rs : List (List ℕ)) → is_fresh locker.wanted ≡ b → rs ≡ cond b (locker.held.items ++ r ∷ []) locker.held.items → rs ≡ with_path r locker.held.items
  granted-held true rs is held = held ∙ ap (λ (c : Bool). cond c locker.held.items (locker.held.items ++ r ∷ [])) (sym (kind-told ∙ ap not is))
  granted-held false rs is held = held ∙ ap (λ (c : Bool). cond c locker.held.items (locker.held.items ++ r ∷ [])) (sym (kind-told ∙ ap not is))

-- the last lock is removed

-- no resource is there twice among the remaining locks
pub left-apart : (o : Option HeldLock) (old new : List (List ℕ)) → IfSome o (λ last. old ≡ new ++ last.resource ∷ []) → IfNone o (new ≡ []) → AreApart old → AreApart new
left-apart None old new popped none a = subst AreApart (sym none) tt
left-apart (Some last) old new popped none a = (apart-pop new last.resource (subst AreApart popped a)).0

-- the remaining locks are no more than before
pub left-few : (o : Option HeldLock) (old new : List (List ℕ)) → IfSome o (λ last. old ≡ new ++ last.resource ∷ []) → IfNone o (new ≡ []) → length new ≤ length old
left-few None old new popped none = let n = ap length none in omega (arith, n)
left-few (Some last) old new popped none =
    let long = ap length popped in
    let more = length-append new (last.resource ∷ []) in
    omega (arith, long, more)
