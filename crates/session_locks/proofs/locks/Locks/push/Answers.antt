use Rattle.std.proofs.Common.{ℕ, List, [], ◌∷◌, ◌++◌, ◌∙◌, ap, sym, subst, arith}
use Rattle.std.proofs.lemmas.List.{append_assoc}
use Rattle.indexmap.specs.IndexMap.{keys}
use Rattle.session_locks.specs.LockLists.{LockList, IsUnder}
use Rattle.session_locks.specs.inner.ChildCounts.{resources_of}
use Rattle.session_locks.proofs.LockLists.{under-push, resources-push}
use Rattle.session_locks.proofs.locks.Locks.push.Goals as goal

pub invariant_of-self : goal.invariant_of-self
invariant_of-self c =
    let a = c.self.inside in
    let room = ap (λ (v : LockList). v.room) c.self.view_is in
    record {
      room = omega (arith, room, c.requires.room, c.push_reserved.ensures.len, c.self.invariant.room);
      listed = omega (arith, c.push_reserved.ensures.capacity, c.self.invariant.listed);
      indexable = c.self.invariant.indexable;
      counted = c.self.invariant.counted;
      under = λ st. rw (resources-push a.recent.items _ _ c.push_reserved.ensures.items) (under-push (keys a.indexed) (resources_of a.recent.items) c.args.resource (c.self.invariant.under st) (subst (λ (v : LockList). IsUnder v.items c.args.resource) (sym c.self.view_is) c.requires.under));
    }

pub returns : goal.returns
returns c =
    let a = c.self.inside in
    let e = ap (λ (v : LockList). v.items) c.self.view_is in
    let r = c.args.resource in
    ap (λ (xs : List (List ℕ)). keys a.indexed ++ xs) (resources-push a.recent.items _ _ c.push_reserved.ensures.items)
    ∙ (sym (append_assoc (keys a.indexed) (resources_of a.recent.items) (r ∷ [])) ∙ ap (λ (xs : List (List ℕ)). xs ++ r ∷ []) e)
