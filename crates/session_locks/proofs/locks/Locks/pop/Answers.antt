use Rattle.std.proofs.Common.{ℕ, List, [], ◌∷◌, ◌++◌, sym, ◌∙◌, ap, subst, arith}
use Rattle.std.proofs.lemmas.List.{append_assoc}
use Rattle.indexmap.specs.IndexMap.{keys}
use Rattle.session_locks.specs.LockLists.{LockList}
use Rattle.session_locks.specs.inner.ChildCounts.{AreUnder, resources_of}
use Rattle.session_locks.proofs.LockLists.{under-pop, resources-push}
use Rattle.session_locks.proofs.locks.Locks.pop.Goals as goal

pub invariant_of-self : goal.invariant_of-self
invariant_of-self c =
    let a = c.self.inside in
    record {
      room = omega (arith, c.in-Some.ensures.len, c.self.invariant.room);
      listed = omega (arith, c.in-Some.ensures.capacity, c.self.invariant.listed);
      indexable = c.self.invariant.indexable;
      counted = c.self.invariant.counted;
      under = λ st. under-pop (keys a.indexed) (resources_of c.pop.new.self.items) c.in-Some.last.resource (subst (AreUnder (keys a.indexed)) (resources-push c.pop.new.self.items a.recent.items c.in-Some.last c.in-Some.ensures.items) (c.self.invariant.under st));
    }

pub returns-in-Some-clause-some : goal.returns-in-Some-clause-some
returns-in-Some-clause-some c =
    let a = c.self.inside in
    let e = ap (λ (v : LockList). v.items) c.self.view_is in
    let news = c.pop.new.self.items in
    let r = c.in-Some.last.resource in
    sym e ∙ (ap (λ (xs : List (List ℕ)). keys a.indexed ++ xs) (resources-push news a.recent.items c.in-Some.last c.in-Some.ensures.items) ∙ sym (append_assoc (keys a.indexed) (resources_of news) (r ∷ [])))
