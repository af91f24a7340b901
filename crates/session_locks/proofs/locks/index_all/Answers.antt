use Rattle.std.proofs.Common.{◌+◌, ◌∷◌, drop, sym, ◌∙◌, ap, subst}
use Rattle.std.specs.Map.{keys_of}
use Rattle.std.proofs.lemmas.List.{drop_more}
use Rattle.session_locks.specs.declared.locks.HeldLock.{HeldLock}
use Rattle.session_locks.specs.Resources.{AreApart}
use Rattle.session_locks.specs.inner.ChildCounts.{resources_of}
use Rattle.session_locks.proofs.LockLists.{apart-parts, before-none}
use Rattle.session_locks.proofs.locks.index_all.Goals as goal

pub index_one-requires-clause-apart : goal.index_one-requires-clause-apart
index_one-requires-clause-apart c =
    (apart-parts (keys_of c.loop-index.indexed.entries) (resources_of (drop c.loop-index.index c.args.recent.now)) (subst AreApart (sym c.loop-index.invariant.all) c.requires.apart)).first

pub index_one-requires-clause-new : goal.index_one-requires-clause-new
index_one-requires-clause-new c =
    let xs = c.args.recent.now in
    let i = c.loop-index.index in
    let x = c.index-recent-index.result in
    before-none (keys_of c.loop-index.indexed.entries) (resources_of (drop i xs)) (resources_of (drop (i + 1) xs)) x.resource
    (ap resources_of (drop_more xs i x c.loop-index-test.true ∙ ap (λ (y : HeldLock). y ∷ drop (i + 1) xs) (sym c.index-recent-index.is)))
    (subst AreApart (sym c.loop-index.invariant.all) c.requires.apart)
