use Rattle.std.proofs.Common.{◌+◌, Bool, ◌||◌, List, [], ◌∷◌, drop, ◌∙◌, ap, sym}
use Rattle.std.proofs.lemmas.List.{get_or-map, drop_more, drop_all}
use Rattle.lock_rules.proofs.Lists.{same_path-true}
use Rattle.session_locks.specs.declared.locks.HeldLock.{HeldLock}
use Rattle.session_locks.specs.Resources.{has_path}
use Rattle.session_locks.specs.inner.ChildCounts.{resources_of}
use Rattle.session_locks.proofs.locks.search.Goals as goal

pub returns-then-is_same-clause-at : goal.returns-then-is_same-clause-at
returns-then-is_same-clause-at c =
    let xs = c.args.list.now in
    let l = c.index-list-index.result in
    get_or-map (λ (x : HeldLock). x.resource) xs c.loop-index.index l [] c.loop-index-test.true
    ∙ (ap (λ (x : HeldLock). x.resource) (sym c.index-list-index.is) ∙ same_path-true l.resource c.args.resource (sym c.is_same.ensures ∙ c.if-is_same.true))

pub loop-index-preserved : goal.loop-index-preserved
loop-index-preserved c =
    let xs = c.args.list.now in
    let i = c.loop-index.index in
    let l = c.index-list-index.result in
    c.loop-index.invariant
    ∙ (ap (λ (ys : List HeldLock). has_path c.args.resource (resources_of ys)) (drop_more xs i l c.loop-index-test.true ∙ ap (λ (y : HeldLock). y ∷ drop (i + 1) xs) (sym c.index-list-index.is))
    ∙ ap (λ (b : Bool). b || has_path c.args.resource (resources_of (drop (i + 1) xs))) (sym c.is_same.ensures ∙ c.if-is_same.false))

pub returns-clause-none : goal.returns-clause-none
returns-clause-none c = c.loop-index.invariant ∙ ap (λ (ys : List HeldLock). has_path c.args.resource (resources_of ys)) (drop_all c.loop-index.index c.args.list.now c.loop-index-test.false)
