use Rattle.std.proofs.Common.{◌≡◌, ℕ, Bool, false, ◌||◌, List, sym, ◌∙◌, ap, rules, tests}
use Rattle.std.proofs.lemmas.Iterator.{YieldsList-from_slice}
use Rattle.std.proofs.lemmas.Iterator.Search.{any_from_yields_List}
use Rattle.std.proofs.Math.Bool.{or-false}
use Rattle.indexmap.specs.IndexMap.{keys}
use Rattle.session_locks.specs.declared.locks.HeldLock.{HeldLock}
use Rattle.session_locks.specs.LockLists.{LockList, is_child, has_child}
use Rattle.session_locks.specs.inner.ChildCounts.{resources_of}
use Rattle.session_locks.proofs.LockLists.{has_child-append}
use Rattle.session_locks.proofs.locks.Locks.holds_child.Goals as goal

pub returns : goal.returns
returns c =
    let a = c.self.inside in
    let r = c.args.resource in
    let rs = keys a.indexed in
    let e = ap (λ (v : LockList). v.items) c.self.view_is in
    let found = any_from_yields_List (λ (q : List ℕ). is_child r q) _ _ _ c.any.ensures.ran (YieldsList-from_slice c.as_slice-keys.result.now cc) (λ x b q k. search (rules, tests)) in
    let none : has_child r (resources_of a.recent.items) ≡ false = ap (λ (xs : List HeldLock). has_child r (resources_of xs)) (sym c.deref.ensures.value) ∙ (sym c.has_child.ensures ∙ c.if-has_child.false) in
    found ∙ (ap (has_child r) (c.as_slice-keys.ensures ∙ c.keys.ensures.rest) ∙ (sym (or-false (has_child r rs)) ∙ (ap (λ (b : Bool). has_child r rs || b) (sym none)
    ∙ (sym (has_child-append r rs (resources_of a.recent.items)) ∙ ap (has_child r) e))))
