use Rattle.std.proofs.Common.{ℕ, List, ◌++◌, take, sym, ◌∙◌, ap, subst}
use Rattle.std.specs.List.{IsDistinct}
use Rattle.lock_tree.specs.Paths.{same_path}
use Rattle.indexmap.specs.IndexMap.{keys}
use Rattle.session_locks.specs.declared.locks.HeldLock.{HeldLock}
use Rattle.session_locks.specs.Resources.{is_behind, in_order, those_behind}
use Rattle.session_locks.specs.LockLists.{LockList}
use Rattle.session_locks.specs.inner.ChildCounts.{resources_of}
use Rattle.session_locks.proofs.FilteredResources.{apart-filter, apart-distinct, gathered}
use Rattle.session_locks.proofs.locks.Locks.first_behind.Goals as goal

pub keep_first-requires : goal.keep_first-requires
keep_first-requires c =
    let a = c.self.inside in
    let p = is_behind c.args.after in
    let items = c.args.self.now.items in
    let is = c.in_ok-push_recent.ensures
    ∙ (ap (λ (rs : List (List ℕ)). rs ++ those_behind c.args.after (resources_of c.deref.result.now)) c.in_ok-push_indexed.ensures
    ∙ gathered p c.new-list.result.items c.as_slice.result.now (resources_of c.deref.result.now) (keys a.indexed) (resources_of a.recent.items) items
    c.new-list.ensures.items (c.as_slice.ensures ∙ c.keys.ensures.rest) (ap (λ (ls : List HeldLock). resources_of ls) c.deref.ensures.value) (ap (λ (v : LockList). v.items) c.self.view_is)) in
    subst (IsDistinct same_path) (sym is) (apart-distinct (those_behind c.args.after items) (apart-filter p items c.requires))

pub returns : goal.returns
returns c =
    let a = c.self.inside in
    let p = is_behind c.args.after in
    let items = c.args.self.now.items in
    let is = c.in_ok-push_recent.ensures
    ∙ (ap (λ (rs : List (List ℕ)). rs ++ those_behind c.args.after (resources_of c.deref.result.now)) c.in_ok-push_indexed.ensures
    ∙ gathered p c.new-list.result.items c.as_slice.result.now (resources_of c.deref.result.now) (keys a.indexed) (resources_of a.recent.items) items
    c.new-list.ensures.items (c.as_slice.ensures ∙ c.keys.ensures.rest) (ap (λ (ls : List HeldLock). resources_of ls) c.deref.ensures.value) (ap (λ (v : LockList). v.items) c.self.view_is)) in
    c.keep_first.ensures ∙ ap (λ (rs : List (List ℕ)). take c.args.most (in_order rs)) is
