use Rattle.std.proofs.Common.{◌≡◌, ◌<◌, ◌++◌, ◌||◌, List, ℕ, [], length, get_or, refl, sym, ◌∙◌, ap, subst, arith}
use Rattle.indexmap.specs.IndexMap.{keys}
use Rattle.session_locks.specs.declared.locks.HeldLock.{HeldLock}
use Rattle.session_locks.specs.Resources.{has_path, AreApart}
use Rattle.session_locks.specs.LockLists.{LockList, has_child, IsWithout}
use Rattle.session_locks.specs.inner.ChildCounts.{resources_of}
use Rattle.session_locks.proofs.LockLists.{apart-parts, has_path-append, recent-left, recent-under, indexed-left, indexed-under, entry-within, entry-key, keys-long, key-is, not-found, resources-remove, resources-long}
use Rattle.session_locks.proofs.locks.Locks.remove.Goals as goal

pub invariant_of-self : goal.invariant_of-self
invariant_of-self c =
    let a = c.self.inside in
    let ks = keys a.indexed in
    let qs = resources_of a.recent.items in
    let r = c.args.resource in
    let e = ap (λ (v : LockList). v.items) c.self.view_is in
    let i = c.in-Some.place in
    let long = ap (λ (xs : List HeldLock). length xs) c.deref.ensures.value in
    let lt : i < length qs = omega (arith, c.in-Some.ensures.within, long, resources-long a.recent.items) in
    let at : get_or qs i [] ≡ r = ap (λ (xs : List HeldLock). get_or (resources_of xs) i []) (sym c.deref.ensures.value) ∙ c.in-Some.ensures.at in
    record {
      room = omega (arith, c.remove-removed.ensures.len, c.self.invariant.room);
      listed = omega (arith, c.remove-removed.ensures.capacity, c.self.invariant.listed);
      indexable = c.self.invariant.indexable;
      counted = c.self.invariant.counted;
      under = λ st. rw (resources-remove a.recent.items _ i c.remove-removed.ensures.items) (recent-under ks qs i lt r at (ap (has_child r) e ∙ c.requires.childless) (c.self.invariant.under st));
    }

pub returns-in-Some : goal.returns-in-Some
returns-in-Some c =
    let a = c.self.inside in
    let ks = keys a.indexed in
    let qs = resources_of a.recent.items in
    let r = c.args.resource in
    let e = ap (λ (v : LockList). v.items) c.self.view_is in
    let i = c.in-Some.place in
    let long = ap (λ (xs : List HeldLock). length xs) c.deref.ensures.value in
    let lt : i < length qs = omega (arith, c.in-Some.ensures.within, long, resources-long a.recent.items) in
    let at : get_or qs i [] ≡ r = ap (λ (xs : List HeldLock). get_or (resources_of xs) i []) (sym c.deref.ensures.value) ∙ c.in-Some.ensures.at in
    subst (λ (xs : List (List ℕ)). IsWithout r xs (ks ++ resources_of c.remove-removed.new.self.items)) e
    (rw (resources-remove a.recent.items _ i c.remove-removed.ensures.items) (recent-left ks qs i lt r at (subst AreApart (sym e) c.requires.apart)))

pub remove_indexed-requires-clause-at : goal.remove_indexed-requires-clause-at
remove_indexed-requires-clause-at c =
    let es = c.self.inside.indexed.entries in
    let k = c.in-Some-get_full.field-0-1.now in
    entry-key es c.in-Some-get_full.place k c.in-Some-get_full.field-0-2.now c.in-Some-get_full.ensures.entry ∙ sym (key-is _ c.same_path_is_equality.ensures.code c.args.resource es k c.in-Some-get_full.ensures.key)

pub remove_indexed-requires-clause-apart : goal.remove_indexed-requires-clause-apart
remove_indexed-requires-clause-apart c =
    let a = c.self.inside in
    (apart-parts (keys a.indexed) (resources_of a.recent.items) (subst AreApart (sym (ap (λ (v : LockList). v.items) c.self.view_is)) c.requires.apart)).first

pub invariant_of-self-in-Some-get_full : goal.invariant_of-self-in-Some-get_full
invariant_of-self-in-Some-get_full c =
    let a = c.self.inside in
    let ks = keys a.indexed in
    let qs = resources_of a.recent.items in
    let r = c.args.resource in
    let e = ap (λ (v : LockList). v.items) c.self.view_is in
    let es = a.indexed.entries in
    let p = c.in-Some-get_full.place in
    let k = c.in-Some-get_full.field-0-1.now in
    let n = c.in-Some-get_full.field-0-2.now in
    let entry = c.in-Some-get_full.ensures.entry in
    let lt : p < length ks = omega (arith, entry-within es p k n entry, keys-long es) in
    let at : get_or ks p [] ≡ r = entry-key es p k n entry ∙ sym (key-is _ c.same_path_is_equality.ensures.code r es k c.in-Some-get_full.ensures.key) in
    let none = ap (λ (xs : List HeldLock). has_path r (resources_of xs)) (sym c.deref.ensures.value) ∙ c.in_default.ensures.none in
    record {
      room = c.self.invariant.room;
      listed = c.self.invariant.listed;
      indexable = omega (arith, c.remove_indexed.ensures.spare, c.self.invariant.indexable);
      counted = λ st. c.remove_indexed.ensures.counted (c.self.invariant.counted st);
      under = λ st. rw c.remove_indexed.ensures.keys (indexed-under ks qs p lt r at none (subst AreApart (sym e) c.requires.apart) (ap (has_child r) e ∙ c.requires.childless) (c.self.invariant.under st));
    }

pub returns-in-Some-get_full : goal.returns-in-Some-get_full
returns-in-Some-get_full c =
    let a = c.self.inside in
    let ks = keys a.indexed in
    let qs = resources_of a.recent.items in
    let r = c.args.resource in
    let e = ap (λ (v : LockList). v.items) c.self.view_is in
    let es = a.indexed.entries in
    let p = c.in-Some-get_full.place in
    let k = c.in-Some-get_full.field-0-1.now in
    let n = c.in-Some-get_full.field-0-2.now in
    let entry = c.in-Some-get_full.ensures.entry in
    let lt : p < length ks = omega (arith, entry-within es p k n entry, keys-long es) in
    let at : get_or ks p [] ≡ r = entry-key es p k n entry ∙ sym (key-is _ c.same_path_is_equality.ensures.code r es k c.in-Some-get_full.ensures.key) in
    let none = ap (λ (xs : List HeldLock). has_path r (resources_of xs)) (sym c.deref.ensures.value) ∙ c.in_default.ensures.none in
    subst (λ (xs : List (List ℕ)). IsWithout r xs (keys c.remove_indexed.new.indexed ++ qs)) e
    (rw c.remove_indexed.ensures.keys (indexed-left ks qs p lt r at none (subst AreApart (sym e) c.requires.apart)))

pub returns-in_default-get_full : goal.returns-in_default-get_full
returns-in_default-get_full c =
    let a = c.self.inside in
    let ks = keys a.indexed in
    let qs = resources_of a.recent.items in
    let r = c.args.resource in
    let e = ap (λ (v : LockList). v.items) c.self.view_is in
    let none = ap (λ (xs : List HeldLock). has_path r (resources_of xs)) (sym c.deref.ensures.value) ∙ c.in_default.ensures.none in
    let absent = not-found _ c.same_path_is_equality.ensures.code r a.indexed.entries c.in_default-get_full.ensures.value in
    record {
      gone = ap (has_path r) (sym e) ∙ (has_path-append r ks qs ∙ (λ i. absent i || none i));
      others = λ q n. refl;
      apart = c.requires.apart;
      few = omega arith;
    }
