use Rattle.std.proofs.Common.{◌≡◌, ◌++◌, ◌∷◌, [], List, ℕ, length, sym, ◌∙◌, ap, subst, arith}
use Rattle.std.specs.Map.{keys_of, values_of}
use Rattle.indexmap.proofs.CallerLemmas.{insert_entry-new}
use Rattle.session_locks.specs.Resources.{has_path}
use Rattle.session_locks.specs.inner.ChildCounts.{DoCount}
use Rattle.session_locks.proofs.ChildCounts.{pushed-counts}
use Rattle.session_locks.proofs.LockLists.{from-ok, keys-push, values-push, keys-long, values-long, new-found}
use Rattle.session_locks.proofs.locks.index_one.Goals as goal

pub returns-clause-keys : goal.returns-clause-keys
returns-clause-keys c =
    let mid = c.raise_parent.new.indexed in
    let q = c.args.resource in
    let new = ap (has_path q) c.raise_parent.ensures.keys ∙ c.requires.new in
    let is = from-ok c.insert-inserted.result _ (c.insert-inserted.ensures.succeeds (omega (arith, c.requires.room, c.raise_parent.ensures.spare))) c.insert-inserted.ensures.entries
    ∙ insert_entry-new _ mid q 0 (new-found _ c.same_path_is_equality.ensures.code q mid.entries new) in
    ap keys_of is ∙ (keys-push mid.entries q 0 ∙ ap (λ (xs : List (List ℕ)). xs ++ q ∷ []) c.raise_parent.ensures.keys)

pub returns-clause-counted : goal.returns-clause-counted
returns-clause-counted c =
    let old = c.args.indexed.now in
    let mid = c.raise_parent.new.indexed in
    let q = c.args.resource in
    let new = ap (has_path q) c.raise_parent.ensures.keys ∙ c.requires.new in
    let is = from-ok c.insert-inserted.result _ (c.insert-inserted.ensures.succeeds (omega (arith, c.requires.room, c.raise_parent.ensures.spare))) c.insert-inserted.ensures.entries
    ∙ insert_entry-new _ mid q 0 (new-found _ c.same_path_is_equality.ensures.code q mid.entries new) in
    let keys = ap keys_of is ∙ (keys-push mid.entries q 0 ∙ ap (λ (xs : List (List ℕ)). xs ++ q ∷ []) c.raise_parent.ensures.keys) in
    let values = ap values_of is ∙ values-push mid.entries q 0 in
    let same = ap (λ (xs : List (List ℕ)). length xs) c.raise_parent.ensures.keys in
    let long : length (values_of mid.entries) ≡ length (keys_of old.entries) = omega (arith, keys-long old.entries, keys-long mid.entries, values-long mid.entries, same) in
    subst (λ (rs : List (List ℕ)). DoCount rs (values_of c.insert-inserted.new.self.entries)) (sym keys) (subst (λ (ns : List ℕ). DoCount (keys_of old.entries ++ q ∷ []) ns) (sym values)
    (pushed-counts (keys_of old.entries) q (values_of old.entries) (values_of mid.entries) c.requires.counted c.requires.new c.requires.under long
    (λ i lt. c.raise_parent.ensures.counts i (omega (arith, lt, keys-long old.entries)))))
