use Rattle.std.proofs.Common.{◌≡◌, ◌<◌, length, get_or, [], refl, sym, ◌∙◌, ap, arith}
use Rattle.std.specs.Map.{keys_of}
use Rattle.lock_tree.specs.Paths.{parent_of}
use Rattle.session_locks.specs.Resources.{has_path}
use Rattle.session_locks.proofs.ChildCounts.{child-only, none-parent}
use Rattle.session_locks.proofs.LockLists.{entry-within, entry-key, keys-long, key-is, not-found}
use Rattle.session_locks.proofs.locks.parent_place.Goals as goal

pub returns-in-Some-get_full-clause-only : goal.returns-in-Some-get_full-clause-only
returns-in-Some-get_full-clause-only c = λ i le.
    let es = c.args.indexed.now.entries in
    let p = c.in-Some-get_full.place in
    let k = c.in-Some-get_full.field-0-1.now in
    let n = c.in-Some-get_full.field-0-2.now in
    let entry = c.in-Some-get_full.ensures.entry in
    let lt : p < length (keys_of es) = omega (arith, entry-within es p k n entry, keys-long es) in
    let at : get_or (keys_of es) p [] ≡ parent_of c.args.resource = entry-key es p k n entry ∙ (sym (key-is _ c.same_path_is_equality.ensures.code c.in-Some.parent es k c.in-Some-get_full.ensures.key) ∙ c.in-Some.ensures.value) in
    child-only (keys_of es) c.args.resource p c.requires lt at (c.in-Some.ensures.some.0 refl) i (omega (arith, le, keys-long es))

pub returns-in-None-clause-none : goal.returns-in-None-clause-none
returns-in-None-clause-none c = λ i le.
    let es = c.args.indexed.now.entries in
    none-parent (keys_of es) c.args.resource i (ap (λ x. has_path x (keys_of es)) (sym c.in-Some.ensures.value) ∙ not-found _ c.same_path_is_equality.ensures.code c.in-Some.parent es c.in-None.ensures.value) (omega (arith, le, keys-long es))
