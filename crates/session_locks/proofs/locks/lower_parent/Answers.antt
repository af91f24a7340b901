use Rattle.std.proofs.Common.{ℕ, ◌+◌, ◌-◌, cond, get_or, [], refl, sym, ◌∙◌, ap, arith}
use Rattle.std.specs.Map.{keys_of, values_of}
use Rattle.std.proofs.lemmas.Bool.Decides.{Decides-eqb}
use Rattle.std.proofs.lemmas.Option.{get_or_from_slice_get}
use Rattle.indexmap.specs.IndexMap.{set_value_at}
use Rattle.session_locks.specs.LockLists.{is_child}
use Rattle.session_locks.proofs.ChildCounts.{child-there, lowered-at}
use Rattle.session_locks.proofs.LockLists.{keys-written, values-written, keys-long, values-long}
use Rattle.session_locks.proofs.locks.lower_parent.Goals as goal

pub returns-in-Some-clause-keys : goal.returns-in-Some-clause-keys
returns-in-Some-clause-keys c = keys-written c.args.indexed.now.entries c.in-Some.parent _

pub returns-in-Some-clause-counts : goal.returns-in-Some-clause-counts
returns-in-Some-clause-counts c = λ d i lt.
    let es = c.args.indexed.now.entries in
    let p = c.in-Some.parent in
    let x = c.index_mut-count.result.now in
    let within = c.in-Some.ensures.within in
    let at = get_or_from_slice_get (values_of es) p x 0 c.index_mut-count.ensures.value in
    let k = d.counts p (omega (arith, within, keys-long es)) in
    let some = child-there (get_or (keys_of es) p []) c.args.resource (keys_of es) c.requires.there (c.in-Some.ensures.only p within ∙ (Decides-eqb p p).1 refl) in
    ap (λ (v : ℕ). get_or (values_of (set_value_at es p v)) i 0 + cond (is_child (get_or (keys_of es) i []) c.args.resource) 1 0) c.saturating_sub.ensures
    ∙ ((λ j. get_or (values-written es p (x - 1) j) i 0 + cond (c.in-Some.ensures.only i lt j) 1 0)
    ∙ lowered-at (values_of es) p i x (omega (arith, within, values-long es)) (sym (get_or_from_slice_get (values_of es) p x x c.index_mut-count.ensures.value)) (omega (arith, at, k, some)))
