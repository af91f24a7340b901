use Rattle.std.proofs.Common.{◌+◌, Bool, cond, get_or, [], sym, ◌∙◌, ap, arith}
use Rattle.std.specs.Map.{keys_of, values_of}
use Rattle.std.proofs.lemmas.Option.{get_or_from_slice_get}
use Rattle.session_locks.proofs.ChildCounts.{raised-at, few-children}
use Rattle.session_locks.proofs.LockLists.{keys-written, values-written, keys-long, values-long}
use Rattle.session_locks.proofs.locks.raise_parent.Goals as goal

pub overflow_add-index_mut : goal.overflow_add-index_mut
overflow_add-index_mut c =
    let es = c.args.indexed.now.entries in
    let p = c.in-Some.parent in
    let x = c.index_mut.result.now in
    let within = c.in-Some.ensures.within in
    let at = get_or_from_slice_get (values_of es) p x 0 c.index_mut.ensures.value in
    let k = c.requires.counted.counts p (omega (arith, within, keys-long es)) in
    let few = few-children (get_or (keys_of es) p []) (keys_of es) in
    omega (arith, at, k, few, keys-long es, c.requires.few)

pub returns-in-Some-clause-keys : goal.returns-in-Some-clause-keys
returns-in-Some-clause-keys c = keys-written c.args.indexed.now.entries c.in-Some.parent _

pub returns-in-Some-clause-counts : goal.returns-in-Some-clause-counts
returns-in-Some-clause-counts c = λ i lt.
    let es = c.args.indexed.now.entries in
    let p = c.in-Some.parent in
    let x = c.index_mut.result.now in
    let within = c.in-Some.ensures.within in
    ap (λ ns. get_or ns i 0) (values-written es p (x + 1))
    ∙ (raised-at (values_of es) p i x (omega (arith, within, values-long es)) (sym (get_or_from_slice_get (values_of es) p x x c.index_mut.ensures.value))
    ∙ ap (λ (b : Bool). get_or (values_of es) i 0 + cond b 1 0) (sym (c.in-Some.ensures.only i lt)))
