use Rattle.std.proofs.Common.{◌<◌, length, sym, ◌∙◌, ap, arith}
use Rattle.std.specs.Map.{keys_of}
use Rattle.session_locks.specs.inner.ChildCounts.{children_of}
use Rattle.session_locks.proofs.ChildCounts.{counted-tells, none-under}
use Rattle.session_locks.proofs.LockLists.{entry-within, entry-key, entry-value, keys-long, key-is, not-found}
use Rattle.session_locks.proofs.locks.counts_child.Goals as goal

pub returns-in-Some : goal.returns-in-Some
returns-in-Some c =
    let es = c.args.indexed.now.entries in
    let i = c.in-Some.field-0-0 in
    let k = c.in-Some.field-0-1.now in
    let n = c.in-Some.count.now in
    let entry = c.in-Some.ensures.entry in
    let r = c.args.resource in
    let same = key-is _ c.same_path_is_equality.ensures.code r es k c.in-Some.ensures.key in
    let lt : i < length (keys_of es) = omega (arith, entry-within es i k n entry, keys-long es) in
    counted-tells n r (keys_of es) (sym (entry-value es i k n entry) ∙ (c.requires.counts i lt ∙ ap (λ x. children_of x (keys_of es)) (entry-key es i k n entry ∙ sym same)))

pub returns-in-None : goal.returns-in-None
returns-in-None c =
    let es = c.args.indexed.now.entries in
    sym (none-under c.args.resource (keys_of es) c.requires.under (not-found _ c.same_path_is_equality.ensures.code c.args.resource es c.in-None.ensures.value))
