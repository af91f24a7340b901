use Rattle.std.proofs.Common.{◌≡◌, ◌+◌, ◌<◌, List, ℕ, [], cond, length, get_or, sym, ◌∙◌, ap, subst, arith}
use Rattle.std.specs.Map.{keys_of, values_of}
use Rattle.std.specs.List.{swap_remove}
use Rattle.session_locks.specs.LockLists.{is_child, has_child}
use Rattle.session_locks.specs.inner.ChildCounts.{DoCount}
use Rattle.session_locks.proofs.ChildCounts.{left-counts}
use Rattle.session_locks.proofs.LockLists.{keys-long, values-long, swap-any, swapped}
use Rattle.session_locks.proofs.locks.remove_indexed.Goals as goal

pub returns-clause-keys : goal.returns-clause-keys
returns-clause-keys c =
    let old = c.args.indexed.now.entries in
    let mid = c.lower_parent.new.indexed.entries in
    let p = c.args.place in
    let same = ap (λ (xs : List (List ℕ)). length xs) c.lower_parent.ensures.keys in
    let lt : p < length mid = omega (arith, c.requires.within, same, keys-long old, keys-long mid) in
    (swapped c.swap_remove_index-removed.result mid c.swap_remove_index-removed.new.self.entries p lt c.swap_remove_index-removed.ensures.entry c.swap_remove_index-removed.ensures.entries).keys
    ∙ ap (λ (xs : List (List ℕ)). swap_remove xs p []) c.lower_parent.ensures.keys

pub returns-clause-counted : goal.returns-clause-counted
returns-clause-counted c = λ st.
    let old = c.args.indexed.now.entries in
    let mid = c.lower_parent.new.indexed.entries in
    let new = c.swap_remove_index-removed.new.self.entries in
    let p = c.args.place in
    let rs = keys_of old in
    let same = ap (λ (xs : List (List ℕ)). length xs) c.lower_parent.ensures.keys in
    let lt : p < length mid = omega (arith, c.requires.within, same, keys-long old, keys-long mid) in
    let within : p < length rs = omega (arith, c.requires.within, keys-long old) in
    let s = swapped c.swap_remove_index-removed.result mid new p lt c.swap_remove_index-removed.ensures.entry c.swap_remove_index-removed.ensures.entries in
    let gone = get_or rs p [] in
    let keys : keys_of new ≡ swap_remove rs p gone = s.keys ∙ (ap (λ (xs : List (List ℕ)). swap_remove xs p []) c.lower_parent.ensures.keys ∙ swap-any rs p [] gone (omega (arith, within))) in
    let down : (i : ℕ) → i < length rs → get_or (values_of mid) i 0 + cond (is_child (get_or rs i []) gone) 1 0 ≡ get_or (values_of old) i 0
    = λ i l. ap {B = ℕ} (λ (x : List ℕ). get_or (values_of mid) i 0 + cond (is_child (get_or rs i []) x) 1 0) c.requires.at ∙ c.lower_parent.ensures.counts st i (omega (arith, l, keys-long old)) in
    let d = left-counts rs (values_of old) (values_of mid) p within c.requires.apart st (ap (λ (x : List ℕ). has_child x rs) c.requires.at ∙ c.requires.childless)
    (omega (arith, same, keys-long old, keys-long mid, values-long mid)) down 0 in
    subst (λ (xs : List (List ℕ)). DoCount xs (values_of new)) (sym keys) (subst (λ (ns : List ℕ). DoCount (swap_remove rs p gone) ns) (sym s.values) d)
