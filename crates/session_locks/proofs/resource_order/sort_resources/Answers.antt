use Rattle.std.proofs.Common.{ℕ, ◌+◌, List, get_or, sym, ◌∙◌, ap, subst, arith}
use Rattle.std.proofs.lemmas.List.Sorted.{list_any-IsPermutation}
use Rattle.std.proofs.lemmas.Map.Keys.{IsDistinct-IsPermutation}
use Rattle.std.specs.List.{All}
use Rattle.std.specs.Ordering.{is_lt}
use Rattle.lock_tree.specs.Paths.{IsResource, same_path}
use Rattle.lock_rules.proofs.ResourceOrder.{rise-sorted}
use Rattle.session_locks.proofs.ResourceLists.{same_path-equivalence}
use Rattle.session_locks.proofs.InOrder.{is-in_order}
use Rattle.session_locks.proofs.resource_order.sort_resources.Goals as goal

pub returns : goal.returns
returns c =
    let xs = c.args.list.now.items in
    let ys = c.sort_unstable.new.self.items in
    let moved = c.sort_unstable.ensures.permutation in
    let all : All IsResource ys = subst (All IsResource) c.deref.ensures.value c.are_resources.ensures in
    is-in_order ys xs
    (rise-sorted ys
    (λ k d lt. ap is_lt (sym (c.order_is_by_numbers.ensures (get_or ys (k + 1) d) (get_or ys k d) (all (k + 1) d lt) (all k d (omega (arith, lt))))) ∙ c.sort_unstable.ensures.sorted k d (omega arith) lt)
    (IsDistinct-IsPermutation same_path same_path-equivalence.symm xs ys moved c.requires))
    (λ r. sym (list_any-IsPermutation (λ (q : List ℕ). same_path q r) xs ys moved))
