use Rattle.std.proofs.Common.{◌≡◌, sym}
use Rattle.lock_tree.specs.Paths.{is_ancestor}
use Rattle.lock_tree.proofs.Ancestors.{ancestor-front, ancestor_tests}
use Rattle.lock_tree.proofs.resource.Resource.is_ancestor_of.Goals as goal

pub returns : goal.returns
returns c =
    let own = c.args.self.now in
    let other = c.args.other.now in
    let front = ancestor-front own other c.numbers-numbers.ensures.resource.some in
    let is : c.is_proper_prefix.result ≡ is_ancestor own other = rw (c.is_proper_prefix.ensures, c.numbers-numbers.ensures.value, c.numbers-others.ensures.value) (sym front) in
    record { value = is; relation = rw is (ancestor_tests own other) }
