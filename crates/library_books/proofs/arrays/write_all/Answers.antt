use Rattle.std.proofs.Common.{rules, ◌≡◌, suc, ◌+◌, get_or, set, ap, ◌∙◌, arith}
use Rattle.library_books.specs.Calls.{written}
use Rattle.library_books.proofs.Writing.{next_written}
use Rattle.library_books.proofs.arrays.write_all.Goals as goal

pub loop-k-preserved : goal.loop-k-preserved
loop-k-preserved g c =
    let inv = c.loop-k.invariant in
    let k = c.loop-k.k in
    let items = c.args.items.now in
    let places = c.args.places.now in
    let numbers = g.N.NumbersOf.numbers in
    let d = c.index-items-k.result in
    let value : c.of.result ≡ numbers (get_or items k d) = search rules in
    let next = next_written numbers k items places d (omega (arith, c.loop-k-test.true, inv.1)) (omega (arith, c.loop-k-test.true, inv.2)) in
    let suc_is : suc k ≡ k + 1 = omega arith in
    (ap (λ ys. set ys k c.of.result) inv.0 ∙ (ap (λ v. set (written numbers k items places) k v) value ∙ (next ∙ ap (λ j. written numbers j items places) suc_is)), inv.1, inv.2)
