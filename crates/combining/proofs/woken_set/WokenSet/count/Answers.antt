use Rattle.std.proofs.Common.{rules, ◌≡◌, ap, arith}
use Rattle.combining.specs.Woken.{WokenView}
use Rattle.combining.proofs.EndedList.{marked-few}
use Rattle.combining.proofs.woken_set.WokenSet.count.Goals as goal

pub returns-clause-few : goal.returns-clause-few
returns-clause-few c =
    let count = c.self.invariant.count in
    let few = marked-few c.self.inside.words.items c.self.inside.room in
    let same : c.from.result ≡ c.self.inside.count = search rules in
    omega (arith, same, count, few, ap (λ (v : WokenView). v.room) c.self.view_is)
