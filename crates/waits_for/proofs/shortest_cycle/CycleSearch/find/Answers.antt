use Rattle.std.proofs.Common.{ℕ, List, get_or, refl, sym, ap, ◌∙◌, subst}
use Rattle.waits_for.specs.Pairs.{pairs_of}
use Rattle.waits_for.specs.Cycles.{IsCycle}
use Rattle.waits_for.proofs.CyclesFound.{cycle-reaches}
use Rattle.waits_for.proofs.shortest_cycle.CycleSearch.find.Goals as goal

pub returns-clause-found : goal.returns-clause-found
returns-clause-found c =
    let first = ap (λ (xs : List ℕ). get_or xs 0 0) c.deref.ensures.value ∙ c.search-found.ensures.first in
    let cycle = subst (λ (t : ℕ). IsCycle (pairs_of c.args.rows.now) t c.follow.new.cycle.items) first c.follow.ensures.cycle in
    (λ h. cycle-reaches (pairs_of c.args.rows.now) c.args.t c.follow.new.cycle.items cycle, λ r. refl)

pub returns-clause-shortest : goal.returns-clause-shortest
returns-clause-shortest c e other cycle =
    let first = ap (λ (xs : List ℕ). get_or xs 0 0) c.deref.ensures.value ∙ c.search-found.ensures.first in
    c.follow.ensures.shortest other (subst (λ (t : ℕ). IsCycle (pairs_of c.args.rows.now) t other) (sym first) cycle)
