use Rattle.std.proofs.Common.{◌≡◌, ◌++◌, length, drop, take, ◌∙◌}
use Rattle.std.proofs.lemmas.List.{take_at}
use Rattle.waits_for.proofs.circle_search.CircleSearch.find.Goals as goal

pub returns-clause-circle : goal.returns-clause-circle
returns-clause-circle c =
    let i = c.self.inside in
    let met = c.search_depth_first.new.circle in
    let new = c.keep_on_circle.new.circle in
    let was = take i.circle.len (met ++ drop (length met) i.circle.items) in
    let whole : take i.circle.len (new ++ drop (length new) was) ≡ new = take_at new (drop (length new) was) i.circle.len (c.keep_on_circle.auto.circle ∙ c.deref_mut-6.ensures.len) in
    rw whole c.keep_on_circle.ensures.circle
