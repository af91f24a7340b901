use Rattle.lock_laws.proofs.OnCycles.{request-through, request-victims, doomed-closes, each-doomed}
use Rattle.lock_laws.proofs.cycles.victims_are_on_the_cycles_of_the_request.Goals as goal

pub returns-clause-through : goal.returns-clause-through
returns-clause-through c = λ es s call r k b. request-through es s call r k b

pub returns-clause-victims : goal.returns-clause-victims
returns-clause-victims c = λ es s call r k vs last b. request-victims es s call r k b vs last

pub returns-clause-doomed : goal.returns-clause-doomed
returns-clause-doomed c = doomed-closes

pub returns-clause-each_cycle : goal.returns-clause-each_cycle
returns-clause-each_cycle c = each-doomed
