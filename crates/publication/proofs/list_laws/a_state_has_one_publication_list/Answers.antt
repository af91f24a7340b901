use Rattle.publication.proofs.ListLaws.{one_chain, ruled_list, one_list, opens_with_room, run_keeps}
use Rattle.publication.proofs.list_laws.a_state_has_one_publication_list.Goals as goal

pub returns-clause-some : goal.returns-clause-some
returns-clause-some g c s r = (r.list.list, ruled_list s r.list)

pub returns-clause-one : goal.returns-clause-one
returns-clause-one g c = one_list

pub returns-clause-chains : goal.returns-clause-chains
returns-clause-chains g c = one_chain

pub returns-clause-opens : goal.returns-clause-opens
returns-clause-opens g c = opens_with_room

pub returns-clause-stays : goal.returns-clause-stays
returns-clause-stays g c s t r leads = run_keeps r leads
