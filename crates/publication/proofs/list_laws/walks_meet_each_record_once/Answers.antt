use Rattle.publication.specs.List.{link}
use Rattle.publication.proofs.ListLaws.{route_ends, whole_route, behind_rest, met_all, link_of_record}
use Rattle.publication.proofs.list_laws.walks_meet_each_record_once.Goals as goal

pub returns-clause-behind : goal.returns-clause-behind
returns-clause-behind g c = behind_rest

pub returns-clause-met : goal.returns-clause-met
returns-clause-met g c = met_all

pub returns-clause-links : goal.returns-clause-links
returns-clause-links g c s front rest q p = link_of_record (link s) (link s 0) front rest q p.chain

pub returns-clause-route : goal.returns-clause-route
returns-clause-route g c s list k r few is has = route_ends s r few list is k has

pub returns-clause-whole : goal.returns-clause-whole
returns-clause-whole g c = whole_route
