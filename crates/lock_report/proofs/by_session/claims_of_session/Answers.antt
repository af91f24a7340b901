use Rattle.std.proofs.Common.{leb, ltb, rules}
use Rattle.std.proofs.lemmas.List.Sorted.{IsPartitionPoint-from_clause, IsPartitionedBy-leb, IsPartitionedBy-ltb}
use Rattle.lock_rules.specs.declared.listing.Claim.{Claim}
use Rattle.lock_report.specs.inner.BySession.{session_of}
use Rattle.lock_report.proofs.Sessions.{rest_is, rest_ascends, found_in_rest}
use Rattle.lock_report.proofs.by_session.claims_of_session.Goals as goal

pub returns : goal.returns
returns c =
    let s = c.args.session in
    let sorted = c.args.sorted.now in
    let first = c.partition_point-first.result in
    let is = rest_is first sorted in
    found_in_rest s first c.partition_point-count.result sorted _ is c.partition_point-first.ensures.bound c.partition_point-count.ensures.bound
    (IsPartitionPoint-from_clause (λ (x : Claim). ltb x.session s) _ _ c.partition_point-first.ensures.partitioned (IsPartitionedBy-ltb session_of sorted s c.requires) (λ a r q k. search rules))
    (IsPartitionPoint-from_clause (λ (x : Claim). leb x.session s) _ _ c.partition_point-count.ensures.partitioned (IsPartitionedBy-leb session_of _ s (rest_ascends first sorted _ is c.requires)) (λ a r q k. search rules))
