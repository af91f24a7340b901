use Rattle.std.proofs.Common.{◌≡◌, ◌++◌, map, take}
use Rattle.library_books.specs.Claims.{numbers_of_claim}
use Rattle.library_sessions.proofs.dump.add_claims.Given as goal

-- the rows of those before this one are added
abbrev pub invariant-loop-claim : goal.invariant-loop-claim
invariant-loop-claim l = l.rows.items ≡ l.fn.rows.items ++ map numbers_of_claim (take l.claim-index l.claims)
