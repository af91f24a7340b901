use Rattle.std.proofs.Common.{◌≡◌, false, Option, Some, None, is_some, refl}
use Rattle.lock_rules.specs.State.{Claim, request_of}
use Rattle.lock_rules.specs.Legal.{state_of}
use Rattle.lock_laws.proofs.AbortGrants.{as-many, same-sessions}
use Rattle.lock_laws.proofs.listing_laws.aborts_grant_what_the_listing_says.Goals as goal

-- who doesn't wait has no request
no-request : (o : Option Claim) → is_some o ≡ false → o ≡ None
no-request None h = refl
no-request (Some q) h = absurd (cc)

pub returns-clause-many : goal.returns-clause-many
returns-clause-many c n history s h = as-many history s h.opened (no-request (request_of s (state_of history).table.requests) h.idle) n h.within

pub returns-clause-same : goal.returns-clause-same
returns-clause-same c n history s h = same-sessions history s h.opened (no-request (request_of s (state_of history).table.requests) h.idle) n h.within
