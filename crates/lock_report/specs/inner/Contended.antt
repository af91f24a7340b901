-- Which resources are waited for.
use Rattle.std.specs.Prelude.{ℕ, Bool, List}
use Rattle.std.specs.List.{list_any}
use Rattle.lock_tree.specs.Paths.{same_path}
use Rattle.lock_rules.specs.declared.listing.Claim.{Claim}

-- one of the requests is for the resource
abbrev pub is_wanted : List Claim → List ℕ → Bool
is_wanted requests r = list_any (λ q. same_path r q.resource) requests
