-- Which waiting requests stand ahead of one that begins to wait, by their lines.
use Rattle.std.specs.Prelude.{Bool, true, false, ◌&&◌, ◌||◌, not, if◌then◌else◌, ℕ, List, Option, Some, None}
use Rattle.lock_modes.specs.declared.Mode.{Mode}
use Rattle.lock_tree.specs.Paths.{same_path}
use Rattle.lock_rules.specs.declared.listing.Claim.{Claim as ListedClaim}
use Rattle.lock_rules.specs.declared.listing.ClaimKind.{ClaimKind}
use Rattle.lock_rules.specs.declared.listing.ClaimKind.TheVariants.{Held, Conversion, Fresh}

-- the line is a conversion
abbrev pub is_conversion : ClaimKind → Bool
is_conversion Held = false
is_conversion Conversion = true
is_conversion Fresh = false

-- the target of the waiting request of this line, if it is ahead of a request for the resource that begins to wait: a fresh
-- request waits behind all, a conversion behind the conversions
abbrev pub ahead_by : Bool → List ℕ → Option ListedClaim → Option Mode
ahead_by converts r None = None
ahead_by converts r (Some l) = if same_path l.resource r && (not converts || is_conversion l.kind) then Some l.mode else None
