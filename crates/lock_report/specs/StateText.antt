-- The state of a lock table as text for people. The format is this project's own choice.
use Rattle.std.specs.Prelude.{ℕ, Bool, false, if◌then◌else◌, ◌==◌, List, [], ◌∷◌, ◌++◌, Option, Some, None, filter, codes, decimal}
use Rattle.std.specs.List.{flat_map}
use Rattle.lock_modes.specs.Codes.{name_of}
use Rattle.lock_tree.specs.Paths.{same_path}
use Rattle.lock_tree.specs.Text.{text_of}
use Rattle.lock_rules.specs.declared.listing.Claim.{Claim}
use Rattle.lock_rules.specs.declared.listing.ClaimKind.{ClaimKind}
use Rattle.lock_rules.specs.declared.listing.ClaimKind.TheVariants.{Held, Conversion, Fresh}
use Rattle.lock_report.specs.Claims.{is_last}
use Rattle.lock_report.specs.declared.snapshot.OpenTransaction.{OpenTransaction}
use Rattle.lock_report.specs.declared.snapshot.Root.{Root}
use Rattle.lock_report.specs.declared.snapshot.WaitLine.{WaitLine}
use Rattle.lock_report.specs.JamText.{session_heading, lines_of_jam, line_of_wait}

-- the text of a section, or the line `none` if the section has nothing to show
abbrev pub text_or_none : {X : Type 0} → List X → List ℕ → List ℕ
text_or_none [] text = codes "none\n"
text_or_none (x ∷ xs) text = text

-- what a session does with a resource, below the session
abbrev pub session_verb : ClaimKind → List ℕ
session_verb Held = codes "holds"
session_verb Conversion = codes "converts"
session_verb Fresh = codes "waits for"

-- what a session does with a resource, below the resource
abbrev pub resource_verb : ClaimKind → List ℕ
resource_verb Held = codes "holds it"
resource_verb Conversion = codes "waits to convert it"
resource_verb Fresh = codes "waits for it"

-- the word before the mode
abbrev pub mode_word : ClaimKind → List ℕ
mode_word Held = codes "in"
mode_word Conversion = codes "to"
mode_word Fresh = codes "in"

-- the end of a claim's line
abbrev pub mode_at_end : Claim → List ℕ
mode_at_end c = codes " " ++ mode_word c.kind ++ codes " " ++ name_of c.mode ++ codes "\n"

-- the line of a claim below its session
abbrev pub line_of_session : Claim → List ℕ
line_of_session c = codes "  " ++ session_verb c.kind ++ codes " " ++ text_of c.resource ++ mode_at_end c

-- the line of a claim below its resource
abbrev pub line_of_resource : Claim → List ℕ
line_of_resource c = codes "  session " ++ decimal c.session ++ codes " " ++ resource_verb c.kind ++ mode_at_end c

-- the claims of the session, in the order of the listing
abbrev pub claims_of : ℕ → List Claim → List Claim
claims_of s claims = filter (λ c. c.session == s) claims

-- the lines of a session: its transaction, and then its claims
abbrev pub session_lines : List Claim → OpenTransaction → List ℕ
session_lines claims o = session_heading o ++ flat_map line_of_session (claims_of o.session claims)

-- the first line of a resource, unless it was shown last
abbrev pub resource_heading : Option (List ℕ) → List ℕ → List ℕ
resource_heading last r = if is_last last r then [] else text_of r ++ codes "\n"

-- the lines of claims in the order of a listing, where `last` was shown before them: a heading for each resource
abbrev pub resource_lines : Option (List ℕ) → List Claim → List ℕ
resource_lines last [] = []
resource_lines last (c ∷ cs) = resource_heading last c.resource ++ line_of_resource c ++ resource_lines (Some c.resource) cs

-- the section of the open transactions, each with its claims
abbrev pub transactions_section : List OpenTransaction → List Claim → List ℕ
transactions_section opens claims = text_or_none opens (flat_map (session_lines claims) opens)

-- the section of the resources, each with its claims
abbrev pub resources_section : List Claim → List ℕ
resources_section claims = text_or_none claims (resource_lines None claims)

-- the section of the waits
abbrev pub waits_section : List WaitLine → List ℕ
waits_section waits = text_or_none waits (flat_map line_of_wait waits)

-- the sections of the jam, of the open transactions and of the claims in the order of a listing, and the heading of the waits
abbrev pub sections_of : ℕ → List Root → List OpenTransaction → List Claim → List ℕ
sections_of waiting roots opens claims =
    codes "\njam\n" ++ lines_of_jam waiting roots opens
    ++ codes "\ntransactions\n" ++ transactions_section opens claims
    ++ codes "\nresources\n" ++ resources_section claims
    ++ codes "\nwaits\n"

-- the first line: the place of the history that the state is in front of, None for a dump, of which no place is known
abbrev pub state_heading : Option ℕ → List ℕ
state_heading None = codes "state of a dump\n"
state_heading (Some place) = codes "state in front of place " ++ decimal place ++ codes "\n"

-- the state in front of a place, or of a dump: the jam, the open transactions, the claims in the order of a listing, and the waits
abbrev pub text_of_state : Option ℕ → ℕ → List Root → List OpenTransaction → List Claim → List WaitLine → List ℕ
text_of_state place waiting roots opens claims waits =
    state_heading place ++ sections_of waiting roots opens claims ++ waits_section waits
