-- The records of a text, as csv reads them by its default rules.
use Rattle.std.specs.Prelude.{ℕ, List, [], ◌∷◌, ◌++◌, if◌then◌else◌}
use Rattle.csv.specs.Machine.{step, is_end, ends_at_end, fields_after, field_after}
use Rattle.csv.specs.Reading.{default_config, strip_bom}
use Rattle.csv.specs.declared.parser.State.{State}
use Rattle.csv.specs.declared.parser.State.TheVariants as st

-- The records of the bytes from a parser state on, after these fields and these bytes of the next field.
unfoldable pub records_on : State → List (List ℕ) → List ℕ → List ℕ → List (List (List ℕ))
records_on s fields field [] = if ends_at_end s then (fields ++ (field ∷ [])) ∷ [] else []
records_on s fields field (c ∷ rest) =
    if is_end (step default_config s c).1 then fields_after (step default_config s c).1 fields field ∷ records_on (step default_config s c).0 [] [] rest
    else records_on (step default_config s c).0 (fields_after (step default_config s c).1 fields field) (field_after (step default_config s c).1 c field) rest

-- The records of a text, each a list of fields, after a byte order mark.
abbrev pub records_of : List ℕ → List (List (List ℕ))
records_of bytes = records_on st.StartRecord [] [] (strip_bom bytes)
