-- The lines of a listing: locks and waiting requests.
use Rattle.std.specs.Prelude.{ℕ, Bool, true, false, List, Option, Some, None, codes}
use Rattle.lock_tree.specs.Paths.{same_path}
use Rattle.lock_rules.specs.declared.listing.ClaimKind.{ClaimKind}
use Rattle.lock_rules.specs.declared.listing.ClaimKind.TheVariants.{Held, Conversion, Fresh}

-- the word of a claim in rows
abbrev pub word_of_kind : ClaimKind → List ℕ
word_of_kind Held = codes "held"
word_of_kind Conversion = codes "conversion"
word_of_kind Fresh = codes "fresh"

-- a claim of this kind is a lock
abbrev pub is_lock_kind : ClaimKind → Bool
is_lock_kind Held = true
is_lock_kind Conversion = false
is_lock_kind Fresh = false

-- a claim of this kind is a waiting request
abbrev pub is_request_kind : ClaimKind → Bool
is_request_kind Held = false
is_request_kind Conversion = true
is_request_kind Fresh = true

-- the resource is that of the line before, if there was one
abbrev pub is_last : Option (List ℕ) → List ℕ → Bool
is_last None r = false
is_last (Some last) r = same_path r last
