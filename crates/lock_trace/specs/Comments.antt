-- Comments: lines that begin with `#`, and a text without them.
use Rattle.std.specs.Prelude.{◌==◌, ◌||◌, not, ℕ, Bool, true, if◌then◌else◌, List, [], ◌∷◌, Option, option_map}
use Rattle.lock_trace.specs.declared.spot.Spot.{Spot}
use Rattle.lock_trace.specs.declared.spot.Spot.TheVariants as spot

-- the byte ends a line: LF is 10, CR is 13
abbrev pub is_line_end : ℕ → Bool
is_line_end byte = (byte == 10) || (byte == 13)

-- the byte `#`
abbrev pub is_hash : ℕ → Bool
is_hash byte = byte == 35

-- the byte at this spot stays in the text: all but `#` at the beginning of a line and what follows it in the line
abbrev pub is_shown : Spot → ℕ → Bool
is_shown spot.Beginning byte = not (is_hash byte)
is_shown spot.Inside byte = true
is_shown spot.Comment byte = is_line_end byte

-- the spot inside a line, behind the byte at this spot
abbrev pub spot_inside : Spot → ℕ → Spot
spot_inside spot.Beginning byte = if is_hash byte then spot.Comment else spot.Inside
spot_inside spot.Inside byte = spot.Inside
spot_inside spot.Comment byte = spot.Comment

-- the spot behind the byte at this spot
abbrev pub spot_behind : Spot → ℕ → Spot
spot_behind s byte = if is_line_end byte then spot.Beginning else spot_inside s byte

-- the bytes without comments, of a text that goes on at this spot
unfoldable pub without_comments_from : Spot → List ℕ → List ℕ
without_comments_from s [] = []
without_comments_from s (byte ∷ rest) =
    if is_shown s byte then byte ∷ without_comments_from (spot_behind s byte) rest else without_comments_from (spot_behind s byte) rest

-- the spot behind these bytes
unfoldable pub spot_after : Spot → List ℕ → Spot
spot_after s [] = s
spot_after s (byte ∷ rest) = spot_after (spot_behind s byte) rest

-- the text without comments: what follows a `#` at the beginning of a line, up to the end of the line, is left out
abbrev pub without_comments : List ℕ → List ℕ
without_comments text = without_comments_from spot.Beginning text

-- the text that is read: without comments if they are skipped
abbrev pub text_read : Bool → Option (List ℕ) → Option (List ℕ)
text_read skips text = if skips then option_map without_comments text else text
