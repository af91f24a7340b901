-- Where in a row the next byte is, beside the states of the `csv` crate's machine.
use Rattle.std.specs.Prelude.{◌≡◌}
use Rattle.csv.specs.declared.parser.State.{State}
use Rattle.csv.specs.declared.parser.State.TheVariants as st
use Rattle.lock_trace.specs.declared.hints.lexing.Spot.{Spot}
use Rattle.lock_trace.specs.declared.hints.lexing.Spot.TheVariants as spot

-- The spot is that of the state. Rows have neither escapes nor comments.
abbrev pub IsSpotOf : State → Spot → Type 0
IsSpotOf st.StartRecord s = s ≡ spot.RowStart
IsSpotOf st.StartField s = s ≡ spot.FieldStart
IsSpotOf st.InField s = s ≡ spot.Plain
IsSpotOf st.InQuoted s = s ≡ spot.Quoted
IsSpotOf st.AfterQuote s = s ≡ spot.QuoteInQuoted
IsSpotOf st.InEscape s = ⊥
IsSpotOf st.InComment s = ⊥
IsSpotOf st.AfterCr s = s ≡ spot.RowStart
