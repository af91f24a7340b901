-- The turns of a shell behind what it keeps, without its first line.
use Rattle.std.specs.Prelude.{◌≡◌, ℕ, List, [], ◌∷◌, length, Option}
use Rattle.std.specs.Io.KnownBytes.{Appends}
use Rattle.replay_commands.specs.Written.{AppendsPart}
use Rattle.lock_shell.specs.declared.line.Asked.{Asked}
use Rattle.lock_shell.specs.Turns.{AreTurns, IsTurn, Kept, Turn, answers_of}

-- with sessions 1 to n, the text answers some line, and leaves `back`
abbrev pub IsTurned : ℕ → Kept → Kept → List ℕ → Type 0
IsTurned n front back text = (a : Asked) × IsTurn n front (record { asks = a; back = back; text = text })

-- one line was answered: the output grew by the answer, and by nothing else
abbrev pub HasTurned : ℕ → Kept → Kept → Option (List ℕ) → Option (List ℕ) → Type 0
HasTurned n front back old new = (text : List ℕ) × (IsTurned n front back text × Appends old new text)

-- some line was answered: the output grew by the first bytes of the answer, and by nothing else
abbrev pub HasTurnedPart : ℕ → Kept → Option (List ℕ) → Option (List ℕ) → Type 0
HasTurnedPart n front old new = (back : Kept) × (text : List ℕ) × (IsTurned n front back text × AppendsPart old new text)

-- what the shell keeps behind these turns, of which the first is behind `front`
abbrev pub back_of : Kept → List Turn → Kept
back_of front [] = front
back_of front (t ∷ ts) = back_of t.back ts

-- so many turns follow `front` and lead to `back`; the output grew by their answers, and by nothing else
pub record HasAnswered (n count : ℕ) (front back : Kept) (old new : Option (List ℕ)) : Type 0 where
  pub turns : List Turn
  pub counted : length turns ≡ count
  pub answered : AreTurns n front turns
  pub leads : back_of front turns ≡ back
  pub written : Appends old new (answers_of turns)

-- some turns follow `front`; the output grew by the first bytes of their answers, and by nothing else
pub record HasAnsweredPart (n : ℕ) (front : Kept) (old new : Option (List ℕ)) : Type 0 where
  pub turns : List Turn
  pub answered : AreTurns n front turns
  pub written : AppendsPart old new (answers_of turns)
