-- The numbers that options give, and the command that was found.
use Rattle.std.proofs.Common.{rules, ap, ap₂, sym, ◌≡◌, ◌∙◌, ◌<◌, ◌^◌, ℕ, List, Option, Some, None}
use Rattle.std.specs.Prelude.{Result, Ok, option_map, decimal, IfSome}
use Rattle.clap.specs.Walk.{Row, Text, first_of}
use Rattle.lock_tree.specs.Numerals.{reading_of_numeral}
use Rattle.lock_tree.specs.declared.numeral.NumeralFault.{NumeralFault}
use Rattle.lock_tree.proofs.Numerals.{reading_iff}
use Rattle.command_line.specs.CommandLine.{Gives}

-- an option whose text reads as a number above 0 gives this number
pub numeral_given : (option text : Text) (greatest n : ℕ) (rows : List Row) → greatest < 2 ^ 64 → first_of option rows ≡ Some text
    → reading_of_numeral greatest text ≡ Ok n → 0 < n → Gives option greatest rows n
numeral_given option text greatest n rows lt is read some =
    let (few, same) = (reading_iff text greatest n lt).0 read in
    record { given = is ∙ ap Some same; some = some; few = few }

-- an option whose text reads as no number above 0 gives none
pub numeral_not_given : (option text : Text) (greatest : ℕ) (rows : List Row) → greatest < 2 ^ 64 → first_of option rows ≡ Some text
    → ((m : ℕ) → reading_of_numeral greatest text ≡ Ok m → ¬ (0 < m)) → (n : ℕ) → ¬ Gives option greatest rows n
numeral_not_given option text greatest rows lt is none n gives =
    let same : Some text ≡ Some (decimal n) = sym is ∙ gives.given in
    let text_is : text ≡ decimal n = cc in
    none n ((reading_iff text greatest n lt).1 (gives.few, text_is)) gives.some

-- an option without a text gives no number
pub nothing_given : (option : Text) (greatest : ℕ) (rows : List Row) → first_of option rows ≡ None → (n : ℕ) → ¬ Gives option greatest rows n
nothing_given option greatest rows is n gives = let bad : Some (decimal n) ≡ None = sym gives.given ∙ is in cc

-- a text that was found is the option's
pub text_found : {B : Type 0} (now : B → Text) (r : Option B) (s : B) (found : Option Text) → option_map now r ≡ found → r ≡ Some s → found ≡ Some (now s)
text_found now r s found is some = sym is ∙ ap (option_map now) some

-- an option has no text if none was found
pub no_text_found : {B : Type 0} (now : B → Text) (r : Option B) (found : Option Text) → option_map now r ≡ found → r ≡ None → found ≡ None
no_text_found now r found is none = sym is ∙ ap (option_map now) none

-- a reading is unchanged by equal bounds and equal texts
pub reading_is : {r : Result ℕ NumeralFault} {least greatest : ℕ} {bytes text : Text} → r ≡ reading_of_numeral least bytes → least ≡ greatest → bytes ≡ text
    → reading_of_numeral greatest text ≡ r
reading_is is numbers texts = sym (is ∙ ap₂ (λ g t. reading_of_numeral g t) numbers texts)

-- a command that was found has its name and its options
pub command-found : {R O : Type 0} (f : R → Text) (g : R → List Row) (n : O → Text) (w : O → List Row) (r : Option R) (o : Option O)
    → option_map f r ≡ option_map n o → option_map g r ≡ option_map (λ (p : Text × List Row). p.1) (option_map {U = Text × List Row} (λ b. (n b, w b)) o)
    → IfSome r (λ x. option_map {U = Text × List Row} (λ b. (n b, w b)) o ≡ Some (f x, g x))
command-found f g n w None o names rows = search rules
command-found f g n w (Some x) None names rows = cc
command-found f g n w (Some x) (Some b) names rows =
    let name : n b ≡ f x = cc in let row : w b ≡ g x = cc in
    ap₂ (λ (a : Text) (r : List Row). Some (a, r)) name row
