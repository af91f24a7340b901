-- The place that an option gives, and the form that `show` or `explain` is asked for: at most one of each, and when there is none.
use Rattle.std.proofs.Common.{arith, ap, refl, sym, ◌≡◌, ◌∙◌, ℕ, List, Option, Some, None}
use Rattle.std.specs.Prelude.{Ok, decimal}
use Rattle.std.proofs.lemmas.Fmt.{decimal_injective}
use Rattle.clap.specs.Walk.{Row, Text, first_of}
use Rattle.lock_tree.specs.Numerals.{reading_of_numeral}
use Rattle.lock_tree.proofs.Numerals.{reading_iff}
use Rattle.command_line.specs.declared.args.TheConstants.{MAX_PLACE}
use Rattle.command_line.specs.declared.args.Form.{Form}
use Rattle.command_line.specs.declared.args.Form.TheVariants as form
use Rattle.command_line.specs.CommandLine.{GivesPlace, WantsForm}

-- an option gives at most one place
pub place-one : (option : Text) (rows : List Row) (p q : Option ℕ) → GivesPlace option rows p → GivesPlace option rows q → p ≡ q
place-one option rows None None a b = refl
place-one option rows None (Some q) a b = let bad : Some (decimal q) ≡ None = sym b.given ∙ a in cc
place-one option rows (Some p) None a b = let bad : Some (decimal p) ≡ None = sym a.given ∙ b in cc
place-one option rows (Some p) (Some q) a b =
    let same : Some (decimal p) ≡ Some (decimal q) = sym a.given ∙ b.given in
    let text : decimal p ≡ decimal q = cc in
    ap (λ (n : ℕ). Some n) (decimal_injective p q (omega (arith, a.few)) (omega (arith, b.few)) text)

-- the options want one form
pub form-one : (rows : List Row) (a b : Form) → WantsForm rows a → WantsForm rows b → a ≡ b
form-one rows form.Lines form.Lines a b = refl
form-one rows form.Lines form.Rows a b = absurd (a.0 b.0)
form-one rows form.Lines form.Graph a b = absurd (a.1 b.1)
form-one rows form.Lines form.Waits a b = absurd (a.2 b.2)
form-one rows form.Rows form.Lines a b = absurd (b.0 a.0)
form-one rows form.Rows form.Rows a b = refl
form-one rows form.Rows form.Graph a b = absurd (b.0 a.0)
form-one rows form.Rows form.Waits a b = absurd (b.0 a.0)
form-one rows form.Graph form.Lines a b = absurd (b.1 a.1)
form-one rows form.Graph form.Rows a b = absurd (a.0 b.0)
form-one rows form.Graph form.Graph a b = refl
form-one rows form.Graph form.Waits a b = absurd (b.1 a.1)
form-one rows form.Waits form.Lines a b = absurd (b.2 a.2)
form-one rows form.Waits form.Rows a b = absurd (a.0 b.0)
form-one rows form.Waits form.Graph a b = absurd (a.1 b.1)
form-one rows form.Waits form.Waits a b = refl

-- an option whose text reads as a number gives this place
pub place_given : (option text : Text) (n : ℕ) (rows : List Row) → first_of option rows ≡ Some text → reading_of_numeral MAX_PLACE text ≡ Ok n
    → GivesPlace option rows (Some n)
place_given option text n rows is read =
    let (few, same) = (reading_iff text MAX_PLACE n (omega arith)).0 read in
    record { given = is ∙ ap Some same; few = few }

-- an option whose text reads as no number gives no place
pub place_not_given : (option text : Text) (rows : List Row) → first_of option rows ≡ Some text
    → ((m : ℕ) → ¬ (reading_of_numeral MAX_PLACE text ≡ Ok m)) → (place : Option ℕ) → ¬ GivesPlace option rows place
place_not_given option text rows is none None gives = let bad : Some text ≡ None = sym is ∙ gives in cc
place_not_given option text rows is none (Some n) gives =
    let same : Some text ≡ Some (decimal n) = sym is ∙ gives.given in
    let text_is : text ≡ decimal n = cc in
    none n ((reading_iff text MAX_PLACE n (omega arith)).1 (gives.few, text_is))
