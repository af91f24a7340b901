use Rattle.std.proofs.Common.{rules, arith, sym, ◌≡◌, ◌∙◌}
use Rattle.std.specs.Prelude.{Ok, Err}
use Rattle.lock_tree.specs.Numerals.{reading_of_numeral}
use Rattle.command_line.proofs.Gives.{no_text_found, nothing_given, numeral_given, numeral_not_given, reading_is, text_found}
use Rattle.command_line.proofs.requests.option_number.Goals as goal

pub returns-in_default-clause-none : goal.returns-in_default-clause-none
returns-in_default-clause-none c = nothing_given _ _ _ (no_text_found _ _ _ c.option_text.ensures c.in_default.is)

pub returns-in-Ok-clause-some : goal.returns-in-Ok-clause-some
returns-in-Ok-clause-some c =
    let read : reading_of_numeral c.args.greatest c.in-Some.text.now ≡ Ok c.in-Ok.number = reading_is c.parse_numeral.ensures c.from.ensures c.as_bytes.ensures.value ∙ c.in-Ok.is in
    numeral_given _ _ _ _ _ (omega (arith, c.ranges.greatest.fits)) (text_found _ _ _ _ c.option_text.ensures c.in-Some.is) read (search rules)

pub returns-in_default-parse_numeral-clause-none : goal.returns-in_default-parse_numeral-clause-none
returns-in_default-parse_numeral-clause-none c =
    let read : reading_of_numeral c.args.greatest c.in-Some.text.now ≡ Ok c.in-Ok.number = reading_is c.parse_numeral.ensures c.from.ensures c.as_bytes.ensures.value ∙ c.in-Ok.is in
    numeral_not_given _ _ _ _ (omega (arith, c.ranges.greatest.fits)) (text_found _ _ _ _ c.option_text.ensures c.in-Some.is)
    (λ m again some. let is : Ok m ≡ Ok c.in-Ok.number = sym again ∙ read in let same : m ≡ c.in-Ok.number = cc in omega (arith, same, some, c.if-number-gt0.false))

pub returns-in_default-parse_numeral-2-clause-none : goal.returns-in_default-parse_numeral-2-clause-none
returns-in_default-parse_numeral-2-clause-none c =
    let read : reading_of_numeral c.args.greatest c.in-Some.text.now ≡ Err c.in_default-parse_numeral.field-0 = reading_is c.parse_numeral.ensures c.from.ensures c.as_bytes.ensures.value ∙ c.in_default-parse_numeral.is in
    numeral_not_given _ _ _ _ (omega (arith, c.ranges.greatest.fits)) (text_found _ _ _ _ c.option_text.ensures c.in-Some.is)
    (λ m again some. let bad : Ok m ≡ Err c.in_default-parse_numeral.field-0 = sym again ∙ read in cc)
