use Rattle.std.proofs.Common.{sym, ◌≡◌, ◌∙◌}
use Rattle.std.specs.Prelude.{Ok, Err}
use Rattle.clap.specs.Matches.{found_of}
use Rattle.clap.specs.Walk.{rows_of}
use Rattle.lock_tree.specs.Numerals.{reading_of_numeral}
use Rattle.command_line.specs.declared.args.TheConstants.{MAX_PLACE}
use Rattle.command_line.proofs.AskShow.{place_given, place_not_given}
use Rattle.command_line.proofs.Gives.{reading_is, text_found}
use Rattle.command_line.proofs.requests.option_place.Goals as goal

pub returns-in-Ok-clause-ok : goal.returns-in-Ok-clause-ok
returns-in-Ok-clause-ok c =
    let read : reading_of_numeral MAX_PLACE c.in-Some.text.now ≡ Ok c.in-Ok.place = reading_is c.parse_numeral.ensures c.from.ensures c.as_bytes.ensures.value ∙ c.in-Ok.is in
    place_given _ _ _ _ (text_found _ _ _ _ c.option_text.ensures c.in-Some.is) read

pub returns-in-Err-clause-err : goal.returns-in-Err-clause-err
returns-in-Err-clause-err c =
    let read : reading_of_numeral MAX_PLACE c.in-Some.text.now ≡ Err c.in-Err.field-0 = reading_is c.parse_numeral.ensures c.from.ensures c.as_bytes.ensures.value ∙ c.in-Err.is in
    place_not_given _ _ (rows_of (found_of c.args.given.now)) (text_found _ _ _ _ c.option_text.ensures c.in-Some.is) (λ m again. let bad : Ok m ≡ Err c.in-Err.field-0 = sym again ∙ read in cc)
