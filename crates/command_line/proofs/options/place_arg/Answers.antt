use Rattle.std.proofs.Common.{ap, ◌≡◌, ◌∙◌}
use Rattle.std.specs.Prelude.{pos}
use Rattle.clap.specs.declared.builder.value_parser.ValueParser.TheVariants as parser
use Rattle.command_line.specs.declared.args.TheConstants.{MAX_PLACE}
use Rattle.command_line.specs.CommandLine.{valued_option}
use Rattle.command_line.proofs.options.place_arg.Goals as goal

pub returns-clause-rule : goal.returns-clause-rule
returns-clause-rule c =
    let checked : c.range-parser.result ≡ parser.Signed (pos 0) (pos MAX_PLACE) = rw (c.value_parser.ensures, c.new.ensures.start, c.new.ensures.end, c.from.ensures) at c.range-parser.ensures in
    c.valued_arg.ensures.rule ∙ ap (valued_option c.args.name.now) checked
