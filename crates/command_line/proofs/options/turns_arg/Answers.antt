use Rattle.std.proofs.Common.{ap, codes, ◌≡◌, ◌∙◌, [], ◌∷◌}
use Rattle.std.specs.Prelude.{pos}
use Rattle.clap.specs.Walk.{Rule, rule_of}
use Rattle.clap.specs.declared.builder.value_parser.ValueParser.TheVariants as parser
use Rattle.command_line.specs.declared.args.TheConstants.{MAX_TURNS}
use Rattle.command_line.specs.CommandLine.{valued_option}
use Rattle.command_line.proofs.options.turns_arg.Goals as goal

pub returns-clause-rule : goal.returns-clause-rule
returns-clause-rule c =
    let checked : c.range-parser.result ≡ parser.Signed (pos 1) (pos MAX_TURNS) = rw (c.value_parser.ensures, c.new.ensures.start, c.new.ensures.end, c.from.ensures) at c.range-parser.ensures in
    ap rule_of c.default_value.ensures
    ∙ ap (λ (r : Rule). record r { defaults = codes "1000000000" ∷ [] }) (c.valued_arg.ensures.rule ∙ ap (valued_option (codes "turns")) checked)
