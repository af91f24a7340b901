use Rattle.std.proofs.Common.{rules, arith, refl, codes, ◌≡◌, [], Some}
use Rattle.clap.specs.declared.error.kind.ErrorKind.TheVariants.{UnknownArgument, InvalidValue}
use Rattle.clap.proofs.OnLiterals.{clap_on_literals}
use Rattle.lock_rules.specs.declared.calls.TheConstants.{MAX_SESSIONS}
use Rattle.command_line.proofs.Ask.{faulty}
use Rattle.command_line.proofs.Gives.{numeral_given}
use Rattle.command_line.proofs.laws.words_name_files.Goals as goal

pub returns-clause-none : goal.returns-clause-none
unfolding clap_on_literals
returns-clause-none c = (refl, refl)

pub returns-clause-read : goal.returns-clause-read
unfolding clap_on_literals
returns-clause-read c = (record { whole = refl; request_is = (refl, numeral_given (codes "sessions") (codes "256") MAX_SESSIONS 256 _ (omega arith) refl refl (search rules), λ flag. let no : Some (codes "false") ≡ Some (codes "true") = flag in cc) }, refl)

pub returns-clause-dash : goal.returns-clause-dash
unfolding clap_on_literals
returns-clause-dash c = (record { whole = refl; request_is = (refl, numeral_given (codes "sessions") (codes "256") MAX_SESSIONS 256 _ (omega arith) refl refl (search rules), λ flag. let no : Some (codes "false") ≡ Some (codes "true") = flag in cc) }, refl)

pub returns-clause-between : goal.returns-clause-between
unfolding clap_on_literals
returns-clause-between c = refl

pub returns-clause-write : goal.returns-clause-write
unfolding clap_on_literals
returns-clause-write c = (record { whole = refl; request_is = (refl, numeral_given (codes "sessions") (codes "256") MAX_SESSIONS 256 _ (omega arith) refl refl (search rules), λ flag. let no : Some (codes "false") ≡ Some (codes "true") = flag in cc) }, refl)

pub returns-clause-write_long : goal.returns-clause-write_long
unfolding clap_on_literals
returns-clause-write_long c = refl

pub returns-clause-write_dash : goal.returns-clause-write_dash
unfolding clap_on_literals
returns-clause-write_dash c = refl

pub returns-clause-two : goal.returns-clause-two
unfolding clap_on_literals
returns-clause-two c = faulty _ UnknownArgument [] refl (search rules) (search rules)

pub returns-clause-no_target : goal.returns-clause-no_target
unfolding clap_on_literals
returns-clause-no_target c = faulty _ InvalidValue [] refl (search rules) (search rules)

pub returns-clause-comments : goal.returns-clause-comments
unfolding clap_on_literals
returns-clause-comments c = refl

pub returns-clause-no_comments : goal.returns-clause-no_comments
unfolding clap_on_literals
returns-clause-no_comments c = λ flag. let no : Some (codes "false") ≡ Some (codes "true") = flag in cc

pub returns-clause-hints : goal.returns-clause-hints
unfolding clap_on_literals
returns-clause-hints c = refl

pub returns-clause-no_hints : goal.returns-clause-no_hints
unfolding clap_on_literals
returns-clause-no_hints c = λ flag. let no : Some (codes "false") ≡ Some (codes "true") = flag in cc

pub returns-clause-shell_file : goal.returns-clause-shell_file
unfolding clap_on_literals
returns-clause-shell_file c = faulty _ UnknownArgument [] refl (search rules) (search rules)
