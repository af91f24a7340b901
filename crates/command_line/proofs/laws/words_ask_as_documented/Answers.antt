use Rattle.std.proofs.Common.{rules, arith, refl, codes, ◌≡◌, Some, None}
use Rattle.clap.proofs.OnLiterals.{clap_on_literals}
use Rattle.lock_rules.specs.declared.calls.TheConstants.{MAX_SESSIONS}
use Rattle.command_line.specs.declared.args.TheConstants.{MAX_TURNS}
use Rattle.command_line.proofs.Gives.{numeral_given}
use Rattle.command_line.proofs.laws.words_ask_as_documented.Goals as goal

pub returns-clause-left_out : goal.returns-clause-left_out
unfolding clap_on_literals
returns-clause-left_out c = record { whole = refl; request_is = (refl, numeral_given (codes "sessions") (codes "256") MAX_SESSIONS 256 _ (omega arith) refl refl (search rules), λ flag. let no : Some (codes "false") ≡ Some (codes "true") = flag in cc) }

pub returns-clause-apart : goal.returns-clause-apart
unfolding clap_on_literals
returns-clause-apart c = record { whole = refl; request_is = (refl, numeral_given (codes "sessions") (codes "7") MAX_SESSIONS 7 _ (omega arith) refl refl (search rules), λ flag. let no : Some (codes "false") ≡ Some (codes "true") = flag in cc) }

pub returns-clause-stream : goal.returns-clause-stream
unfolding clap_on_literals
returns-clause-stream c = record { whole = refl; request_is = (refl, numeral_given (codes "sessions") (codes "256") MAX_SESSIONS 256 _ (omega arith) refl refl (search rules), refl) }

pub returns-clause-run : goal.returns-clause-run
unfolding clap_on_literals
returns-clause-run c = record { whole = refl; request_is = (refl, numeral_given (codes "sessions") (codes "256") MAX_SESSIONS 256 _ (omega arith) refl refl (search rules), numeral_given (codes "turns") (codes "1000000000") MAX_TURNS 1000000000 _ (omega arith) refl refl (search rules), λ flag. let no : Some (codes "false") ≡ Some (codes "true") = flag in cc) }

pub returns-clause-check : goal.returns-clause-check
unfolding clap_on_literals
returns-clause-check c = record { whole = refl; request_is = (refl, numeral_given (codes "sessions") (codes "256") MAX_SESSIONS 256 _ (omega arith) refl refl (search rules), λ flag. let no : Some (codes "false") ≡ Some (codes "true") = flag in cc) }

pub returns-clause-show : goal.returns-clause-show
unfolding clap_on_literals
returns-clause-show c = record { whole = refl; request_is = (refl, numeral_given (codes "sessions") (codes "256") MAX_SESSIONS 256 _ (omega arith) refl refl (search rules), refl, (λ flag. let no : Some (codes "false") ≡ Some (codes "true") = flag in cc, λ flag. let no : Some (codes "false") ≡ Some (codes "true") = flag in cc, λ flag. let no : Some (codes "false") ≡ Some (codes "true") = flag in cc), λ flag. let no : Some (codes "false") ≡ Some (codes "true") = flag in cc) }

pub returns-clause-explain : goal.returns-clause-explain
unfolding clap_on_literals
returns-clause-explain c = record { whole = refl; request_is = (refl, numeral_given (codes "sessions") (codes "256") MAX_SESSIONS 256 _ (omega arith) refl refl (search rules), refl, (λ flag. let no : Some (codes "false") ≡ Some (codes "true") = flag in cc, λ flag. let no : Some (codes "false") ≡ Some (codes "true") = flag in cc, λ flag. let no : None ≡ Some (codes "true") = flag in cc)) }

pub returns-clause-timeline : goal.returns-clause-timeline
unfolding clap_on_literals
returns-clause-timeline c = record { whole = refl; request_is = (refl, numeral_given (codes "sessions") (codes "256") MAX_SESSIONS 256 _ (omega arith) refl refl (search rules), refl, refl) }
