use Rattle.command_line.proofs.Ask.{not_both, not_both_of_runs, one_request, one_replay}
use Rattle.command_line.proofs.laws.words_ask_for_one_thing.Goals as goal

pub returns-clause-one : goal.returns-clause-one
returns-clause-one c = λ words r q a b. one_request _ r q a.request_is b.request_is

pub returns-clause-sessions : goal.returns-clause-sessions
returns-clause-sessions c = λ words m n a b. one_replay _ m n _ a.request_is b.request_is

pub returns-clause-whole_or_pieces : goal.returns-clause-whole_or_pieces
returns-clause-whole_or_pieces c = λ words m n a b. not_both _ m n a.request_is b.request_is

pub returns-clause-run_whole_or_pieces : goal.returns-clause-run_whole_or_pieces
returns-clause-run_whole_or_pieces c = λ words m n t u a b. not_both_of_runs _ m n t u a.request_is b.request_is
