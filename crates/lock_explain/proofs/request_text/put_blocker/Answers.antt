use Rattle.std.proofs.Common.{◌++◌, codes}
use Rattle.std.proofs.lemmas.Result.{on_ok_weaker}
use Rattle.lock_explain.specs.ExplanationText.{words_of_party, words_of_holding, words_of_ahead}
use Rattle.lock_report.proofs.Pieces.{next_part}
use Rattle.lock_explain.proofs.request_text.put_blocker.Goals as goal

pub returns : goal.returns
returns c =
    let blocker = c.args.blocker.now in
    let before = c.args.start.now in
    let party = words_of_party blocker.party in
    let holding = words_of_holding blocker.held in
    let ahead = words_of_ahead blocker.held blocker.ahead in
    let one = next_part _ before party _ _ c.in_ok-put_words.ensures c.in_ok-put_party.ensures in
    let two = next_part _ (before ++ party) holding _ _ one c.in_ok-put_holding.ensures in
    let three = next_part _ (before ++ party ++ holding) ahead _ _ two c.in_ok-put_ahead.ensures in
    on_ok_weaker _ (next_part _ (before ++ party ++ holding ++ ahead) (codes "\n") _ _ three) c.put_words-2.ensures
