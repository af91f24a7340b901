use Rattle.std.proofs.Common.{◌++◌, codes}
use Rattle.std.proofs.lemmas.Result.{on_ok_weaker}
use Rattle.lock_explain.specs.ExplanationText.{words_of_owned}
use Rattle.lock_report.proofs.Pieces.{next_part}
use Rattle.lock_explain.proofs.text.put_granted.Goals as goal

pub returns : goal.returns
returns c =
    let before = codes "  grants the request of " in
    let words = words_of_owned c.args.request.now in
    on_ok_weaker _ (next_part _ (before ++ words) (codes "\n") _ _ (next_part _ before words _ _ c.in_ok-put_words.ensures c.in_ok-put_owned.ensures)) c.put_words-2.ensures
