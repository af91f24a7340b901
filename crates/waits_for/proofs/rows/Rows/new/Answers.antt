use Rattle.std.proofs.Common.{sym, ◌∙◌, arith}
use Rattle.std.proofs.lemmas.Bool.{false≢true}
use Rattle.waits_for.proofs.rows.Rows.new.Goals as goal

pub invariant_of-result : goal.invariant_of-result
invariant_of-result c =
    let none = c.in_ok-matrix.ensures.no_pairs in
    let m = c.in_ok-matrix.ensures.sessions in (
      omega (arith, m, c.in_ok-waiting.ensures.len, c.words_for.ensures),
      λ t u h. absurd (false≢true (sym (none t u) ∙ h)),
      c.in_ok-search.ensures.sessions ∙ sym m,
      λ t is. absurd (omega (arith, is, c.in_ok-search.ensures.none)),
    )

pub returns-clause-no_pairs : goal.returns-clause-no_pairs
returns-clause-no_pairs c = c.in_ok-matrix.ensures.no_pairs
