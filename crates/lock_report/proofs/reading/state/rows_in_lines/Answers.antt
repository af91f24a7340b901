use Rattle.std.proofs.Common.{rules, ◌≡◌, ◌+◌, ℕ, List, map, take, Bor, subst}
use Rattle.lock_report.specs.ReadStates.{IsFirstBad}
use Rattle.lock_report.proofs.ReadPrefixes.{none-at-first, kept-at-first, lines-so-far, first-bad, one-line-more, all-lines}
use Rattle.lock_report.proofs.reading.state.rows_in_lines.Goals as goal

pub loop-index-init : goal.loop-index-init
loop-index-init c = (
  none-at-first c.args.sessions c.new.result.items c.new-2.result.items c.new-3.result.items c.new.ensures.items c.new-2.ensures.items c.new-3.ensures.items,
  kept-at-first _ (search rules) (search rules) c.new.ensures.items c.new-2.ensures.items c.new-3.ensures.items,
)

pub returns-then-not-added-clause-bad : goal.returns-then-not-added-clause-bad
returns-then-not-added-clause-bad c = λ k e.
    let xs = c.args.lines.now in
    let i = c.loop-index.index in
    let all = map (λ (line : Bor (List ℕ)). line.now) xs in
    let same : i + 1 ≡ k = cc in
    let no = c.in-Ok.ensures.bad (take i all) (search rules) c.loop-index.invariant.0 c.loop-index.invariant.1 in
    subst (IsFirstBad c.args.sessions all) same
    (first-bad c.args.sessions xs i _ c.loop-index-test.true (lines-so-far c.args.sessions (take i all) c.loop-index.reading c.loop-index.invariant.0 c.loop-index.invariant.1) no)

pub loop-index-preserved : goal.loop-index-preserved
loop-index-preserved c =
    let xs = c.args.lines.now in
    let i = c.loop-index.index in
    let all = map (λ (line : Bor (List ℕ)). line.now) xs in
    (one-line-more c.args.sessions xs i _ _ c.loop-index-test.true (c.in-Ok.ensures.added (take i all) (search rules) c.loop-index.invariant.0), c.in-Ok.ensures.kept (search rules) c.loop-index.invariant.1)

pub returns-clause-ok : goal.returns-clause-ok
returns-clause-ok c = all-lines c.args.sessions c.args.lines.now c.loop-index.index c.loop-index.reading c.loop-index-test.false c.loop-index.invariant.0 c.loop-index.invariant.1
