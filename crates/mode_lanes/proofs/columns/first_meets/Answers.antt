use Rattle.std.proofs.Common.{◌+◌, ◌<◌, sym, arith, inl, inr}
use Rattle.std.proofs.lemmas.Bool.{cases_lt}
use Rattle.std.proofs.lemmas.Simd.{run_in_chunk_fails, run_in_chunk_stops}
use Rattle.mode_lanes.specs.Masks.{meets}
use Rattle.mode_lanes.proofs.Hits.{position-found}
use Rattle.mode_lanes.proofs.columns.first_meets.Goals as goal

pub returns-then-misses-lt-LANES : goal.returns-then-misses-lt-LANES
returns-then-misses-lt-LANES c =
    let p = meets c.args.mask in
    let column = c.args.column.now in
    let at = c.loop-at.at in
    let run = c.leading_misses-misses.result in
    let told = c.leading_misses-misses.ensures in
    let few : run < 16 = omega (arith, c.if-misses-lt-LANES.true) in
    sym (position-found p column (at + run) (omega (arith, few)) (λ k lt. elim (cases_lt k at) [ inl less ↦ c.loop-at.invariant.before k less | inr not_less ↦ run_in_chunk_fails p column at 16 run 0 (omega arith) told k not_less lt ]) (run_in_chunk_stops p column at 16 run 0 (omega arith) told few))

pub loop-at-preserved : goal.loop-at-preserved
loop-at-preserved c =
    let p = meets c.args.mask in
    let column = c.args.column.now in
    let at = c.loop-at.at in
    let run = c.leading_misses-misses.result in
    let told = c.leading_misses-misses.ensures in
    record {
      within = omega arith;
      before = λ k lt. elim (cases_lt k at) [ inl less ↦ c.loop-at.invariant.before k less | inr not_less ↦ run_in_chunk_fails p column at 16 run 0 (omega arith) told k not_less (omega (arith, lt, c.if-misses-lt-LANES.false)) ];
    }
