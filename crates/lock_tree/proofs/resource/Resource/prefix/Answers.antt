use Rattle.std.proofs.Common.{◌≡◌, ◌<◌, ◌≤◌, ◌^◌, ◌∙◌, length-set, take, get_or, ap, arith}
use Rattle.std.proofs.lemmas.List.Elements.{All-set}
use Rattle.lock_tree.proofs.Prefixes.{kept_more, take_kept, all_kept, kept_padded}
use Rattle.lock_tree.proofs.resource.Resource.prefix.Goals as goal
use Rattle.lock_tree.proofs.resource.Resource.prefix.Goals.{then-k-level, else-k-level}

pub loop-k-preserved : goal.loop-k-preserved
loop-k-preserved c =
    let l = c.loop-k in
    let numbers = c.args.numbers.now in
    let v = c.if-k-level.padded in
    let below : l.k < c.args.level → v ≡ get_or numbers l.k 0 = elim c.if-k-level.branch [ then-k-level w ↦ λ lt. w.padded-is | else-k-level w ↦ λ lt. absurd (omega (arith, lt, w.if-k-level.false)) ] in
    let behind : c.args.level ≤ l.k → v ≡ 0 = elim c.if-k-level.branch [ then-k-level w ↦ λ le. absurd (omega (arith, le, w.if-k-level.true)) | else-k-level w ↦ λ le. w.padded-is ] in
    let fits : v < 2 ^ 32 = elim c.if-k-level.branch [ then-k-level w ↦ omega (arith, w.padded-is, w.if-k-level.element_fits.fits) | else-k-level w ↦ omega (arith, w.padded-is) ] in
    record {
      full = length-set l.padded l.k v ∙ l.invariant.full;
      kept = kept_more c.args.level l.k numbers l.padded v (omega (arith, c.told-numbers, c.loop-k-test.true)) (omega (arith, l.invariant.full, c.loop-k-test.true)) below behind l.invariant.kept;
      small = All-set (λ n. n < 2 ^ 32) l.padded l.k v fits l.invariant.small;
    }

pub invariant_of-result : goal.invariant_of-result
invariant_of-result c =
    let l = c.loop-k in
    kept_padded c.args.level c.args.numbers.now l.padded (all_kept c.args.level l.k c.args.numbers.now l.padded l.invariant.full c.told-numbers c.loop-k-test.false l.invariant.kept) l.invariant.full c.told-numbers c.requires.some c.requires.few l.invariant.small

pub returns : goal.returns
returns c =
    let l = c.loop-k in
    ap (take c.args.level) (all_kept c.args.level l.k c.args.numbers.now l.padded l.invariant.full c.told-numbers c.loop-k-test.false l.invariant.kept) ∙ take_kept c.args.level c.args.numbers.now
