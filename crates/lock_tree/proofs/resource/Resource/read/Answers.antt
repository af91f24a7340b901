use Rattle.std.proofs.Common.{ℕ, List, arith, ◌∙◌, sym, ap, ◌+◌, Option, Result, Ok, set, take}
use Rattle.lock_tree.specs.declared.path_fault.PathFault.{PathFault}
use Rattle.lock_tree.specs.inner.Pieces.{first_piece}
use Rattle.lock_tree.specs.Numerals.{ok_unless}
use Rattle.lock_tree.proofs.ByPiece.{IsKept, at_start, one_more, next_piece_is, after_slash_is, read_last, at_end, too_deep}
use Rattle.lock_tree.proofs.resource.Resource.read.Goals as goal

pub loop-level-init : goal.loop-level-init
loop-level-init c = at_start c.args.bytes.now

pub loop-level-preserved : goal.loop-level-preserved
loop-level-preserved c =
    let l = c.loop-level in
    let rest = l.rest.now in
    let first = next_piece_is rest (λ e. c.if-length-rest.false (c.read_piece-number.ensures.length ∙ e)) in
    let kept : IsKept (first_piece rest) l.fault c.read_piece-number.result.0 c.unwrap_or.result c.err.result c.or-fault.result =
    record { number_is = c.read_piece-number.ensures.number; value_is = c.unwrap_or.ensures; err_is = c.err.ensures.value; after_is = c.or-fault.ensures } in
    let read = one_more c.args.bytes.now l.level l.numbers l.fault _ _ _ _ _ _ _ first c.loop-level-test.true kept l.invariant in
    rw (after_slash_is rest c.read_piece-number.result.1 c.read_piece-number.ensures.length c.if-length-rest.false) read

pub returns-in-Some : goal.returns-in-Some
returns-in-Some c =
    let l = c.loop-level in
    let read = read_last c.args.bytes.now l.level l.numbers l.fault l.rest.now _ _ _ _ (sym c.read_piece-number.ensures.length ∙ c.if-length-rest.true) c.loop-level-test.true (record { number_is = c.read_piece-number.ensures.number; value_is = c.unwrap_or.ensures; err_is = c.err.ensures.value; after_is = c.or-fault.ensures }) l.invariant in
    ap (λ (f : Option PathFault). ok_unless f (take (l.level + 1) (set l.numbers l.level c.unwrap_or.result))) (sym c.in-Some.is) ∙ at_end _ _ _ _ (omega arith) read

pub returns-in-None : goal.returns-in-None
returns-in-None c =
    let l = c.loop-level in
    let read = read_last c.args.bytes.now l.level l.numbers l.fault l.rest.now _ _ _ _ (sym c.read_piece-number.ensures.length ∙ c.if-length-rest.true) c.loop-level-test.true (record { number_is = c.read_piece-number.ensures.number; value_is = c.unwrap_or.ensures; err_is = c.err.ensures.value; after_is = c.or-fault.ensures }) l.invariant in
    let ok : List ℕ → Result (List ℕ) PathFault = λ r. Ok r in
    ap ok c.prefix.ensures
    ∙ ap (λ (f : Option PathFault). ok_unless f (take (l.level + 1) (set l.numbers l.level c.unwrap_or.result))) (sym c.in-None.is) ∙ at_end _ _ _ _ (omega arith) read

pub returns : goal.returns
returns c =
    too_deep c.args.bytes.now c.loop-level.level c.loop-level.numbers c.loop-level.fault c.loop-level.rest.now c.loop-level-test.false c.loop-level.invariant
