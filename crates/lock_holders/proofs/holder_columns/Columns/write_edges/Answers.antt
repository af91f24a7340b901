use Rattle.std.proofs.Common.{◌≡◌, ◌&&◌, ◌||◌, not, eqb, Bool, ◌∙◌, ap, arith}
use Rattle.waits_for.specs.Pairs.{is_met, pairs_of}
use Rattle.lock_holders.proofs.Columns.{columns-of, numbered-of, blocks-met}
use Rattle.lock_holders.proofs.holder_columns.Columns.write_edges.Goals as goal

pub set_met-requires-clause-within : goal.set_met-requires-clause-within
set_met-requires-clause-within c = λ k lt.
    let o = columns-of c.self.inside c.args.self.now c.self.view_is c.self.invariant in
    numbered-of c.args.rows.now.sessions c.as_slice.result.now c.args.self.now.items (c.as_slice.ensures ∙ o.sessions) c.requires.numbered k lt

pub returns-clause-pairs : goal.returns-clause-pairs
returns-clause-pairs c = λ a b.
    let o = columns-of c.self.inside c.args.self.now c.self.view_is c.self.invariant in
    let s = c.args.session in
    let t = c.position_of-position.result in
    let met : is_met c.conflict_mask.result b c.as_slice.result.now c.as_slice-2.result.now ≡ _ = λ i. is_met (c.conflict_mask.ensures i) b ((c.as_slice.ensures ∙ o.sessions) i) ((c.as_slice-2.ensures ∙ o.codes) i) in
    c.set_met.ensures.pairs a b
    ∙ (ap (λ (x : Bool). pairs_of c.args.rows.now a b || (eqb a t && (not (eqb b t) && x))) met
    ∙ ap (λ (x : Bool). pairs_of c.args.rows.now a b || x) (blocks-met s t b c.args.target (omega (arith, c.requires.some, c.position_of-position.ensures)) a c.args.self.now.items))
