use Rattle.std.proofs.Common.{◌≡◌, ◌<◌, ℕ, List, sym, ap, ◌∙◌, arith}
use Rattle.waits_for.specs.Pairs.{Pairs, pairs_of}
use Rattle.waits_for.specs.inner.Bits.{has_bit}
use Rattle.waits_for.proofs.Places.{pairs_of-within}
use Rattle.waits_for.proofs.rows.Rows.first_unmarked.Goals as goal

-- The bits of a row are the edges of a graph that is equal to the matrix.
row_bits : (matrix p : Pairs) (t : ℕ) (row : List ℕ) → matrix ≡ p → ((u : ℕ) → has_bit row u ≡ pairs_of matrix t u) → (u : ℕ) → has_bit row u ≡ pairs_of p t u
row_bits matrix p t row same bits u = bits u ∙ ap (λ (q : Pairs). pairs_of q t u) same

pub returns-then-from-sessions-clause-none : goal.returns-then-from-sessions-clause-none
returns-then-from-sessions-clause-none c j le edge =
    let within = pairs_of-within c.args.self.now c.args.t j edge in
    let same = c.sessions-sessions.ensures.sessions ∙ ap (λ (p : Pairs). p.sessions) c.self.view_is in
    absurd (omega (arith, within.1, same, c.if-from-sessions.true, le))

pub returns-then-u-sessions-clause-some : goal.returns-then-u-sessions-clause-some
returns-then-u-sessions-clause-some c =
    let n = c.next_new-u.ensures in
    let same = c.sessions-sessions.ensures.sessions ∙ ap (λ (p : Pairs). p.sessions) c.self.view_is in
    let here = n.new c.if-u-sessions.true in
    let bits = row_bits c.self.inside.matrix c.args.self.now c.args.t c.row.result.now c.self.view_is c.row.ensures.bits in
    let below : c.next_new-u.result < c.args.marks.now.sessions = omega (arith, c.if-u-sessions.true, same, c.requires.sessions) in
    (n.behind, sym (bits c.next_new-u.result) ∙ here.0, sym (c.words.ensures.bits c.next_new-u.result below) ∙ here.1)

pub returns-then-u-sessions-clause-least : goal.returns-then-u-sessions-clause-least
returns-then-u-sessions-clause-least c j le lt edge =
    let within = pairs_of-within c.args.self.now c.args.t j edge in
    let bits = row_bits c.self.inside.matrix c.args.self.now c.args.t c.row.result.now c.self.view_is c.row.ensures.bits in
    let below : j < c.args.marks.now.sessions = omega (arith, within.1, c.requires.sessions) in
    sym (c.words.ensures.bits j below) ∙ c.next_new-u.ensures.known j le lt (bits j ∙ edge)

pub returns-else-u-sessions-clause-none : goal.returns-else-u-sessions-clause-none
returns-else-u-sessions-clause-none c j le edge =
    let within = pairs_of-within c.args.self.now c.args.t j edge in
    let same = c.sessions-sessions.ensures.sessions ∙ ap (λ (p : Pairs). p.sessions) c.self.view_is in
    let bits = row_bits c.self.inside.matrix c.args.self.now c.args.t c.row.result.now c.self.view_is c.row.ensures.bits in
    let below : j < c.args.marks.now.sessions = omega (arith, within.1, c.requires.sessions) in
    let lt : j < c.next_new-u.result = omega (arith, within.1, same, c.if-u-sessions.false) in
    sym (c.words.ensures.bits j below) ∙ c.next_new-u.ensures.known j le lt (bits j ∙ edge)
