use Rattle.std.proofs.Common.{◌<◌, length, get_or, ◌∙◌, arith}
use Rattle.std.proofs.lemmas.List.{get_or_default}
use Rattle.lock_holders.proofs.Columns.{columns-of, do-rise, is-own, is-between}
use Rattle.lock_holders.proofs.holder_columns.Columns.place_of.Goals as goal

pub rank-index-requires : goal.rank-index-requires
rank-index-requires c =
    let o = columns-of c.self.inside c.args.self.now c.self.view_is c.self.invariant in
    record { rising = do-rise c.as_slice-sessions.result.now c.args.self.now.items (c.as_slice-sessions.ensures ∙ o.sessions) o.rising }

pub returns-then-index-sessions : goal.returns-then-index-sessions
returns-then-index-sessions c =
    let o = columns-of c.self.inside c.args.self.now c.self.view_is c.self.invariant in
    let k = c.rank-index.ensures in
    is-between c.args.session c.rank-index.result c.as_slice-sessions.result.now c.args.self.now.items (c.as_slice-sessions.ensures ∙ o.sessions) o.rising k.within k.below k.others
    (λ d lt e. absurd (omega (arith, lt, c.if-index-sessions.true)))

pub returns-then-here-session : goal.returns-then-here-session
returns-then-here-session c =
    let ss = c.as_slice-sessions.result.now in
    let n = c.rank-index.result in
    let o = columns-of c.self.inside c.args.self.now c.self.view_is c.self.invariant in
    let k = c.rank-index.ensures in
    let lt : n < length ss = omega (arith, k.within, c.if-index-sessions.false) in
    is-own c.args.session n (get_or ss n 0) ss c.args.self.now.items (c.as_slice-sessions.ensures ∙ o.sessions) o.rising lt k.below
    (get_or_default ss n 0 (get_or ss n 0) lt) c.if-here-session.true

pub returns-else-here-session : goal.returns-else-here-session
returns-else-here-session c =
    let ss = c.as_slice-sessions.result.now in
    let n = c.rank-index.result in
    let o = columns-of c.self.inside c.args.self.now c.self.view_is c.self.invariant in
    let k = c.rank-index.ensures in
    is-between c.args.session n ss c.args.self.now.items (c.as_slice-sessions.ensures ∙ o.sessions) o.rising k.within k.below k.others
    (λ d lt e. c.if-here-session.false (get_or_default ss n 0 d lt ∙ e))
