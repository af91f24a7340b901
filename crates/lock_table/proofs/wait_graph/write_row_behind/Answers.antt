use Rattle.std.proofs.Common.{◌≡◌, ◌+◌, ◌-◌, ◌||◌, ◌&&◌, eqb, List, get_or, take, drop, sym, ◌∙◌, ap, arith, subst}
use Rattle.waits_for.specs.Pairs.{pairs_of}
use Rattle.lock_modes.specs.declared.Mode.TheVariants.{NL}
use Rattle.lock_holders.specs.declared.session_mode.SessionMode.{SessionMode}
use Rattle.lock_table.specs.inner.Cells.{view_of}
use Rattle.lock_holders.specs.SessionModes.{has_session}
use Rattle.lock_table.proofs.RequestsAlike.{previous_same_mode-written}
use Rattle.lock_table.proofs.wait_graph.write_row_behind.Goals as goal

pub returns-then-not-waits-clause-pairs : goal.returns-then-not-waits-clause-pairs
returns-then-not-waits-clause-pairs c = λ a b d.
    let v = view_of c.args.cell.now in
    let i = c.args.index in
    let j = c.in-Some.before in
    let none : SessionMode = record { session = 0; mode = NL } in
    let is = c.queue-queue.ensures in
    let mine = ap (λ (ws : List SessionMode). (get_or ws i none).session) is in
    let theirs = ap (λ (ws : List SessionMode). (get_or ws j none).session) is in
    let some = (c.requires.within.waiting i none c.requires.index).0 in
    let any = (c.requires.within.waiting j none (omega (arith, c.requires.index, c.in-Some.ensures.0))).0 in
    previous_same_mode-written v c.requires.once i j none d c.requires.index c.in-Some.ensures.0 (subst (λ (ws : List SessionMode). (get_or ws j none).mode ≡ (get_or ws i none).mode) is (c.in-Some.ensures.1 none))
    (pairs_of c.args.rows.now) (pairs_of c.wait_as.new.self) (pairs_of c.write_edges_ahead.new.rows) c.position_of-position.result c.position_of-other.result
    (omega (arith, c.position_of-position.ensures, mine, some)) (omega (arith, c.position_of-other.ensures, theirs, any)) c.requires.written (sym c.if-not-waits.ensures.pairs) c.wait_as.ensures.pairs
    (λ a b. c.write_edges_ahead.ensures.pairs a b ∙ ap (λ (ws : List SessionMode). pairs_of c.wait_as.new.self a b || (eqb (a + 1) (get_or ws i none).session && has_session (b + 1) (take (i - j) (drop j ws)))) is) a b
