use Rattle.std.proofs.Common.{◌≡◌, ℕ, ◌<◌, ◌≤◌, refl, ◌+◌, ◌-◌, [], ◌∷◌, vec_len, sym, ◌∙◌, ap, arith, subst}
use Rattle.lock_rules.specs.Waits.{after_victims}
use Rattle.waits_for.specs.Pairs.{pairs_of}
use Rattle.waits_for.specs.Walks.{Reaches}
use Rattle.waits_for.proofs.Walks.{reaches-trans}
use Rattle.lock_table.specs.declared.wait_graph.Waits.{Waits}
use Rattle.lock_table.specs.inner.Blocking.{IsCurrent}
use Rattle.lock_table.specs.Changes.{standings}
use Rattle.lock_table.specs.Deadlocks.{moments_at}
use Rattle.lock_table.specs.Noting.{IsNotedAhead}
use Rattle.lock_table.proofs.Agreement.{keeps-on}
use Rattle.lock_table.proofs.EndedWaits.{waits_ended-on, waits_ended-none}
use Rattle.lock_table.proofs.VictimRounds.{keeps-searched, may-serve_searched, rewaited, none-found, found, next-round, last-round}
use Rattle.lock_table.proofs.DeadlockRounds.{IsNotedRound, known-coming, noted-begun, noted-round, noted-last, noted-end, shown-end}
use Rattle.lock_table.proofs.table.LockTable.resolve_deadlocks.Goals as goal

pub returns-in_default-clause-settled : goal.returns-in_default-clause-settled
returns-in_default-clause-settled g c = λ st i j h.
    let d = c.loop-round.self in
    let k = c.loop-round.invariant in
    let r = (k.rounds st i j (record { count = h.count; transactions = h.transactions; views = h.views })).round in
    last-round (vec_len c.args.self.now.lockers + 1) c.loop-round.round c.args.session st _ (rewaited (vec_len c.args.self.now.lockers + 1) c.loop-round.round c.args.session st d c.victim.new.waits r)
    (none-found d k.kept.whole d.waits k.kept.ready.filled r.state r.shows r.sound r.numbered c.args.session c.requires.may_serve.session.some c.in_default.ensures.none)

pub returns-in_default-clause-noted : goal.returns-in_default-clause-noted
returns-in_default-clause-noted g c = λ st i j h.
    let d = c.loop-round.self in
    let k = c.loop-round.invariant in
    let n = k.rounds st i j (record { count = h.count; transactions = h.transactions; views = h.views }) in
    let r = n.round in
    noted-last g.N.DeadlockNotes.noted g.met.N.DeadlockNotes.none c.loop-round.coming (vec_len c.args.self.now.lockers + 1) c.loop-round.round c.args.session c.args.place st d c.args.notes.now c.loop-round.notes n
    (none-found d k.kept.whole d.waits k.kept.ready.filled r.state r.shows r.sound r.numbered c.args.session c.requires.may_serve.session.some c.in_default.ensures.none)

pub returns-in_default-clause-kept : goal.returns-in_default-clause-kept
returns-in_default-clause-kept g c = keeps-searched c.args.self.now c.loop-round.self c.victim.new.waits c.in_default.ensures.same c.loop-round.invariant.kept

pub coming-coming-requires-clause-may_serve : goal.coming-coming-requires-clause-may_serve
coming-coming-requires-clause-may_serve g c =
    let s = c.requires.may_serve.session in
    let k = c.loop-round.invariant.kept in
    may-serve_searched c.args.self.now c.loop-round.self c.victim.new.waits c.in-Some.ensures.same k c.args.session s.some (omega (arith, s.within, k.ready.long, k.lockers))

pub coming-coming-requires-clause-fits : goal.coming-coming-requires-clause-fits
coming-coming-requires-clause-fits g c =
    let k = c.loop-round.invariant in
    subst (λ (n : ℕ). g.N.DeadlockNotes.fits n c.loop-round.notes) (sym k.kept.lockers) k.fits

pub note-requires-clause-fits : goal.note-requires-clause-fits
note-requires-clause-fits g c =
    let k = c.loop-round.invariant in
    subst (λ l. g.N.DeadlockNotes.fits (vec_len c.loop-round.self.lockers) l) (sym c.coming-coming.ensures.same) (subst (λ (n : ℕ). g.N.DeadlockNotes.fits n c.loop-round.notes) (sym k.kept.lockers) k.fits)

pub note-requires-clause-may_serve : goal.note-requires-clause-may_serve
note-requires-clause-may_serve g c =
    let y = c.in-Some.ensures.some in
    may-serve_searched c.args.self.now c.loop-round.self c.victim.new.waits c.in-Some.ensures.same c.loop-round.invariant.kept c.in-Some.chosen y.0 y.1

pub note-requires-clause-cycle : goal.note-requires-clause-cycle
note-requires-clause-cycle g c =
    let y = c.in-Some.ensures.some.2.on_circle in
    let v = c.in-Some.chosen in
    let s = c.args.session in
    subst (λ (w : Waits). Reaches (pairs_of w.rows) (v - 1) (v - 1)) (sym c.in-Some.ensures.same)
    (reaches-trans (pairs_of c.loop-round.self.waits.rows) (v - 1) (s - 1) (v - 1) y.back y.there)

pub doom-requires : goal.doom-requires
doom-requires g c =
    let y = c.in-Some.ensures.some in
    record { may_serve = may-serve_searched c.args.self.now c.loop-round.self c.victim.new.waits c.in-Some.ensures.same c.loop-round.invariant.kept c.in-Some.chosen y.0 y.1 }

pub loop-round-preserved : goal.loop-round-preserved
loop-round-preserved g c =
    let d = c.loop-round.self in
    let k = c.loop-round.invariant in
    record {
      kept = keeps-on (keeps-searched c.args.self.now d c.victim.new.waits c.in-Some.ensures.same k.kept) c.doom.ensures.kept;
      count = c.doom.ensures.doomed.count ∙ k.count;
      waits_ended = waits_ended-on 0 c.args.self.now d c.doom.new.self k.waits_ended c.doom.ensures.waits_ended;
      fits = subst (λ (n : ℕ). g.N.DeadlockNotes.fits n c.note.new.self) k.kept.lockers c.note.ensures.fits;
      rounds = λ st i j h.
          let n = k.rounds st i j h in
          let r = n.round in
          let y = c.in-Some.ensures.some in
          let f = found d k.kept.whole d.waits k.kept.ready.filled r.state r.shows r.sound r.numbered c.args.session c.in-Some.chosen c.requires.may_serve.session.some y.0 y.2 in
          let lt : c.loop-round.round < vec_len c.args.self.now.lockers + 1 = omega (arith, c.loop-round-test.true, c.len-rounds.ensures) in
          let again = rewaited (vec_len c.args.self.now.lockers + 1) c.loop-round.round c.args.session st d c.victim.new.waits r in
          let sure = known-coming g.N.DeadlockNotes.noted c.loop-round.coming c.coming-coming.result _ (vec_len c.args.self.now.lockers + 1) c.loop-round.round c.args.session c.args.place st d c.victim.new.waits c.args.notes.now c.loop-round.notes n k.kept.whole
          (subst (IsCurrent d.cells.entries (standings d)) (sym c.in-Some.ensures.same) k.kept.ready.filled) c.requires.may_serve.session.some c.coming-coming.ensures.chosen (omega (arith, c.len-rounds.ensures)) in
          subst (λ (m : ℕ). IsNotedRound g.N.DeadlockNotes.noted m (vec_len c.args.self.now.lockers + 1) (c.loop-round.round + 1) c.args.session c.args.place st c.doom.new.self c.args.notes.now c.note.new.self) (sym c.saturating_sub-coming.ensures)
          (noted-round g.N.DeadlockNotes.noted c.loop-round.coming c.coming-coming.result (vec_len c.args.self.now.lockers + 1) c.loop-round.round c.args.session c.in-Some.chosen c.args.place st d c.doom.new.self c.args.notes.now c.loop-round.notes c.note.new.self n
          (next-round (vec_len c.args.self.now.lockers + 1) c.loop-round.round c.args.session c.in-Some.chosen st _ c.doom.new.self again lt f.0 f.1 c.doom.ensures.doomed)
          refl lt f.0 f.1 c.coming-coming.ensures.known sure
          (subst (λ l. IsNotedAhead g.N.DeadlockNotes.noted (c.coming-coming.result - 1) (moments_at c.args.place c.args.session (r.state ∷ [])) l c.note.new.self) c.coming-coming.ensures.same (c.note.ensures.noted r.state r.sound again.shows f.1)));
    }

pub loop-round-init : goal.loop-round-init
loop-round-init g c = record {
  kept = record { whole = c.requires.may_serve.whole; lockers = refl; ready = c.requires.may_serve.ready };
  count = refl;
  waits_ended = waits_ended-none 0 c.args.self.now;
  fits = c.requires.fits;
  rounds = λ st i j h.
      let n = vec_len c.args.self.now.lockers + 1 in
      let all : vec_len c.args.self.now.lockers + 1 ≡ vec_len c.args.self.now.lockers + 1 - 0 = omega arith in
      noted-begun g.N.DeadlockNotes.noted n c.args.session c.args.place st c.args.self.now c.args.notes.now
      (record { state = st; shows = h; sound = i; numbered = j; same = ap (λ (m : ℕ). after_victims m c.args.session st) all }) refl;
}

pub returns-clause-settled : goal.returns-clause-settled
returns-clause-settled g c = λ st i j h.
    let k = c.loop-round.invariant in
    let le : vec_len c.args.self.now.lockers + 1 ≤ c.loop-round.round = omega (arith, c.loop-round-test.false, c.len-rounds.ensures) in
    shown-end (vec_len c.args.self.now.lockers + 1) c.loop-round.round c.args.session st c.loop-round.self (k.rounds st i j h).round le

pub returns-clause-noted : goal.returns-clause-noted
returns-clause-noted g c = λ st i j h.
    let k = c.loop-round.invariant in
    let le : vec_len c.args.self.now.lockers + 1 ≤ c.loop-round.round = omega (arith, c.loop-round-test.false, c.len-rounds.ensures) in
    noted-end g.N.DeadlockNotes.noted g.met.N.DeadlockNotes.none c.loop-round.coming (vec_len c.args.self.now.lockers + 1) c.loop-round.round c.args.session c.args.place st c.loop-round.self c.args.notes.now c.loop-round.notes (k.rounds st i j h) le
