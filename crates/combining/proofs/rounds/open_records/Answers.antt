use Rattle.std.proofs.Common.{rules, ◌≡◌, ◌<◌, ◌≤◌, ◌∙◌, Bool, true, false, refl, [], length, vec_len, sym, subst, arith}
use Rattle.publication.specs.declared.slot.Load.{Load}
use Rattle.combining.specs.inner.BoundedPasses.{IsWithin}
use Rattle.std.proofs.lemmas.List.{nil_from_length}
use Rattle.combining.proofs.RoundWeights.{within-none, within-further, never-filled}
use Rattle.combining.proofs.OpenedCount.{row-few}
use Rattle.sequential.specs.declared.entry.TheConstants.{MAX_SESSIONS}
use Rattle.combining.proofs.rounds.open_records.Goals as goal

pub open_listed-requires-clause-within : goal.open_listed-requires-clause-within
open_listed-requires-clause-within g c =
    let old = c.args.load.now in
    let e = c.open_weighed.ensures in
    let len : vec_len old.row ≡ 0 = c.requires.row.0 in
    let long : vec_len old.row ≡ length old.row.items = search rules in
    let none : old.row.items ≡ [] = nil_from_length old.row.items (sym long ∙ len) in
    let room : vec_len old.row < c.args.bound.calls = omega (arith, len, c.requires.some.0) in
    subst (λ (l : Load _ _ _). IsWithin g.T.Listener.weight c.args.bound (g.O.Sequential.history l.object) c.open_weighed.new.load.row c.open_weighed.new.opening.weight) (sym e.load)
    (within-further g.T.Listener.weight c.args.bound (g.O.Sequential.history old.object) old.row c.open_weighed.new.load.row 0 c.open_weighed.new.opening.weight c.number-own.result
    (within-none g.T.Listener.weight c.args.bound (g.O.Sequential.history old.object) old.row none len c.requires.some.1) room c.requires.some.1 e.grows e.opened)

pub returns-clause-all : goal.returns-clause-all
returns-clause-all g c unmet =
    let n = c.args.board.now.sessions in
    let row = c.open_listed.new.load.row in
    let e = c.open_listed.ensures in
    let few : length row.items ≤ n = row-few n c.open_listed.new.session.opened row.items e.row in
    let long : vec_len row ≡ length row.items = search rules in
    let many : n ≤ MAX_SESSIONS = omega (arith, c.requires.sessions, c.sessions-sessions.ensures.sessions, c.sessions-sessions.ensures.few) in
    not-true _ (λ is. never-filled g.T.Listener.weight c.args.bound _ row c.open_listed.new.opening.weight n e.within unmet few long many (e.filled is))
  where
    not-true : (b : Bool) → (b ≡ true → ⊥) → b ≡ false
    not-true true never = absurd (never refl)
    not-true false never = refl
