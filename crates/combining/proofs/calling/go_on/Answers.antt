use Rattle.std.proofs.Common.{◌∙◌, arith}
use mathlib.Core.Logic.{dite}
use native.Mathlib.Decide.{ℕ_discrete}
use Rattle.combining.proofs.EndedWaits.{told-on}
use Rattle.combining.proofs.Turns.{waiting-trans, waiting-on, on-trans}
use Rattle.combining.proofs.calling.go_on.Goals as goal

pub returns-in-Answered-clause-told : goal.returns-in-Answered-clause-told
returns-in-Answered-clause-told g c =
    let n = c.args.office.now.sessions in
    let i = c.loop-looked.invariant in
    let e = c.look.ensures in
    told-on n c.args.session.now c.loop-looked.session c.look.new.session (g.T.Listener.list c.args.listener.now) (g.T.Listener.list c.loop-looked.listener) (g.T.Listener.list c.look.new.listener) i.waits.entered e.awaited.on.longer e.awaited.on.entered i.told e.told

pub returns-in-Answered-clause-on : goal.returns-in-Answered-clause-on
returns-in-Answered-clause-on g c = on-trans c.args.session.now c.loop-looked.session c.look.new.session (waiting-on c.args.session.now c.loop-looked.session c.loop-looked.invariant.waits) c.look.ensures.awaited.on

pub returns-in-Starved-clause-told : goal.returns-in-Starved-clause-told
returns-in-Starved-clause-told g c =
    let n = c.args.office.now.sessions in
    let i = c.loop-looked.invariant in
    let e = c.look.ensures in
    told-on n c.args.session.now c.loop-looked.session c.look.new.session (g.T.Listener.list c.args.listener.now) (g.T.Listener.list c.loop-looked.listener) (g.T.Listener.list c.look.new.listener) i.waits.entered e.awaited.on.longer e.awaited.on.entered i.told e.told

pub returns-in-Starved-clause-on : goal.returns-in-Starved-clause-on
returns-in-Starved-clause-on g c = on-trans c.args.session.now c.loop-looked.session c.look.new.session (waiting-on c.args.session.now c.loop-looked.session c.loop-looked.invariant.waits) c.look.ensures.awaited.on

pub loop-looked-preserved : goal.loop-looked-preserved
loop-looked-preserved g c =
    let n = c.args.office.now.sessions in
    let t = c.args.session.now in
    let u = c.loop-looked.session in
    let v = c.look.new.session in
    let i = c.loop-looked.invariant in
    let e = c.look.ensures in
    record {
      ours = e.ours;
      waits = waiting-trans t u v i.waits (e.awaited.waits c.in-Wait.is);
      others = λ _. dite (ℕ_discrete c.loop-looked.looked 0) (λ none. e.others c.in-Wait.is (c.tries_at.ensures none)) (λ some. i.others (omega (arith, some)));
      told = told-on n t u v (g.T.Listener.list c.args.listener.now) (g.T.Listener.list c.loop-looked.listener) (g.T.Listener.list c.look.new.listener) i.waits.entered e.awaited.on.longer e.awaited.on.entered i.told e.told;
      room = e.room ∙ i.room;
      notes = λ before. e.notes_waits c.in-Wait.is (i.notes before);
    }

pub returns-clause-on : goal.returns-clause-on
returns-clause-on g c = waiting-on c.args.session.now c.loop-looked.session c.loop-looked.invariant.waits
