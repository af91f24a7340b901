use Rattle.std.proofs.Common.{◌∙◌, ℕ, List, length, ap, arith, subst}
use Rattle.combining.specs.Woken.{HasRoom}
use Rattle.combining.proofs.EndedWaits.{told-step}
use Rattle.combining.proofs.RoundWeights.{led-once}
use Rattle.combining.proofs.Places.{entered-step}
use Rattle.combining.proofs.rounds.make_round_telling.Goals as goal

pub add-requires : goal.add-requires
add-requires g c =
    let round = c.make_round-round in
    let sessions = round.ensures.work.home.sessions in
    record {
      tells = λ some. (length c.args.session.now.front, round.ensures.tells some);
      room = subst (λ (n : ℕ). HasRoom (g.T.Listener.room c.args.listener.now) n) (omega (arith, sessions)) c.requires.room;
    }

pub returns-clause-round : goal.returns-clause-round
returns-clause-round g c =
    let e = c.make_round-round.ensures in
    record {
      passed = e.pass;
      longer = e.longer;
      few = omega (arith, e.few);
      led = λ unstarved. led-once g.T.Listener.weight c.args.bound c.args.session.now.front c.make_round-round.new.session.front (e.round unstarved);
      full = e.full;
      all = e.all;
      put_back = e.put_back;
      kept = e.kept;
      own = e.own;
      heard = e.heard;
      taken = e.taken;
    }

pub returns-clause-told : goal.returns-clause-told
returns-clause-told g c =
    let round = c.make_round-round in
    let before = c.args.session.now.front in
    let home = round.ensures.work.home in
    let sessions = home.sessions in
    told-step c.args.board.now.sessions (g.O.Sequential.sessions round.new.load.object) (g.O.Sequential.history round.new.load.object) round.new.session.front (length before) round.result.served _ _ _
    home.history (omega (arith, sessions)) round.ensures.pass.count (entered-step c.args.session.now round.new.session _ round.ensures.pass.entered)
    (λ v. c.add.ensures.members (length before) v (λ some. round.ensures.tells some) (ap (λ (l : List _). length l) home.history ∙ round.ensures.pass.count)) c.add.ensures.once
