use Rattle.std.proofs.Common.{rules, ◌≡◌, ◌≤◌, ◌∙◌, false, ℕ, List, get_or, length, take, drop, vec_len, subst, arith, sym, ap}
use Rattle.std.proofs.lemmas.Grind.{common_steps}
use Rattle.std.proofs.Math.Seq.{take-length}
use Rattle.sequential.specs.declared.entry.Entry.{Entry}
use Rattle.sequential.specs.Batches.{asked_by, asked_in}
use Rattle.publication.specs.declared.slot.Load.{Load}
use Rattle.combining.specs.Rounds.{IsLight, IsRound, IsFull, weight_of}
use Rattle.combining.specs.inner.BoundedPasses.{IsFilled}
use Rattle.combining.proofs.RoundWeights.{round-made, round-full}
use Rattle.publication.specs.Views.{TicketView}
use Rattle.combining.specs.inner.Ages.{sessions_since, noted}
use Rattle.combining.proofs.NotedAges.{noted-past}
use Rattle.combining.proofs.PerformedCalls.{in-hand}
use Rattle.combining.proofs.SameSession.{passed, cleaned}
use Rattle.combining.proofs.rounds.make_round.Goals as goal

pub returns-clause-pass : goal.returns-clause-pass
returns-clause-pass g c =
    let before = c.args.session.now in
    let opened = c.open_records-left.new.session in
    let after = c.close_round_if_any-pass.new.session in
    let served = c.close_round_if_any-pass.result.served in
    cleaned before after c.clean_up.new.session served
    (passed before opened after served c.open_records-left.ensures.session.0 c.close_round_if_any-pass.ensures.served.session c.requires.work.none c.close_round_if_any-pass.ensures.served.none) c.clean_up.ensures.session

pub returns-clause-work : goal.returns-clause-work
returns-clause-work g c =
    let old = c.args.load.now in
    let load = c.close_round_if_any-pass.new.load in
    let after = c.close_round_if_any-pass.new.session in
    let since = sessions_since (length c.args.session.now.front) c.clean_up.new.session.front in
    let ages : load.ages.items ≡ noted old.ages.items since load.passes = search rules in
    let rises : old.passes ≤ load.passes = search rules in
    let none = c.close_round_if_any-pass.ensures.served.taken in
    let opened = c.open_records-left.ensures.load in
    let pieces_are : load.pieces.items ≡ old.pieces.items = none.pieces ∙ ap (λ (l : Load _ _ _). l.pieces.items) opened in
    let cut_is : g.O.Sequential.cut load.object ≡ g.O.Sequential.cut old.object = none.cut ∙ ap (λ (l : Load _ _ _). g.O.Sequential.cut l.object) opened in
    let same_bound : g.O.Sequential.bound load.object ≡ g.O.Sequential.bound old.object = none.bound ∙ ap (λ (l : Load _ _ _). g.O.Sequential.bound l.object) opened in
    record {
      ours = search rules;
      has_object = search rules;
      none = search rules;
      number = search rules;
      home = record {
        history = in-hand c.args.board.now.sessions load.object after c.close_round_if_any-pass.ensures.served.in_hand ∙ sym (ap (λ (t : TicketView _ _). t.front) c.clean_up.ensures.session);
        sessions = search rules;
        empty = search rules;
        room = search rules;
        ages = search rules;
        past = λ i. subst (λ (l : List ℕ). get_or l i 0 ≤ load.passes) (sym ages) (noted-past old.ages.items since load.passes (λ n. omega (arith, c.requires.work.home.past n, rises)) i);
        pieces = rw (pieces_are, cut_is) c.requires.work.home.pieces;
        in_a_row = rw (pieces_are, cut_is, same_bound) c.requires.work.home.in_a_row;
      };
      bound_is = same_bound ∙ c.requires.work.bound_is;
      legal = search rules;
    }

pub returns-clause-round : goal.returns-clause-round
returns-clause-round g c fed =
    let opened = c.open_records-left.new.session in
    let load = c.open_records-left.new.load in
    let row = load.row.items in
    let within = c.open_records-left.ensures.within in
    let after = c.close_round_if_any-pass.new.session in
    let pass = c.close_round_if_any-pass in
    let e = pass.ensures.served in
    let long : vec_len load.row ≡ length row = search rules in
    let unstarved : pass.result.starved ≡ false = search rules in
    let all : pass.result.served ≡ vec_len load.row = grind (arith, common_steps, unstarved, e.starved_is, e.few) in
    let asked : asked_in (drop (length opened.front) after.front) ≡ asked_by row = e.asked ∙ (ap (λ (n : ℕ). asked_by (take n row)) (all ∙ long) ∙ ap asked_by (take-length row)) in
    let history : g.O.Sequential.history c.args.load.now.object ≡ opened.front = c.requires.work.home.history ∙ sym c.open_records-left.ensures.session.1 in
    let light : IsLight g.T.Listener.weight c.args.bound.weight opened.front (asked_by row) = subst (λ (f : List (Entry _ _)). IsLight g.T.Listener.weight c.args.bound.weight f (asked_by row)) history within.1.light in
    let round = round-made g.T.Listener.weight c.args.bound opened.front after.front row pass.result.served e.longer e.session.count asked (omega (arith, all, within.1.few)) light in
    subst (λ (f : List (Entry _ _)). IsRound g.T.Listener.weight c.args.bound f c.clean_up.new.session.front) c.open_records-left.ensures.session.1
    (subst (λ (f : List (Entry _ _)). IsRound g.T.Listener.weight c.args.bound opened.front f) (sym (ap (λ (t : TicketView _ _). t.front) c.clean_up.ensures.session)) round)

pub returns-clause-full : goal.returns-clause-full
returns-clause-full g c fed left =
    let opened = c.open_records-left.new.session in
    let load = c.open_records-left.new.load in
    let row = load.row.items in
    let within = c.open_records-left.ensures.within in
    let after = c.close_round_if_any-pass.new.session in
    let pass = c.close_round_if_any-pass in
    let e = pass.ensures.served in
    let long : vec_len load.row ≡ length row = search rules in
    let unstarved : pass.result.starved ≡ false = search rules in
    let all : pass.result.served ≡ vec_len load.row = grind (arith, common_steps, unstarved, e.starved_is, e.few) in
    let asked : asked_in (drop (length opened.front) after.front) ≡ asked_by row = e.asked ∙ (ap (λ (n : ℕ). asked_by (take n row)) (all ∙ long) ∙ ap asked_by (take-length row)) in
    let history : g.O.Sequential.history c.args.load.now.object ≡ opened.front = c.requires.work.home.history ∙ sym c.open_records-left.ensures.session.1 in
    let weighed : within.0 ≡ weight_of g.T.Listener.weight opened.front (asked_by row) = within.1.weight_is ∙ ap (λ (f : List (Entry _ _)). weight_of g.T.Listener.weight f (asked_by row)) history in
    let filled : IsFilled c.args.bound pass.result.served within.0 = subst (λ (n : ℕ). IsFilled c.args.bound n within.0) (sym all) (within.2 left) in
    let full = round-full g.T.Listener.weight c.args.bound opened.front after.front row pass.result.served within.0 e.longer e.session.count asked weighed filled in
    subst (λ (f : List (Entry _ _)). IsFull g.T.Listener.weight c.args.bound pass.result.served f) (sym (ap (λ (t : TicketView _ _). t.front) c.clean_up.ensures.session)) full
