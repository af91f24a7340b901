use Rattle.std.proofs.Common.{rules, ◌≡◌, ◌∙◌, ◌+◌, ◌++◌, ℕ, List, length, drop, length-append, sym, ap, subst, arith}
use Rattle.std.specs.List.{range_with_len}
use mathlib.Core.List.{IsPrefix}
use Rattle.sequential.specs.declared.entry.Entry.{Entry}
use Rattle.publication.specs.Views.{TicketView}
use Rattle.combining.specs.Woken.{HasAddedTold}
use Rattle.combining.proofs.TakenPieces.{made, tried-front, tried-rest}
use Rattle.combining.proofs.office.Office.make_pass.Goals as goal

pub returns-clause-made : goal.returns-clause-made
returns-clause-made g c =
    let before = c.args.session.now in
    let between = c.enlist.new.session in
    let seized = c.in_ok-load.ensures in
    let old = c.in_ok-load.load.value in
    let pass = c.make_rounds-pass in
    let last = pass.new.session in
    let rounds = pass.ensures.rounds.2 in
    let rest = tried-rest before between c.enlist.ensures.tried in
    let longer : IsPrefix between.front (g.O.Sequential.history old.object) = seized.longer in
    let at : c.seize.new.ticket.front ≡ g.O.Sequential.history old.object = ap (λ (t : TicketView _ _). t.front) seized.ticket in
    let whole : IsPrefix (g.O.Sequential.history old.object) last.front = subst (λ (l : List (Entry _ _)). IsPrefix l last.front) at rounds.longer in
    let known : (g.O.Sequential.history old.object) ≡ before.front ++ longer.0 = sym longer.1 ∙ ap (λ (l : List (Entry _ _)). l ++ longer.0) (tried-front before between c.enlist.ensures.tried) in
    let front : last.front ≡ (before.front ++ longer.0) ++ whole.0 = sym whole.1 ∙ ap (λ (l : List (Entry _ _)). l ++ whole.0) known in
    let count : length last.front ≡ length (g.O.Sequential.history old.object) + pass.result.served = rounds.passed.count ∙ ap (λ (l : List (Entry _ _)). length l + pass.result.served) at in
    let same : pass.new.load.pieces.items ≡ old.pieces.items = search rules in
    record {
      between = between;
      is_tried = c.enlist.ensures.tried;
      session = made between c.seize.new.ticket last (g.O.Sequential.history old.object) old.pieces.items pass.new.load.pieces.items (search rules) rounds.passed.session same;
      lacked = (seized.lacked, rest.1 ∙ c.requires.ours.no_walk, seized.untaken);
      others = longer.0;
      own = whole.0;
      front = front;
      count = omega (arith, count, ap (λ (l : List (Entry _ _)). length l) whole.1, length-append (g.O.Sequential.history old.object) whole.0);
      entered = rounds.passed.entered ∙ (ap (λ (t : TicketView _ _). t.entered ++ range_with_len (length t.front) pass.result.served) seized.ticket
          ∙ ap (λ (k : List ℕ × List (Entry _ _)). k.0 ++ range_with_len (length k.1) pass.result.served) (two rest.2 known));
      home = search rules;
      legal = search rules;
    }
  where
    two : {A B : Type 0} {a a' : A} {b b' : B} → a ≡ a' → b ≡ b' → ◌≡◌ {A = A × B} (a, b) (a', b')
    two x y = cc (x, y)

pub returns-clause-told : goal.returns-clause-told
returns-clause-told g c =
    let before = c.args.session.now in
    let seized = c.in_ok-load.ensures in
    let last = c.make_rounds-pass.new.session in
    let rest = tried-rest before c.enlist.new.session c.enlist.ensures.tried in
    let n = c.self.inside.board.sessions in
    let same : n ≡ c.args.self.now.sessions = search rules in
    let entered = ap (λ (t : TicketView _ _). t.entered) seized.ticket ∙ rest.2 in
    let told = subst (λ (l : List ℕ). HasAddedTold g.T.Listener.ends n last.front (drop (length l) last.entered) (g.T.Listener.list c.args.listener.now) (g.T.Listener.list c.make_rounds-pass.new.listener)) entered c.make_rounds-pass.ensures.told in
    subst (λ (m : ℕ). HasAddedTold g.T.Listener.ends m last.front (drop (length before.entered) last.entered) (g.T.Listener.list c.args.listener.now) (g.T.Listener.list c.make_rounds-pass.new.listener)) same told
