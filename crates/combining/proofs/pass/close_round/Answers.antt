use Rattle.std.proofs.Common.{rules, ◌≡◌, ◌∙◌, ◌++◌, ℕ, List, take, drop, vec_len, length, sym, ap, subst, arith}
use Rattle.std.proofs.lemmas.Grind.{common_steps}
use Rattle.std.specs.Prelude.{All}
use Rattle.sequential.specs.declared.entry.Entry.{Entry}
use Rattle.sequential.specs.declared.entry.Item.{Item}
use Rattle.sequential.specs.Batches.{IsItemWithin, asked_in}
use Rattle.combining.specs.inner.Ages.{sessions_of, sessions_since, noted}
use Rattle.publication.specs.Views.{TicketView}
use Rattle.combining.proofs.SameSession.{after_row}
use Rattle.combining.proofs.CleanUpWalk.{first-within}
use Rattle.combining.proofs.pass.close_round.Goals as goal

pub note_served-requires : goal.note_served-requires
note_served-requires g c =
    let n = c.args.board.now.sessions in
    let row = c.serve_row-served.new.row.items in
    let served = c.serve_row-served.result in
    let all : All (IsItemWithin n) (take served row) = first-within n served row c.serve_row-served.ensures.within in
    let ages : n ≡ vec_len c.args.load.now.ages = search rules in
    let slice : row ≡ c.deref-2.result.now = search rules in
    record { within = subst (λ (l : List (Item _ _)). All (IsItemWithin (vec_len c.args.load.now.ages)) (take served l)) slice (subst (λ (m : ℕ). All (IsItemWithin m) (take served row)) ages all) }

pub returns : goal.returns
returns g c =
    let before = c.args.session.now in
    let after = c.serve_row-served.new.session in
    let last = c.put_back_row.new.session in
    let row = c.serve_row-served.new.row.items in
    let served = c.serve_row-served.result in
    let known = length before.front in
    let slice : row ≡ c.deref-2.result.now = search rules in
    let same : last.front ≡ after.front = ap (λ (t : TicketView _ _). t.front) c.put_back_row.ensures.session in
    let hand = c.serve_row-served.ensures.object in
    record {
      served = record {
        session = after_row before after last served last.put_backs c.serve_row-served.ensures.session
            (c.put_back_row.ensures.session ∙ ap (λ (n : ℕ). record after { opened = last.opened; put_backs = n }) (sym (ap (λ (t : TicketView _ _). t.put_backs) c.put_back_row.ensures.session))) c.put_back_row.ensures.wide;
        none = search rules;
        put_backs = search rules;
        in_hand = record {
          sessions_are = hand.sessions_are;
          entries = hand.entries;
          performed = hand.performed;
          history = hand.history ∙ ap (λ (l : List (Entry _ _)). l ++ hand.entries) (sym same);
        };
        longer = search rules;
        asked = ap (λ (l : List (Entry _ _)). asked_in (drop known l)) same ∙ c.serve_row-served.ensures.asked;
        legal = search rules;
        starved_is = search rules;
        few = search rules;
        calls = λ unstarved. grind (arith, common_steps, unstarved);
        room = search rules;
        passes = search rules;
        counts = (search rules, search rules);
        taken = search rules;
        ages = c.note_served.ensures.ages
            ∙ ap (λ (js : List ℕ). noted c.args.load.now.ages.items js c.args.load.now.passes)
            (ap (λ (l : List (Item _ _)). sessions_of (take served l)) (sym slice) ∙ (sym c.serve_row-served.ensures.whose ∙ ap (λ (f : List (Entry _ _)). sessions_since known f) (sym same)));
        len = search rules;
        tells = search rules;
      };
    }
