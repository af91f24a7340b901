use Rattle.std.proofs.Common.{rules, ◌≡◌, ◌∙◌, ◌+◌, ◌-◌, ◌^◌, max, ◌<◌, ◌≤◌, ◌++◌, ◌∷◌, List, [], take, drop, min, length, sym, ap, subst, arith}
use mathlib.Core.List.{IsPrefix}
use Rattle.sequential.specs.declared.trimmed_list.TheConstants.{NO_BOUND}
use Rattle.sequential.specs.declared.entry.Entry.{Entry}
use Rattle.publication.specs.declared.piece.Piece.{Piece}
use Rattle.publication.proofs.PieceLaws.{one_more_in_order, one_more_in_a_row}
use Rattle.combining.specs.declared.office.taking.HistoryPiece.{HistoryPiece}
use Rattle.combining.specs.Sessions.{HasTakenPiece}
use Rattle.std.proofs.lemmas.List.{length-drop}
use Rattle.combining.proofs.TakenPieces.{noted_one, first_ones}
use Rattle.combining.proofs.office.Office.take_oldest.Goals as goal

pub release-requires-clause-home : goal.release-requires-clause-home
release-requires-clause-home g c =
    let old = c.in-Some.load.value in
    let home = c.in-Some.ensures.home in
    let first = c.kept_from-first.result in
    let count = c.min-count.result in
    let p : Piece = record { session = c.number.result; first = first; count = count } in
    let now = c.deref_mut-2.result.now in
    let items : c.push.new.self.items ≡ old.pieces.items ++ p ∷ [] = search rules in
    let gone : (g.O.Sequential.cut now.object) ≡ first + c.let_go.result = search rules in
    let least : c.let_go.result ≡ min count (length (g.O.Trimming.lines (g.O.Sequential.history old.object)) - first) = search rules in
    let few : count ≤ length (drop first (g.O.Trimming.lines (g.O.Sequential.history old.object))) = search rules in
    let cut : (g.O.Sequential.cut now.object) ≡ first + count = omega (arith, gone, least, few, length-drop first (g.O.Trimming.lines (g.O.Sequential.history old.object))) in
    let place : first ≡ max (g.O.Sequential.cut old.object) (length (g.O.Trimming.lines (g.O.Sequential.history old.object)) - (g.O.Sequential.bound old.object).lines) = search rules in
    let short : length (g.O.Trimming.lines (g.O.Sequential.history old.object)) < 2 ^ 64 = search rules in
    let ages_same : now.ages.items ≡ old.ages.items = search rules in
    let passes_same : now.passes ≡ old.passes = search rules in
    record {
      history = search rules;
      sessions = search rules;
      empty = search rules;
      room = search rules;
      ages = search rules;
      past = λ i. rw (ages_same, passes_same) (home.past i);
      pieces = rw (items, cut) (one_more_in_order 0 (g.O.Sequential.cut old.object) old.pieces.items p home.pieces (omega (arith, place)));
      in_a_row = λ unbound. let none : (g.O.Sequential.bound old.object).lines ≡ NO_BOUND = search rules in
          rw (items, cut) (one_more_in_a_row 0 (g.O.Sequential.cut old.object) old.pieces.items p (home.in_a_row none) (omega (arith, place, none, short)));
    }

pub returns-clause-some : goal.returns-clause-some
returns-clause-some g c piece is =
    let before = c.args.session.now in
    let after = c.release.new.ticket in
    let old = c.in-Some.load.value in
    let seized = c.in-Some.ensures in
    let h : List (Entry _ _) = g.O.Sequential.history old.object in
    let all : List _ = g.O.Trimming.lines h in
    let first = c.kept_from-first.result in
    let taken : List _ = c.extend_from_slice.new.self.items in
    let p : Piece = record { session = before.number; first = first; count = length taken } in
    let items : c.push.new.self.items ≡ old.pieces.items ++ p ∷ [] = search rules in
    let front : after.front ≡ h = search rules in
    let within : first ≤ length all = search rules in
    let count = c.min-count.result in
    let few : count ≤ length (drop first all) = search rules in
    let part : taken ≡ take count (drop first all) = search rules in
    let which = first_ones all taken first count within few part in
    let took : HasTakenPiece g.O.Sequential g.O.Trimming.lines before after first taken = record {
      session = noted_one before c.seize.new.ticket after h old.pieces.items c.push.new.self.items p (search rules) c.release.ensures.ticket seized.lacked c.requires.ours.no_walk seized.untaken items;
      longer = subst (IsPrefix before.front) (sym front) seized.longer;
      legal = subst g.O.Sequential.is_legal (sym front) seized.legal;
      lines_are = which.0 ∙ ap (λ (l : List (Entry _ _)). take (length taken) (drop first (g.O.Trimming.lines l))) (sym front);
      within = omega (arith, which.1, ap (λ (l : List (Entry _ _)). length (g.O.Trimming.lines l)) front);
    } in
    let same : record { first = first; lines = c.extend_from_slice.new.self; written = first + length c.kept-kept.result.now } ≡ piece = cc is in
    subst (λ (q : HistoryPiece _). HasTakenPiece g.O.Sequential g.O.Trimming.lines before after q.first q.lines.items) same took
