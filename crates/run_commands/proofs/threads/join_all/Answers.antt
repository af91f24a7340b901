use Rattle.std.proofs.Common.{arith, append-nil, append_assoc, length, ap, ap₂, sym, ◌≡◌, ◌∙◌, ◌++◌, ◌∷◌, [], ℕ, List, subst}
use Rattle.std.specs.List.{All}
use Rattle.std.specs.Vec.Iter.{into_iter_items}
use Rattle.std.proofs.lemmas.List.{map-append, nil_from_length}
use Rattle.std.proofs.lemmas.List.Elements.{All-head, All-push, All-rest, All-same}
use Rattle.lock_office.specs.ProgramBoards.{TicketView}
use Rattle.run_commands.specs.Workers.{IsPerformed, IsStart, number_of_start, numbers_of, numbers_of_starts}
use Rattle.run_commands.proofs.threads.join_all.Goals as goal

pub loop-start-preserved : goal.loop-start-preserved
loop-start-preserved g c =
    let inv = c.loop-start.invariant in
    let back = c.append_finished-reason.ensures.done in
    let start = c.in-Some.start in
    let before = into_iter_items c.loop-start.start-iterator in
    let left = into_iter_items c.next.new.self in
    let step : before ≡ start ∷ left = c.in-Some.ensures.steps.0 in
    record {
      all = λ none. inv.all (back none).0;
      whole = append_assoc c.loop-start.yielded (start ∷ []) left ∙ rw (← step) inv.whole;
      count = let was = inv.count in let gone = c.in-Some.ensures.steps.1 in let short = ap length step in omega arith;
      rest = λ office rows are. All-rest (IsStart office rows) start left before step (inv.rest office rows are);
      numbers = λ office rows are none.
          let is_start : IsStart office rows start = All-head (IsStart office rows) start left (All-same (IsStart office rows) (start ∷ left) before (sym step) (inv.rest office rows are)) in
          let work = c.join.ensures office rows is_start (back none).1 in
          ap numbers_of (back none).2
          ∙ map-append (λ (s : TicketView). s.number) c.loop-start.done.items (c.join.result.session ∷ [])
          ∙ ap₂ (λ (xs ys : List ℕ). xs ++ ys) (inv.numbers office rows are (back none).0) (ap (λ (n : ℕ). n ∷ []) work.0)
          ∙ sym (map-append number_of_start c.loop-start.yielded (start ∷ []));
      performed = λ office rows are none.
          let is_start : IsStart office rows start = All-head (IsStart office rows) start left (All-same (IsStart office rows) (start ∷ left) before (sym step) (inv.rest office rows are)) in
          let work = c.join.ensures office rows is_start (back none).1 in
          subst (All (IsPerformed office rows)) (sym (back none).2)
          (All-push (IsPerformed office rows) c.loop-start.done.items c.join.result.session (inv.performed office rows are (back none).0) work.1);
    }

pub returns-in-None-reason-clause-numbers : goal.returns-in-None-reason-clause-numbers
returns-in-None-reason-clause-numbers g c = λ office rows are.
    let at = c.loop-start in
    let empty : into_iter_items at.start-iterator ≡ [] = nil_from_length _ (sym at.invariant.count ∙ c.in-None.ensures.steps.0) in
    let all : at.yielded ≡ c.args.started.items = sym (append-nil at.yielded) ∙ rw empty at at.invariant.whole in
    at.invariant.numbers office rows are c.in-None-reason.is ∙ ap numbers_of_starts all

pub returns-in-None-reason-clause-performed : goal.returns-in-None-reason-clause-performed
returns-in-None-reason-clause-performed g c = λ office rows are. c.loop-start.invariant.performed office rows are c.in-None-reason.is
