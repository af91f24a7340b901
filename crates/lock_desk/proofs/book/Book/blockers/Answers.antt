use Rattle.std.proofs.Common.{rules, ◌≡◌, ◌+◌, ◌++◌, ◌∷◌, [], ◌∙◌, ℕ, Bool, List, length, refl, sym, ap, arith, length-append}
use Rattle.lock_rules.specs.Legal.{state_of}
use Rattle.lock_rules.specs.State.{is_waiting}
use Rattle.lock_rules.specs.Waits.{waits_for}
use Rattle.lock_desk.specs.BookView.{BookView}
use Rattle.lock_desk.specs.Queries.{blockers_among}
use Rattle.lock_table.proofs.Simulation.{waits-shown}
use Rattle.lock_desk.proofs.Blockers.{over, entered, skipped, one-written, none-written, nobody}
use Rattle.lock_desk.proofs.BookInvariant.{behind}
use Rattle.lock_desk.proofs.book.Book.blockers.Goals as goal
use Rattle.lock_desk.proofs.book.Book.blockers.Goals.{then-waits_for, else-waits_for}

-- nobody blocks a session that doesn't wait
none-block : (c : goal.Then-not-is_waiting) → blockers_among c.args.self.now.sessions (state_of c.args.self.now.history).table c.args.session ≡ []
none-block c = nobody (state_of c.args.self.now.history) c.args.session c.args.self.now.sessions
    (sym (ap (λ (t : BookView). is_waiting (state_of t.history) c.args.session) c.self.view_is)
    ∙ (sym (waits-shown c.deref.result.now (state_of c.self.inside.history.items) c.args.session (behind c.self.inside c.deref.result.now c.deref.ensures c.self.invariant).whole (behind c.self.inside c.deref.result.now c.deref.ensures c.self.invariant).shows)
    ∙ (sym c.is_waiting.ensures ∙ c.if-not-is_waiting.true)))

pub returns-then-not-is_waiting-clause-count : goal.returns-then-not-is_waiting-clause-count
returns-then-not-is_waiting-clause-count c = sym (ap length (none-block c))

pub returns-then-not-is_waiting-clause-list : goal.returns-then-not-is_waiting-clause-list
returns-then-not-is_waiting-clause-list c = none-written c.args.list.now ∙ ap (λ (l : List ℕ). over l c.args.list.now) (sym (none-block c))

pub loop-before-init : goal.loop-before-init
loop-before-init c = record { counted = refl; written = none-written c.args.list.now; few = omega arith; long = refl }

pub loop-before-preserved : goal.loop-before-preserved
loop-before-preserved c =
    let i = c.loop-before.invariant in
    let waits : ℕ → Bool = waits_for (state_of c.args.self.now.history).table c.args.session in
    let n = c.loop-before.before in
    let all = blockers_among n (state_of c.args.self.now.history).table c.args.session in
    elim c.if-waits_for.branch [
      | then-waits_for w ↦
          let on : all ++ (n + 1) ∷ [] ≡ blockers_among (n + 1) (state_of c.args.self.now.history).table c.args.session = entered waits n all (all ++ (n + 1) ∷ []) refl (search rules) refl in
          record {
            counted = w.count-is ∙ (ap (λ (k : ℕ). k + 1) i.counted ∙ (sym (length-append all ((n + 1) ∷ [])) ∙ ap length on));
            written = one-written all c.args.list.now c.loop-before.list c.if-waits_for.list c.loop-before.count (n + 1) i.long i.counted i.written (w.list-is ∙ w.write_at.ensures) ∙ ap (λ (l : List ℕ). over l c.args.list.now) on;
            few = search rules;
            long = c.if-waits_for.auto.list ∙ i.long;
          }
      | else-waits_for w ↦
          let on : all ≡ blockers_among (n + 1) (state_of c.args.self.now.history).table c.args.session = skipped waits n all refl (search rules) in
          record {
            counted = w.count-is ∙ (i.counted ∙ ap length on);
            written = w.list-is ∙ (i.written ∙ ap (λ (l : List ℕ). over l c.args.list.now) on);
            few = search rules;
            long = c.if-waits_for.auto.list ∙ i.long;
          }
    ]
