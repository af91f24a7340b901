use Rattle.std.proofs.Common.{rules, ◌≡◌, ℕ, ◌+◌, ◌≤◌, Bool, true, false, cond, List, Option, Some, drop, is_some, leb, ◌&&◌, sym, ap, subst, ◌∙◌, arith}
use Rattle.std.proofs.lemmas.Bool.{and_parts}
use Rattle.std.proofs.lemmas.Bool.Decides.{nat_tests}
use Rattle.lock_modes.specs.declared.Mode.{Mode}
use Rattle.lock_rules.specs.State.{holders}
use Rattle.lock_rules.specs.Legal.{state_of}
use Rattle.lock_rules.proofs.Lists.{seek, mode_in-seek}
use Rattle.lock_rules.proofs.Steps.{state-lawful}
use Rattle.lock_explain.specs.Waiting.{blocker_of, waiting_state}
use Rattle.lock_explain.specs.inner.Asked.{claim_of}
use Rattle.lock_explain.specs.inner.Holders.{mode_of_first}
use Rattle.lock_explain.proofs.HoldersInTurn.{AreBehind, from-first, first-told, behind-next}
use Rattle.lock_explain.proofs.SessionsOfAHistory.{all-inside}
use Rattle.lock_explain.proofs.waiting.blockers_of.Goals as goal
use Rattle.lock_rules.proofs.Ranges.{session-more}

pub loop-position-init : goal.loop-position-init
loop-position-init c =
    let es = c.args.before.now.history in
    let t = (state_of es).table in
    let r = c.args.asked.resource in
    let hs = holders r t.held in
    let all : c.holders.new.list.items ≡ hs = search rules in
    let some : (u : ℕ) (m : Mode) → seek u hs ≡ Some m → 1 ≤ u = λ u m e.
    let inside : (leb 1 u && leb u c.args.before.now.sessions) ≡ true = (all-inside c.args.before.now.sessions es c.history-history.ensures.within).holding u r m (mode_in-seek u r t.held ∙ e) in
    let one : leb 1 u ≡ true = (and_parts (leb 1 u) (leb u c.args.before.now.sessions) inside).0 in
    grind (arith, nat_tests, one) in
    record {
      told = c.new-blockers.ensures.items;
      all = all;
      behind = subst (AreBehind hs 0) (sym all) (from-first hs ((state-lawful es).sound.order r) some);
      few = omega arith;
    }

pub add_blocker-requires-clause-held : goal.add_blocker-requires-clause-held
add_blocker-requires-clause-held c =
    let p = c.loop-position.position in
    let t = (state_of c.args.before.now.history).table in
    let r = c.args.asked.resource in
    let items : c.deref.result.now ≡ c.holders.new.list.items = search rules in
    c.held_next-held.ensures
    ∙ ap (λ (l : List (ℕ × Mode)). mode_of_first (p + 1) (drop c.loop-position.next l)) items
    ∙ first-told (holders r t.held) p (drop c.loop-position.next c.holders.new.list.items) c.loop-position.invariant.behind
    ∙ sym (mode_in-seek (p + 1) r t.held)

pub loop-position-preserved : goal.loop-position-preserved
loop-position-preserved c =
    let p = c.loop-position.position in
    let n = c.loop-position.next in
    let inv = c.loop-position.invariant in
    let st = state_of c.args.before.now.history in
    let hs = holders c.args.asked.resource st.table.held in
    let all = c.holders.new.list.items in
    let items : c.deref.result.now ≡ all = search rules in
    let held : c.held_next-held.result ≡ mode_of_first (p + 1) (drop n all) = c.held_next-held.ensures ∙ ap (λ (l : List (ℕ × Mode)). mode_of_first (p + 1) (drop n l)) items in
    let next : c.behind_found-next.result ≡ cond (is_some (mode_of_first (p + 1) (drop n all))) (n + 1) n = c.behind_found-next.ensures ∙ ap (λ (o : Option Mode). cond (is_some o) (n + 1) n) held in
    let at_most : (b : Bool) → cond b (n + 1) n ≤ n + 1 = λ b. cases-few b n in
    record {
      told = session-more (blocker_of (waiting_state st (claim_of c.args.asked)) (claim_of c.args.asked)) p _ _ inv.told c.in_ok-add_blocker.ensures;
      all = inv.all;
      behind = subst (λ (k : ℕ). AreBehind hs (p + 1) (drop k all)) (sym next) (behind-next hs p n all inv.behind);
      few = let k = at_most (is_some (mode_of_first (p + 1) (drop n all))) in let m = inv.few in omega (arith, k, m, next);
    }
  where
    cases-few : (b : Bool) (n : ℕ) → cond b (n + 1) n ≤ n + 1
    cases-few true n = omega arith
    cases-few false n = omega arith
