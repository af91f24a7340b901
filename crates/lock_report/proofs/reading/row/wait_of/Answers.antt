use Rattle.std.proofs.Common.{rules, ◌≡◌, ◌↔◌, ◌<◌, ◌^◌, ℕ, List, Some, None, subst, ◌∙◌}
use Rattle.std.proofs.lemmas.List.{take_rest}
use Rattle.lock_report.specs.StateRows.{others_text}
use Rattle.lock_report.proofs.ReadRows.{parted-at, wait-iff}
use Rattle.lock_report.proofs.reading.row.wait_of.Goals as goal

pub returns-in_err-first : goal.returns-in_err-first
returns-in_err-first c = λ w. (
  λ e. absurd cc,
  λ h.
      let few : c.args.sessions < 2 ^ 16 = search rules in
      let parts = parted-at c.args.sessions c.args.other.now c.front_of_plus-front.result w few c.front_of_plus-front.ensures.front h.0 h.2 in
      let none : c.session_of-2.result ≡ None = search rules in
      let read = (c.session_of-2.ensures w.wait.other).1 (h.0.0.1, parts.0) in
      absurd cc,
)

pub returns-in_err-others : goal.returns-in_err-others
returns-in_err-others c = λ w. (
  λ e. absurd cc,
  λ h.
      let few : c.args.sessions < 2 ^ 16 = search rules in
      let parts = parted-at c.args.sessions c.args.other.now c.front_of_plus-front.result w few c.front_of_plus-front.ensures.front h.0 h.2 in
      let none : c.others_of.result ≡ None = search rules in
      let read = (c.others_of.ensures w.others).1 (h.0.1, take_rest c.args.other.now c.front_of_plus-front.result ∙ parts.1) in
      absurd cc,
)

pub returns : goal.returns
returns c =
    let few : c.args.sessions < 2 ^ 16 = search rules in
    wait-iff c.args.sessions c.args.session.now c.args.other.now c.front_of_plus-front.result c.session_of.result c.session_of-2.result c.others_of.result c.in_ok-session.session c.in_ok-first.first c.in_ok-others.others
    c.session_of.ensures c.session_of-2.ensures
    (subst (λ (l : List ℕ). (x : ℕ) → (c.others_of.result ≡ Some x) ↔ ((x < 2 ^ 64) × (l ≡ others_text x))) (take_rest c.args.other.now c.front_of_plus-front.result) c.others_of.ensures) few c.front_of_plus-front.ensures.front (search rules) (search rules) (search rules)
