use Rattle.std.proofs.Common.{rules, tests, ◌≡◌, ◌<◌, ◌^◌, ◌+◌, [], length, inl, inr}
use Rattle.lock_report.proofs.ReadWhole.{parts-of, text-read, none-bad, none-unended, bad-in-all, open-end}
use Rattle.lock_report.proofs.reading.state.read_state.Goals as goal

pub returns-in_err-lists-clause-none : goal.returns-in_err-lists-clause-none
returns-in_err-lists-clause-none c = λ k e.
    let few : c.args.sessions < 2 ^ 16 = search rules in
    let parts = parts-of c.args.text.now c.in-Ok.lines.items c.deref.result.now c.in-Some.last (search rules) (search rules) in
    none-bad c.args.sessions c.args.text.now _ c.in-Some.last.now k few parts (c.rows_in_lines.ensures.bad k (search rules))

pub returns-in_err-lists-clause-line : goal.returns-in_err-lists-clause-line
returns-in_err-lists-clause-line c = λ k e.
    let parts = parts-of c.args.text.now c.in-Ok.lines.items c.deref.result.now c.in-Some.last (search rules) (search rules) in
    inl (bad-in-all c.args.sessions c.args.text.now _ c.in-Some.last.now k parts (c.rows_in_lines.ensures.bad k (search rules)))

pub returns-then-not-is_blank-clause-none : goal.returns-then-not-is_blank-clause-none
returns-then-not-is_blank-clause-none c = λ k e.
    let few : c.args.sessions < 2 ^ 16 = search rules in
    let parts = parts-of c.args.text.now c.in-Ok.lines.items c.deref.result.now c.in-Some.last (search rules) (search rules) in
    none-unended c.args.sessions c.args.text.now _ c.in-Some.last.now few parts (λ (none : c.in-Some.last.now ≡ []). search (rules, tests))

pub returns-then-not-is_blank-clause-line : goal.returns-then-not-is_blank-clause-line
returns-then-not-is_blank-clause-line c = λ k e.
    let parts = parts-of c.args.text.now c.in-Ok.lines.items c.deref.result.now c.in-Some.last (search rules) (search rules) in
    let lists = c.in_ok-lists.lists in
    let same : c.deref.result.now ≡ c.pop.new.self.items = search rules in
    let number : length c.deref.result.now + 1 ≡ k = cc in
    inr (open-end c.args.sessions c.args.text.now c.deref.result.now c.in-Some.last k lists parts number c.in_ok-lists.ensures.ok (λ (none : c.in-Some.last.now ≡ []). search (rules, tests)))

pub returns-clause-ok : goal.returns-clause-ok
returns-clause-ok c =
    let parts = parts-of c.args.text.now c.in-Ok.lines.items c.deref.result.now c.in-Some.last (search rules) (search rules) in
    let read = c.in_ok-lists.ensures.ok in
    (read.0, text-read c.args.text.now _ c.in-Some.last.now c.in_ok-lists.lists parts (c.is_blank.ensures.0 (search (rules, tests))) read.1)
