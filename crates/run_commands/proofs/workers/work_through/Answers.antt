use Rattle.std.proofs.Common.{arith, ap, sym, ◌≡◌, ◌≢◌, ◌∙◌, ◌<◌, ◌+◌, ◌++◌, ◌∷◌, [], ℕ, Bool, List, length, map, take, get_or, cond, eqb, append-nil, None, ◌≤◌, ◌*◌, suc, suc-mul, length-append}
use Rattle.std.specs.List.{filter}
use Rattle.std.proofs.lemmas.Bool.{eq-eqb, ne_eqb}
use Rattle.std.proofs.lemmas.List.{map-append}
use Rattle.std.proofs.lemmas.List.Elements.{filter_more}
use Rattle.lock_rules.specs.declared.calls.Call.{Call}
use Rattle.lock_trace.specs.declared.trace_row.TraceRow.{TraceRow}
use Rattle.run_commands.specs.Calls.{calls_of_rows}
use Rattle.run_commands.specs.Workers.{Calls, TriedAtMost}
use Rattle.run_commands.proofs.workers.work_through.Goals as goal
use Rattle.run_commands.proofs.workers.work_through.Goals.{then-row-number+in_ok-call_through_gate, else-row-number}

-- the calls of the rows
abbrev calls_in : List TraceRow → List Call
calls_in rows = map (λ (row : TraceRow). row.call) rows

-- a row of the session adds its call
one_more : (i k : ℕ) (row : TraceRow) (rows : List TraceRow) → k < length rows → row ≡ get_or rows k row → row.session ≡ i
    → calls_of_rows i (take (k + 1) rows) ≡ calls_of_rows i (take k rows) ++ row.call ∷ []
one_more i k row rows below is own =
    let at = get_or rows k row in
    let before = filter (λ (r : TraceRow). eqb r.session i) (take k rows) in
    let ours : at.session ≡ i = sym (ap (λ (r : TraceRow). r.session) is) ∙ own in
    ap calls_in (filter_more (λ (r : TraceRow). eqb r.session i) rows k row below)
    ∙ ap (λ (b : Bool). calls_in (before ++ cond b (at ∷ []) [])) (eq-eqb at.session i ours)
    ∙ map-append (λ (r : TraceRow). r.call) before (at ∷ [])
    ∙ ap (λ (r : TraceRow). calls_in before ++ r.call ∷ []) (sym is)

-- a row of another session adds no call
no_more : (i k : ℕ) (row : TraceRow) (rows : List TraceRow) → k < length rows → row ≡ get_or rows k row → row.session ≢ i
    → calls_of_rows i (take (k + 1) rows) ≡ calls_of_rows i (take k rows)
no_more i k row rows below is other =
    let at = get_or rows k row in
    let before = filter (λ (r : TraceRow). eqb r.session i) (take k rows) in
    let others : at.session ≢ i = λ same. other (ap (λ (r : TraceRow). r.session) is ∙ same) in
    ap calls_in (filter_more (λ (r : TraceRow). eqb r.session i) rows k row below)
    ∙ ap (λ (b : Bool). calls_in (before ++ cond b (at ∷ []) [])) (ne_eqb at.session i others)
    ∙ ap calls_in (append-nil before)

-- the calls of a session that collected these answers and has none pending
abbrev collected_by : ℕ → List Call → Calls
collected_by number calls = record { number = number; pending = None; collected = calls }

-- the calls of a session after one more answer
abbrev with_call : Call → Calls → Calls
with_call call known = record known { collected = known.collected ++ call ∷ [] }

-- at most `turns` tries for each call so far, and for one more
more_tries : (has_tried : ℕ → Type 0) (before turns tries : ℕ) (old new : List Call) (call : Call) → new ≡ old ++ call ∷ []
    → tries ≤ before + length old * turns → TriedAtMost has_tried tries turns → TriedAtMost has_tried before (length new * turns)
more_tries has_tried before turns tries old new call is few more =
    let plus_one : length new ≡ length old + 1 = ap length is ∙ length-append old (call ∷ []) in
    let longer : length new ≡ suc (length old) = omega (arith, plus_one) in
    let product : length new * turns ≡ length old * turns + turns = ap (λ n. n * turns) longer ∙ suc-mul (length old) turns in
    (more.0, omega (arith, few, more.1, product), more.2)

pub loop-row-preserved : goal.loop-row-preserved
loop-row-preserved g c =
    let number = c.args.number in
    let at = c.loop-row.row-index in
    let row = c.row-item.result in
    let before = c.loop-row.invariant in
    elim c.if-row-number.branch [
      | then-row-number+in_ok-call_through_gate w ↦ record {
        ours = rw w.session-is w.in_ok-call_through_gate.ensures.ours;
        performed = ap g.S.Service.calls w.session-is ∙ w.in_ok-call_through_gate.ensures.performed ∙ ap (with_call row.call) before.performed
            ∙ ap (collected_by number) (sym (one_more number at row c.args.rows.now c.loop-row-test.true c.row-item.is w.if-row-number.true));
        few = omega (arith, w.index-is, before.few);
        tried = λ start h.
            let (tries, few, so_far) = before.tried start h in
            rw w.session-is (more_tries (g.S.Service.has_tried _) start c.args.turns tries _ _ row.call
            (one_more number at row c.args.rows.now c.loop-row-test.true c.row-item.is w.if-row-number.true) few
            (w.in_ok-call_through_gate.ensures.tried tries so_far));
      }
      | else-row-number w ↦ record {
        ours = rw w.session-is before.ours;
        performed = ap g.S.Service.calls w.session-is ∙ before.performed
            ∙ ap (collected_by number) (sym (no_more number at row c.args.rows.now c.loop-row-test.true c.row-item.is w.if-row-number.false));
        few = omega (arith, w.index-is, before.few);
        tried = λ start h.
            rw (no_more number at row c.args.rows.now c.loop-row-test.true c.row-item.is w.if-row-number.false) (rw w.session-is (before.tried start h));
      }
    ]
