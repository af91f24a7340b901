use Rattle.std.proofs.Common.{rules, subst, refl, sym, inr, true, false, ◌≡◌, ◌∙◌, ℕ, List, Option}
use Rattle.std.specs.Prelude.{Result, Ok, Err, OnOk, OnErr}
use Rattle.std.specs.Result.{is_err}
use Rattle.std.specs.Io.KnownBytes.{Appends}
use Rattle.std.proofs.lemmas.Bool.{false≢true}
use Rattle.replay_commands.specs.Written.{AppendsPart}
use Rattle.command_line.specs.declared.args.Form.{Form}
use Rattle.lock_report.specs.declared.reading.state.StateLists.{StateLists}
use Rattle.lock_report.specs.ReadStates.{AreLists, text_of}
use Rattle.history_commands.specs.Dumps.{IsMistold, ShowsDump}
use Rattle.history_commands.specs.declared.dump_fault.DumpFault.{DumpFault}
use Rattle.history_commands.specs.declared.dump_fault.DumpFault.TheVariants as fault
use Rattle.history_commands.proofs.dumps.show_dump.Goals as goal

-- a call that didn't fail ensures what it ensures on success
of_done : {T E : Type 0} (result : Result T E) (P : Type 0) → false ≡ is_err result → OnOk result P → P
of_done (Ok x) P passed done = done
of_done (Err e) P passed done = absurd (false≢true passed)

-- a call that failed ensures what it ensures on failure
of_failed : {T E : Type 0} (result : Result T E) (P : Type 0) → true ≡ is_err result → OnErr result P → P
of_failed (Ok x) P failed part = absurd (false≢true (sym failed))
of_failed (Err e) P failed part = part

-- a fault of the rows that were read
refused : {X : Type 0} (form : Form) (n : ℕ) (bytes : List ℕ) (old new : Option (List ℕ)) (rows : StateLists) (result : Result X DumpFault) (why : DumpFault) → result ≡ Err why
    → (bytes ≡ text_of rows) × AreLists n rows → ((k : ℕ) → why ≡ fault.Row k → IsMistold n rows k) → (why ≡ fault.Device → ⊥) → ShowsDump form n bytes old new result
refused {X} form n bytes old new rows result why is reads row other = subst (ShowsDump {X = X} form n bytes old new) (sym is) (go why row other)
  where
    go : (w : DumpFault) → ((k : ℕ) → w ≡ fault.Row k → IsMistold n rows k) → (w ≡ fault.Device → ⊥) → ShowsDump {X = X} form n bytes old new (Err w)
    go (fault.Row k) told other = inr (rows, (reads.0, reads.1, told k refl))
    go fault.NoMemory told other = tt
    go fault.Unread told other = tt
    go fault.Device told other = absurd (other refl)

pub returns-in_err-shown-clause-shows : goal.returns-in_err-shown-clause-shows
returns-in_err-shown-clause-shows g c bytes is =
    refused c.args.form c.args.sessions bytes _ _ c.in_ok-rows.rows c.from_residual-in_err-shown.result c.in_err-shown.field-0.0 (search rules) (c.in_ok-rows.ensures.reads bytes is)
    (λ k e. c.in_err-shown.ensures.row k (search rules)) (c.in_err-shown.ensures.faults.0)

-- for every reader: the dump that was read, and the first bytes of its text
pub returns-then-is_err-clause-part : goal.returns-then-is_err-clause-part
returns-then-is_err-clause-part g c _ = (
  c.in_ok-rows.rows,
  (
    c.in_ok-shown.ensures.text.0,
    subst (λ (bs : List ℕ). AppendsPart (g.W.Write.contents c.args.output.now) (g.W.Write.contents c.write_text.new.output) bs)
        (c.as_bytes.ensures.value ∙ c.in_ok-shown.ensures.text.1) (of_failed _ _ c.if-is_err.ensures.value c.write_text.ensures.part),
  ),
)

-- likewise if the bytes are known: they are the dump's rows
pub returns-then-is_err-clause-shows : goal.returns-then-is_err-clause-shows
returns-then-is_err-clause-shows g c bytes is = (
  c.in_ok-rows.rows,
  (
    (c.in_ok-rows.ensures.reads bytes is).0,
    c.in_ok-shown.ensures.text.0,
    subst (λ (bs : List ℕ). AppendsPart (g.W.Write.contents c.args.output.now) (g.W.Write.contents c.write_text.new.output) bs)
        (c.as_bytes.ensures.value ∙ c.in_ok-shown.ensures.text.1) (of_failed _ _ c.if-is_err.ensures.value c.write_text.ensures.part),
  ),
)

-- for every reader: the dump that was read, and its text
pub returns-clause-shown : goal.returns-clause-shown
returns-clause-shown g c = (
  c.in_ok-rows.rows,
  (
    c.in_ok-shown.ensures.text.0,
    subst (λ (bs : List ℕ). Appends (g.W.Write.contents c.args.output.now) (g.W.Write.contents c.write_text.new.output) bs)
        (c.as_bytes.ensures.value ∙ c.in_ok-shown.ensures.text.1) (of_done _ _ c.if-is_err.ensures.value c.write_text.ensures.written),
  ),
)

-- likewise if the bytes are known
pub returns-clause-shows : goal.returns-clause-shows
returns-clause-shows g c bytes is = (
  c.in_ok-rows.rows,
  (
    (c.in_ok-rows.ensures.reads bytes is).0,
    c.in_ok-shown.ensures.text.0,
    subst (λ (bs : List ℕ). Appends (g.W.Write.contents c.args.output.now) (g.W.Write.contents c.write_text.new.output) bs)
        (c.as_bytes.ensures.value ∙ c.in_ok-shown.ensures.text.1) (of_done _ _ c.if-is_err.ensures.value c.write_text.ensures.written),
  ),
)
