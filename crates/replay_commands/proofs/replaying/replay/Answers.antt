use Rattle.std.proofs.Common.{length, subst, false, ◌≡◌, ◌∙◌, ℕ, List}
use Rattle.std.specs.Prelude.{Result, Ok, Err, OnOk}
use Rattle.std.specs.Result.{is_err}
use Rattle.std.specs.Io.KnownBytes.{Appends}
use Rattle.std.proofs.lemmas.Bool.{false≢true}
use Rattle.std.proofs.KnownBytes.{Keeps-refl}
use Rattle.replay_commands.proofs.replaying.replay.Goals as goal

-- a call that didn't fail ensures what it ensures on success
of_done : {T E : Type 0} (result : Result T E) (P : Type 0) → false ≡ is_err result → OnOk result P → P
of_done (Ok x) P passed done = done
of_done (Err e) P passed done = absurd (false≢true passed)

-- on success the count is the number of rows, for every reader
pub returns-clause-served : goal.returns-clause-served
returns-clause-served c c' =
    let rows = c'.in-Ok.rows.items in
    let count : c'.len-count.result ≡ length rows = c'.len-count.ensures ∙ c'.in-Ok.rows.ok.0 in (
      rows,
      (
        c'.in-Ok.ensures.rows,
        count,
        record {
          text = c'.in-Ok-served_text.text.items;
          is_history = c'.in-Ok-served_text.ensures;
          written = subst (λ (bs : List ℕ). Appends (c.W.Write.contents c'.args.output.now) (c.W.Write.contents c'.write_text.new.output) bs) c'.deref.ensures.value
              (of_done _ _ c'.if-is_err.ensures.value c'.write_text.ensures.written);
        },
      ),
    )

-- likewise if the bytes are known; the terms can't be shared, since they name the place where the function ends
pub returns-clause-replays : goal.returns-clause-replays
returns-clause-replays c c' bytes is =
    let rows = c'.in-Ok.rows.items in
    let count : c'.len-count.result ≡ length rows = c'.len-count.ensures ∙ c'.in-Ok.rows.ok.0 in (
      rows,
      (
        c'.in-Ok.ensures.answer bytes is,
        count,
        record {
          text = c'.in-Ok-served_text.text.items;
          is_history = c'.in-Ok-served_text.ensures;
          written = subst (λ (bs : List ℕ). Appends (c.W.Write.contents c'.args.output.now) (c.W.Write.contents c'.write_text.new.output) bs) c'.deref.ensures.value
              (of_done _ _ c'.if-is_err.ensures.value c'.write_text.ensures.written);
        },
      ),
    )

-- nothing is written if a row is refused
pub returns-in-Err-clause-kept : goal.returns-in-Err-clause-kept
returns-in-Err-clause-kept c c' other = Keeps-refl (c.W.Write.contents c'.args.output.now)

pub returns-in-Err-clause-replays : goal.returns-in-Err-clause-replays
returns-in-Err-clause-replays c c' bytes is = (c'.in-Err.ensures.answer bytes is, Keeps-refl (c.W.Write.contents c'.args.output.now))

-- nothing is written if memory is refused
pub returns-in_default-clause-kept : goal.returns-in_default-clause-kept
returns-in_default-clause-kept c c' other = Keeps-refl (c.W.Write.contents c'.args.output.now)

pub returns-in_default-clause-replays : goal.returns-in_default-clause-replays
returns-in_default-clause-replays c c' bytes is =
    ((c'.in-Ok.rows.items, c'.in-Ok.ensures.answer bytes is), Keeps-refl (c.W.Write.contents c'.args.output.now))
