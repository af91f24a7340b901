use Rattle.std.proofs.Common.{◌≡◌, false, List, ℕ, inl, inr}
use Rattle.std.proofs.lemmas.Bool.{cases_Bool}
use Rattle.std.proofs.lemmas.Str.{is_utf8-from_IsUtf8, IsUtf8-from_is_utf8}
use Rattle.std.specs.Str.{is_utf8, IsUtf8}
use Rattle.lock_report.proofs.reading.fields.text_in.Goals as goal

-- Bytes that cannot be UTF-8 fail the test for UTF-8.
not_text : (bs : List ℕ) → (IsUtf8 bs → ⊥) → is_utf8 bs ≡ false
not_text bs never = elim (cases_Bool (is_utf8 bs)) [ inl is ↦ absurd (never (IsUtf8-from_is_utf8 bs is)) | inr e ↦ e ]

pub returns-in-Ok-clause-some : goal.returns-in-Ok-clause-some
returns-in-Ok-clause-some c = let h = c.in-Ok.ensures.cases in (h.0, is_utf8-from_IsUtf8 c.args.field.now h.1)

pub returns-in-Err-clause-none : goal.returns-in-Err-clause-none
returns-in-Err-clause-none c = not_text c.args.field.now c.in-Err.ensures.cases.0
