use Rattle.std.proofs.Common.{◌≡◌, ◌∙◌, ◌++◌, ℕ, List, Result, Ok, Err, OnOk, is_ok, if◌then◌else◌, ap, ap₂}
use Rattle.std.proofs.lemmas.Result.{on_ok_weaker}
use Rattle.lock_shell.specs.Replies.{text_of_reply}
use Rattle.lock_shell.proofs.Served.{entry_of}
use Rattle.lock_shell.proofs.desk.tell.Goals as goal

-- what a list is if it could be grown, and else
if_grown : {T E : Type 0} (r : Result T E) (x y z : List ℕ) → z ≡ (if is_ok r then x else y) → OnOk r (z ≡ x)
if_grown (Ok t) x y z is = is
if_grown (Err e) x y z is = tt

pub returns : goal.returns
returns c =
    let e = entry_of c.args.row.now.session c.args.row.now.call c.args.told.now.reply in
    let x = c.args.told.now.explanation in
    let line = c.as_bytes.ensures.value ∙ c.in_ok-put_reply_text.ensures
    ∙ ap₂ (λ (start : List ℕ) (place : ℕ). start ++ text_of_reply place e x) c.new-line.ensures.bytes c.served.ensures.count in
    on_ok_weaker c.extend_from_slice.result
    (λ told. told ∙ ap (λ (text : List ℕ). c.args.text.now.items ++ text) line)
    (if_grown c.extend_from_slice.result _ _ _ c.extend_from_slice.ensures.items)
