use Rattle.std.proofs.lemmas.Result.{IfOk-weaker}
use Rattle.lock_shell.proofs.Loads.{found_loaded, found_read, not_read_loaded, not_read_read}
use Rattle.lock_shell.proofs.files.read_rows.Goals as goal

pub returns-in-Ok-clause-loaded : goal.returns-in-Ok-clause-loaded
returns-in-Ok-clause-loaded g c =
    IfOk-weaker c.found.result _ _ (λ x is. found_loaded c.args.sessions c.in-Ok.rows.items x c.in-Ok.ensures.rows is) c.found.ensures

pub returns-in-Ok-clause-read : goal.returns-in-Ok-clause-read
returns-in-Ok-clause-read g c = λ bytes known.
    IfOk-weaker c.found.result _ _ (λ x is. found_read c.args.sessions bytes c.in-Ok.rows.items x (c.in-Ok.ensures.answer bytes known) is) c.found.ensures

pub returns-in-Err-clause-loaded : goal.returns-in-Err-clause-loaded
returns-in-Err-clause-loaded g c =
    IfOk-weaker c.not_read.result _ _ (λ x is. not_read_loaded c.args.sessions c.in-Err.fault x c.in-Err.ensures.from_one is) c.not_read.ensures

pub returns-in-Err-clause-read : goal.returns-in-Err-clause-read
returns-in-Err-clause-read g c = λ bytes known.
    IfOk-weaker c.not_read.result _ _ (λ x is. not_read_read c.args.sessions bytes c.in-Err.fault x (c.in-Err.ensures.answer bytes known) is) c.not_read.ensures
