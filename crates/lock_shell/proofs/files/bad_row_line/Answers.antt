use Rattle.std.proofs.Common.{◌∙◌, ◌++◌, ℕ, List, ap, ap₂, codes, decimal}
use Rattle.lock_shell.proofs.files.bad_row_line.Goals as goal

pub returns : goal.returns
returns c =
    c.in_ok-put_fault.ensures
    ∙ ap₂ (λ (start name : List ℕ). start ++ (codes ": " ++ name ++ codes "\n"))
    (c.in_ok-put_bad_row.ensures ∙ ap (λ (start : List ℕ). start ++ (codes "can't load this trace: row " ++ decimal c.args.fault.now.row)) c.new-line.ensures.bytes)
    c.kind_name.ensures
