use Rattle.std.proofs.Common.{ℕ, ◌∙◌, List, All, subst, sym}
use Rattle.lock_rules.specs.Entries.{Entry}
use Rattle.sequential.specs.Histories.{IsEntryWithin}
use Rattle.lock_shell.proofs.desk.desk_again.Goals as goal

pub serve_both_again-requires-clause-within : goal.serve_both_again-requires-clause-within
serve_both_again-requires-clause-within c =
    let told = c.history.ensures in
    let all = subst (λ (entries : List Entry). All (IsEntryWithin c.args.after.now.sessions) entries) (sym (told.all c.requires.all c.requires.unbounded)) told.within in
    subst (λ (n : ℕ). All (IsEntryWithin n) c.history.result.now) (sym (c.in_ok-desk.ensures.alike.others ∙ c.sessions.ensures.sessions)) all
