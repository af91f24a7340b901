use Rattle.std.proofs.Common.{◌≡◌, ◌∙◌, ◌++◌, ◌∷◌, [], ℕ, List, ap, sym, subst₂, arith}
use Rattle.lock_desk.specs.BookView.{BookView}
use Rattle.lock_rules.specs.Entries.{Entry}
use Rattle.lock_rules.specs.Legal.{state_of}
use Rattle.lock_rules.specs.Step.{step}
use Rattle.lock_shell.specs.Turns.{HasServed}
use Rattle.lock_shell.proofs.Served.{alike_more, entry_of, grown, one_served}
use Rattle.lock_shell.proofs.desk.serve_told.Goals as goal

pub serve_explained-requires : goal.serve_explained-requires
serve_explained-requires c =
    let alike = c.requires.alike in
    record { some = c.requires.some; within = omega (arith, c.requires.within, alike.sessions); sessions = sym alike.sessions; same = sym alike.history }

pub returns : goal.returns
returns c =
    let s = c.args.row.now.session in
    let call = c.args.row.now.call in
    let alike = c.requires.alike in
    let r = c.in_ok-told.told.reply in
    let before = c.args.before.now in
    let after = c.args.after.now in
    let book = c.in_ok-told.ensures.book in
    let more : c.serve_explained.new.after ≡ grown after s call r c.serve_explained.new.after.ended =
    book ∙ (λ i. record after { history = alike.history i ++ entry_of s call r ∷ []; ended = ap (λ (b : BookView). b.ended) (sym book) i }) in
    let by_step : r ≡ (step (state_of after.history) s call).reply = c.in_ok-told.ensures.reply ∙ ap (λ (es : List Entry). (step (state_of es) s call).reply) alike.history in
    let served = one_served before.sessions before.history c.serve_explained.new.after.history (entry_of s call r) c.in_ok-told.told.explanation c.args.text.now.items c.tell.new.text.items
    (ap (λ (b : BookView). b.history) book) c.in_ok-told.ensures.reply c.in_ok-told.ensures.explanation c.in_ok-tell.ensures in
    record {
      alike = alike_more after.sessions s call r c.in_ok-serve.field-0 _ _ before after _ _ alike more by_step c.in_ok-serve.ensures.entry c.in_ok-serve.ensures.reply;
      served = subst₂ (λ (n : ℕ) (es : List Entry). HasServed n es c.serve_explained.new.after.history (entry_of s call r ∷ []) c.args.text.now.items c.tell.new.text.items) alike.sessions alike.history served;
    }
