use Rattle.std.proofs.Common.{rules, ◌≡◌, ◌++◌, ℕ, List, take, drop, length, refl, sym, ap, ◌∙◌, subst}
use Rattle.std.specs.Prelude.{All}
use Rattle.sequential.specs.declared.entry.Item.{Item}
use Rattle.sequential.specs.Batches.{IsItemWithin, asked_by}
use Rattle.combining.proofs.CleanUpWalk.{row-within}
use Rattle.combining.proofs.Batches.{opened-performed, written, batch-in_hand, asked-since}
use Rattle.combining.proofs.PerformedCalls.{in-hand}
use Rattle.combining.proofs.pass.serve_row.Goals as goal

pub serve_batch-served-requires : goal.serve_batch-served-requires
serve_batch-served-requires g c =
    let n = c.args.board.now.sessions in
    let all : All (IsItemWithin n) c.args.row.now.items = row-within n c.args.session.now.opened c.args.row.now.items c.requires.row in
    let row : c.args.row.now.items ≡ c.as_mut_slice.result.now = search rules in
    record { within = subst (λ (m : ℕ). All (IsItemWithin m) c.as_mut_slice.result.now) (sym c.requires.object.sessions_are) (subst (λ (l : List (Item _ _)). All (IsItemWithin n) l) row all) }

pub answer_row-requires-clause-row : goal.answer_row-requires-clause-row
answer_row-requires-clause-row g c =
    let b = c.serve_batch-served in
    let long : c.args.row.now.len ≡ length b.new.items = search rules in
    opened-performed c.args.board.now.sessions c.args.session.now.opened _ _ b.result c.args.row.now.len c.args.row.now.items c.as_mut_slice.result.now b.new.items c.as_slice.result.now
    c.requires.row c.as_mut_slice.ensures.value b.ensures.batch long c.as_slice.ensures.value

pub returns-clause-within : goal.returns-clause-within
returns-clause-within g c =
    let n = c.args.board.now.sessions in
    let l = c.args.session.now.opened in
    let b = c.serve_batch-served in
    let long : c.args.row.now.len ≡ length b.new.items = search rules in
    let row = take c.args.row.now.len (b.new.items ++ drop (length b.new.items) c.args.row.now.items) in
    row-within n l row
    (opened-performed n l _ _ b.result c.args.row.now.len c.args.row.now.items c.as_mut_slice.result.now b.new.items row c.requires.row c.as_mut_slice.ensures.value b.ensures.batch long refl)

pub answer_row-requires-clause-object : goal.answer_row-requires-clause-object
answer_row-requires-clause-object g c =
    let b = c.serve_batch-served in
    let h = c.requires.object in
    let long : c.args.row.now.len ≡ length b.new.items = search rules in
    let row : c.as_slice.result.now ≡ b.new.items = written c.args.row.now.len c.args.row.now.items b.new.items c.as_slice.result.now long c.as_slice.ensures.value in
    batch-in_hand c.args.board.now.sessions c.args.object.now b.new.self c.args.session.now c.as_mut_slice.result.now b.new.items c.as_slice.result.now b.result h b.ensures.sessions b.ensures.count b.ensures.batch row

pub returns-clause-tells : goal.returns-clause-tells
returns-clause-tells g c some =
    let h = c.requires.object in
    subst (λ (l : List _). g.O.Serving.tells_from c.serve_batch-served.new.self (length l)) (in-hand c.args.board.now.sessions c.args.object.now c.args.session.now h) c.serve_batch-served.ensures.tells

pub returns-clause-asked : goal.returns-clause-asked
returns-clause-asked g c =
    let b = c.serve_batch-served in
    let row : c.as_mut_slice.result.now ≡ c.args.row.now.items = search rules in
    asked-since c.args.board.now.sessions c.args.object.now b.new.self c.args.session.now c.answer_row.new.session c.as_mut_slice.result.now b.new.items b.result c.requires.object c.answer_row.ensures.object b.ensures.batch
    ∙ ap (λ (l : List (Item _ _)). asked_by (take b.result l)) row
