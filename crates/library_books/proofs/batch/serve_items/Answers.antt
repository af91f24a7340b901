use Rattle.std.proofs.Common.{◌≡◌, ◌≤◌, ◌++◌, ◌∙◌, List, length, take, drop, map, ap, subst, arith}
use Rattle.std.proofs.lemmas.List.{length-take-le}
use Rattle.lock_rules.specs.Legal.{state_of}
use Rattle.lock_rules.specs.Entries.{Entry}
use Rattle.lock_desk.specs.Batches.{Item, entries_from}
use Rattle.sequential.specs.Batches.{item_of}
use Rattle.library_books.specs.Calls.{written}
use Rattle.library_books.specs.inner.Items.{numbers_of_item}
use Rattle.library_books.specs.Numbers.{numbers_of_entry}
use Rattle.library_books.proofs.Batches.{as_many, are_within, as_many_entries, written_entries}
use Rattle.library_books.proofs.batch.serve_items.Goals as goal

pub serve_batch-served-requires : goal.serve_batch-served-requires
serve_batch-served-requires c = record { within = are_within c.args.book.now c.args.places.now c.args.items.now c.requires.read }

pub write_items-requires-clause-places : goal.write_items-requires-clause-places
write_items-requires-clause-places c = omega (arith, c.serve_batch-served.ensures.count, as_many c.args.book.now c.args.places.now c.args.items.now c.requires.read)

pub returns : goal.returns
returns c =
    let items = c.args.items.now in
    let places = c.args.places.now in
    let served = c.serve_batch-served.result in
    let start = state_of c.args.book.now.history in
    let entries : List Entry = entries_from start (take served items) in
    let count = as_many_entries start (take served items) ∙ length-take-le served items c.serve_batch-served.ensures.count in
    let few : served ≤ length places = omega (arith, c.serve_batch-served.ensures.count, as_many c.args.book.now places items c.requires.read) in
    let answered = c.write_items.ensures ∙ (ap (λ (is : List Item). written numbers_of_item served is places) c.serve_batch-served.ensures.items
    ∙ subst (λ n. written numbers_of_item n (map item_of entries ++ drop served items) places ≡ written numbers_of_entry n entries places) count
    (written_entries entries (drop served items) places)) in
    (items, c.requires.read, few, (c.serve_batch-served.ensures.history, answered))
