use Rattle.std.proofs.Common.{rules, ◌≡◌, ℕ, List, Some, length, subst}
use Rattle.library_books.specs.Calls.{AreListedOnce, are_written}
use Rattle.pelgaisti_c.proofs.book.pelgaisti_raw_book_ended.Goals as goal

pub returns-clause-ok : goal.returns-clause-ok
returns-clause-ok c = λ _.
    let was : c.args.book.now.behind.held.book ≡ Some c.deref.result.now = search rules in
    let same : c.items-list.result.now ≡ c.args.list.now.behind = search rules in (
      c.deref.result.now,
      was,
      subst (λ (places : List ℕ). (told : List ℕ) × AreListedOnce c.deref.result.now.ended told
          × (c.ended.new.list ≡ are_written (λ u. u) told places) × (c.ended.new.count ≡ length told)) same c.ended.ensures,
    )
