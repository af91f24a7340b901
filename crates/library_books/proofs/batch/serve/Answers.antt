use Rattle.std.proofs.Common.{List, sym, subst}
use Rattle.lock_desk.specs.Batches.{Item as ItemValue}
use Rattle.library_books.specs.Batches.{AreItems}
use Rattle.library_books.proofs.batch.serve.Goals as goal

pub serve_items-requires : goal.serve_items-requires
serve_items-requires c = record {
  read =
      subst (λ (is : List ItemValue). AreItems c.args.book.now c.args.places.now is) (sym c.as_mut_slice.ensures.value) c.in_default-read_items.ensures.ok;
}
