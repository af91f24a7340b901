use Rattle.std.proofs.Common.{rules}
use Rattle.library_books.proofs.book_calls.ended.Goals as goal

pub returns : goal.returns
returns c = (c.ended-found.result.now, record { listed = c.ended-found.ensures.ended; once = c.ended-found.ensures.once }, c.write_all.ensures.written, search rules)
