use Rattle.std.proofs.Common.{None}
use Rattle.library_books.proofs.batch.check_item.Goals as goal

pub returns-in-Ok-clause-ok : goal.returns-in-Ok-clause-ok
returns-in-Ok-clause-ok c = (
  record { session = c.in-Some._known; call = c.in-Ok.field-0; reply = None },
  record { known = c.in-Some.ensures.some.1; session = c.in-Some.ensures.some.0; call = c.in-Ok.ensures.ok },
)
