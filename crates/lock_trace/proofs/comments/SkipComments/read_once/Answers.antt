use Rattle.lock_trace.proofs.ReadShown.{read_shown_once}
use Rattle.lock_trace.proofs.comments.SkipComments.read_once.Goals as goal

pub returns-clause-read : goal.returns-clause-read
returns-clause-read g c = rw c.requires.skips
    (read_shown_once _ _ _ _ _ _ c.read.new.buf c.keep_shown-kept.new.bytes c.in_ok-count.ensures.bound.0 c.in_ok-count.ensures.bytes c.keep_shown-kept.ensures.length c.keep_shown-kept.ensures.few
    c.keep_shown-kept.ensures.shown c.keep_shown-kept.ensures.spot)
