use Rattle.lock_tree.proofs.Texts.{ok_iff}
use Rattle.lock_tree.proofs.resource.Resource.parse.Goals as goal

pub returns-clause-ok : goal.returns-clause-ok
returns-clause-ok c r = rw (c.read.ensures, c.as_bytes.ensures.value) (ok_iff c.args.text.now r)
