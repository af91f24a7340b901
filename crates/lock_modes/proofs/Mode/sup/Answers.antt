-- By the table: only of IX and S, IX and U, SIX and U is neither at or above the other.
use Rattle.std.proofs.Common.{rules}
use Rattle.lock_modes.proofs.Order.{sup_least}
use Rattle.lock_modes.proofs.Mode.sup.Goals as goal

pub returns-in-IX-S-clause-least : goal.returns-in-IX-S-clause-least
returns-in-IX-S-clause-least c = sup_least c.args.self c.args.other _ (search rules)

pub returns-in-IX-S-2-clause-least : goal.returns-in-IX-S-2-clause-least
returns-in-IX-S-2-clause-least c = sup_least c.args.self c.args.other _ (search rules)

pub returns-in-IX-U-clause-least : goal.returns-in-IX-U-clause-least
returns-in-IX-U-clause-least c = sup_least c.args.self c.args.other _ (search rules)

pub returns-in-IX-U-2-clause-least : goal.returns-in-IX-U-2-clause-least
returns-in-IX-U-2-clause-least c = sup_least c.args.self c.args.other _ (search rules)

pub returns-in-U-IX-clause-least : goal.returns-in-U-IX-clause-least
returns-in-U-IX-clause-least c = sup_least c.args.self c.args.other _ (search rules)

pub returns-in-U-IX-2-clause-least : goal.returns-in-U-IX-2-clause-least
returns-in-U-IX-2-clause-least c = sup_least c.args.self c.args.other _ (search rules)

pub returns-in_default-clause-least : goal.returns-in_default-clause-least
returns-in_default-clause-least c = sup_least c.args.self c.args.other c.max.result (search rules)
