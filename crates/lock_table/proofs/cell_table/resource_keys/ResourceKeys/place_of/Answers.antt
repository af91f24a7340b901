use Rattle.std.proofs.Common.{◌∙◌, sym, arith}
use Rattle.lock_table.proofs.Places.{place-found, place-behind, place-absent}
use Rattle.lock_table.proofs.cell_table.resource_keys.ResourceKeys.place_of.Goals as goal

pub returns-in-Some : goal.returns-in-Some
returns-in-Some c =
    place-found _ c.self.invariant c.self.inside.resources.keys c.self.inside.has_provisional _ c.self.view_is c.args.resource c.in-Some.place c.in-Some.ensures.index (omega (arith, c.if-place-len.true, c.len.ensures.len))

pub returns-in_default : goal.returns-in_default
returns-in_default c =
    place-behind _ c.self.invariant c.self.inside.resources.keys c.self.inside.has_provisional _ c.self.view_is c.args.resource c.in-Some.place c.in-Some.ensures.index (omega (arith, c.if-place-len.false, c.len.ensures.len))

pub returns-in_default-2 : goal.returns-in_default-2
returns-in_default-2 c =
    place-absent _ c.self.invariant c.self.inside.resources.keys c.self.inside.has_provisional _ c.self.view_is c.args.resource (sym c.in_default.ensures.found)
