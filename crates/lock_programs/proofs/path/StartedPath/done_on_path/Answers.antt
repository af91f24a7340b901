use Rattle.std.proofs.Common.{◌≡◌, ◌+◌, ◌-◌, suc, arith, length, take}
use Rattle.lock_programs.specs.Starts.{last_call, ancestor_call}
use Rattle.lock_programs.proofs.Shapes.{path-at, ancestor-done}
use Rattle.lock_programs.proofs.path.StartedPath.done_on_path.Goals as goal

pub returns-then-self-at : goal.returns-then-self-at
returns-then-self-at c =
    let p = c.args.self.now in
    let at : p.from + c.args.at ≡ length p.resource = omega (arith, c.if-self-at.true, c.level.ensures) in
    λ began ended. (last_call p.last (take (p.from + c.args.at) p.resource), path-at p.resource p.above p.last p.from (length p.resource + 1 - p.from) c.args.at 0 (omega (arith, at)), c.done.ensures began ended (take (p.from + c.args.at) p.resource))

pub returns : goal.returns
returns c =
    let p = c.args.self.now in
    λ began ended. (ancestor_call p.above p.last (take (p.from + c.args.at) p.resource), path-at p.resource p.above p.last p.from (length p.resource + 1 - p.from) c.args.at (suc (length p.resource - (p.from + c.args.at) - 1)) (omega (arith, c.requires, c.if-self-at.false, c.level.ensures)), ancestor-done p.above p.last (take (p.from + c.args.at) p.resource) began ended c.args.mode)
