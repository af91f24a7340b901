use Rattle.std.proofs.Common.{◌≡◌, ◌+◌, ◌-◌, ℕ, suc, ◌∙◌, sym, ap, arith, List, length, take, Some}
use Rattle.std.proofs.Math.Seq.{take-length}
use Rattle.lock_rules.specs.declared.calls.Call.{Call}
use Rattle.lock_programs.specs.Starts.{last_call, ancestor_call}
use Rattle.lock_programs.proofs.Shapes.{path-at}
use Rattle.lock_programs.proofs.path.StartedPath.on_path.Goals as goal

pub returns-then-level : goal.returns-then-level
returns-then-level c =
    let p = c.args.self.now in
    let at : p.from + c.args.at ≡ length p.resource = omega (arith, c.if-level.true, c.level.ensures) in
    path-at p.resource p.above p.last p.from (length p.resource + 1 - p.from) c.args.at 0 (omega (arith, at))
    ∙ ap (λ (r : List ℕ). Some (last_call p.last r)) (ap (λ (n : ℕ). take n p.resource) at ∙ take-length p.resource)
    ∙ ap (λ (d : Call). Some d) (sym c.call.ensures)

pub returns : goal.returns
returns c =
    let p = c.args.self.now in
    path-at p.resource p.above p.last p.from (length p.resource + 1 - p.from) c.args.at (suc (length p.resource - (p.from + c.args.at) - 1)) (omega (arith, c.requires, c.if-level.false, c.level.ensures))
    ∙ ap (λ (r : List ℕ). Some (ancestor_call p.above p.last r)) (sym c.at_level.ensures)
    ∙ ap (λ (d : Call). Some d) (sym c.above.ensures)
