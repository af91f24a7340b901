use Rattle.std.proofs.Common.{rules, ◌≡◌, Some, slice_get}
use Rattle.lock_programs.specs.Calls.{calls_started}
use Rattle.lock_programs.proofs.path.StartedPath.done.Goals as goal

pub returns : goal.returns
returns c =
    let d = c.done_on_path.ensures c.args.began c.args.ended in
    let at : slice_get (calls_started c.args.self.now) c.args.at ≡ Some d.0 = search rules in
    (d.0, at, d.2)
