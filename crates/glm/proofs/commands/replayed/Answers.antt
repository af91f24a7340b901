use Rattle.std.proofs.Common.{rules, subst, ◌≡◌}
use Rattle.command_line.specs.declared.args.Delivery.{Delivery}
use Rattle.command_line.specs.declared.args.Delivery.TheVariants as delivery
use Rattle.command_line.specs.declared.args.CommandRequest.TheVariants as request
use Rattle.command_line.specs.CommandLine.{Ask}
use Rattle.glm.proofs.commands.replayed.Goals as goal

-- the words ask for this delivery, and the outcome has what the replay's contract ensures
pub returns-in-Whole : goal.returns-in-Whole
returns-in-Whole c c' =
    let done = c'.replay.ensures in
    λ words asked. record {
      sessions = c'.args.sessions;
      asked = (let is : c'.args.delivery ≡ delivery.Whole = search rules in subst (λ (d : Delivery). Ask words (request.Replay c'.args.sessions d)) is asked);
      kept = done.kept;
      part = done.part;
      served = done.served;
      faults = done.faults;
      replays = done.replays;
    }

pub returns-in-InPieces : goal.returns-in-InPieces
returns-in-InPieces c c' =
    let done = c'.replay_in_pieces.ensures in
    λ words asked. record {
      sessions = c'.args.sessions;
      asked = (let is : c'.args.delivery ≡ delivery.InPieces = search rules in subst (λ (d : Delivery). Ask words (request.Replay c'.args.sessions d)) is asked);
      kept = done.kept;
      front = done.front;
      part = done.part;
      served = done.served;
      faults = done.faults;
      replays = done.replays;
    }
