use Rattle.history_commands.proofs.RequestsSince.{place-told}
use Rattle.history_commands.proofs.laws.waits_are_told_since_their_requests.Goals as goal

pub returns : goal.returns
returns c = λ n history legal w place told since. place-told n history legal w place since told
