use Rattle.std.proofs.Common.{rules, subst, ◌≡◌}
use Rattle.command_line.specs.declared.args.CommandRequest.TheVariants as request
use Rattle.command_line.specs.declared.args.CommandRequest.{CommandRequest}
use Rattle.command_line.specs.CommandLine.{Ask}
use Rattle.glm.proofs.commands.perform.Goals as goal

-- each outcome has what the words ask for and what the command's contract ensures
pub returns-in-Replay : goal.returns-in-Replay
returns-in-Replay c c' =
    λ words asked. c'.replayed.ensures words
    (let is : c'.args.command ≡ request.Replay c'.in-Replay.sessions c'.in-Replay.delivery = search rules in subst (λ (r : CommandRequest). Ask words r) is asked)

pub returns-in-Run : goal.returns-in-Run
returns-in-Run c c' =
    λ words asked. c'.run_on_threads.ensures words
    (let is : c'.args.command ≡ request.Run c'.in-Run.sessions c'.in-Run.turns c'.in-Run.delivery = search rules in subst (λ (r : CommandRequest). Ask words r) is asked)

pub returns-in-Check : goal.returns-in-Check
returns-in-Check c c' =
    let done = c'.write_verdict.ensures in
    λ words asked. record {
      sessions = c'.in-Check.sessions;
      delivery = c'.in-Check.delivery;
      asked = (let is : c'.args.command ≡ request.Check c'.in-Check.sessions c'.in-Check.delivery = search rules in subst (λ (r : CommandRequest). Ask words r) is asked);
      kept = done.kept;
      part = done.part;
      written = done.written;
      faults = done.faults;
      checks = done.checks;
    }

pub returns-in-Show : goal.returns-in-Show
returns-in-Show c c' =
    let done = c'.shown.ensures in
    λ words asked. record {
      sessions = c'.in-Show.sessions;
      place = c'.in-Show.place;
      form = c'.in-Show.form;
      asked = (let is : c'.args.command ≡ request.Show c'.in-Show.sessions c'.in-Show.place c'.in-Show.form = search rules in subst (λ (r : CommandRequest). Ask words r) is asked);
      kept = done.kept;
      part = done.part;
      shown = done.shown;
      shows = done.shows;
    }

pub returns-in-Dump : goal.returns-in-Dump
returns-in-Dump c c' =
    let done = c'.show_dump.ensures in
    λ words asked. record {
      sessions = c'.in-Dump.sessions;
      form = c'.in-Dump.form;
      asked = (let is : c'.args.command ≡ request.Dump c'.in-Dump.sessions c'.in-Dump.form = search rules in subst (λ (r : CommandRequest). Ask words r) is asked);
      kept = done.kept;
      part = done.part;
      shown = done.shown;
      shows = done.shows;
    }

pub returns-in-Explain : goal.returns-in-Explain
returns-in-Explain c c' =
    let done = c'.explained.ensures in
    λ words asked. record {
      sessions = c'.in-Explain.sessions;
      place = c'.in-Explain.place;
      form = c'.in-Explain.form;
      asked = (let is : c'.args.command ≡ request.Explain c'.in-Explain.sessions c'.in-Explain.place c'.in-Explain.form = search rules in subst (λ (r : CommandRequest). Ask words r) is asked);
      kept = done.kept;
      part = done.part;
      explained = done.explained;
      explains = done.explains;
    }

pub returns-in-Timeline : goal.returns-in-Timeline
returns-in-Timeline c c' =
    let done = c'.timeline.ensures in
    λ words asked. record {
      sessions = c'.in-Timeline.sessions;
      from = c'.in-Timeline.from;
      to = c'.in-Timeline.to;
      asked = (let is : c'.args.command ≡ request.Timeline c'.in-Timeline.sessions c'.in-Timeline.from c'.in-Timeline.to = search rules in subst (λ (r : CommandRequest). Ask words r) is asked);
      kept = done.kept;
      part = done.part;
      drawn = done.drawn;
      draws = done.draws;
    }

pub returns-in-Stats : goal.returns-in-Stats
returns-in-Stats c c' =
    let done = c'.stats.ensures in
    λ words asked. record {
      sessions = c'.in-Stats.sessions;
      form = c'.in-Stats.form;
      asked = (let is : c'.args.command ≡ request.Stats c'.in-Stats.sessions c'.in-Stats.form = search rules in subst (λ (r : CommandRequest). Ask words r) is asked);
      kept = done.kept;
      part = done.part;
      counted = done.counted;
      faults = done.faults;
      counts = done.counts;
    }

pub returns-in-Shell : goal.returns-in-Shell
returns-in-Shell c c' =
    let done = c'.shell.ensures in
    λ words asked. record {
      sessions = c'.in-Shell.sessions;
      asked = (let is : c'.args.command ≡ request.Shell c'.in-Shell.sessions = search rules in subst (λ (r : CommandRequest). Ask words r) is asked);
      talked = done.talked;
      part = done.part;
      faults = done.faults;
    }
