use Rattle.std.proofs.Common.{◌∙◌}
use Rattle.history_commands.proofs.WaitsSince.{since-more}
use Rattle.history_commands.proofs.since.places_since.Goals as goal

pub loop-index-preserved : goal.loop-index-preserved
loop-index-preserved c =
    let noted = c.note_since.ensures in
    record {
      len = noted.len ∙ c.loop-index.invariant.len;
      since = since-more c.loop-index.index c.args.entries.now c.index-entries-index.result c.loop-index.places.items c.note_since.new.places.items c.loop-index-test.true c.index-entries-index.is noted.len
          noted.places c.loop-index.invariant.since;
    }
