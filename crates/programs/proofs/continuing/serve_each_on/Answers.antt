use Rattle.std.proofs.Common.{rules, refl, sym}
use Rattle.sequential.proofs.Batches.{batch-next, within-set}
use Rattle.programs.proofs.Pushes.{longer-push}
use Rattle.programs.proofs.continuing.serve_each_on.Goals as goal

pub loop-served-preserved : goal.loop-served-preserved
loop-served-preserved g c =
    let i = c.loop-served.invariant in
    record {
      few = search rules;
      len = search rules;
      within = within-set _ _ c.loop-served.items c.loop-served.served c.index-items-served-in-loop-served.result _ (sym c.in-Ok.ensures.sessions) (search rules) refl i.within;
      batch = batch-next _ _ _ _ _ _ c.loop-served.served c.index-items-served.result c.index-items-served-in-loop-served.result c.in-Ok.reply (search rules) i.len i.batch (search rules) (search rules) (search rules);
      longer = longer-push _ _ _ _ c.in-Ok.ensures.entry i.longer;
      tells = c.in-Ok.ensures.tells _ i.longer i.tells;
      sessions = search rules;
      cut = search rules;
      bound = search rules;
    }
