use Rattle.std.proofs.Common.{◌&&◌, arith}
use Rattle.lock_rules.specs.Entries.{Entry}
use Rattle.lock_rules.specs.Counts.{is_kind, is_request}
use Rattle.lock_rules.proofs.Counting.{count-le-length}
use Rattle.lock_rules.proofs.CountTallies.{requests-with}
use Rattle.lock_desk.proofs.call_counts.CallCounts.requests_replied.Goals as goal

pub returns : goal.returns
returns c = λ h t few.
    let lock = c.replied-lock.ensures h t in
    let convert = c.replied-convert.ensures h t in
    let tried = c.replied-tried.ensures h t in
    omega (arith, lock, convert, tried, requests-with c.args.kind h, count-le-length (λ (e : Entry). is_request e && is_kind c.args.kind e) h, few, c.saturating_add.ensures, c.saturating_add-2.ensures)
