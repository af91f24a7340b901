use Rattle.std.proofs.Common.{◌≡◌, ◌+◌, ◌<◌, ◌^◌, length, ◌∙◌, arith}
use Rattle.lock_rules.specs.Counts.{requests, waits_begun, waits_granted, waits_doomed, waits_withdrawn, waits_aborted, waits_restarted, still_waiting, deadlocks, is_request}
use Rattle.lock_rules.proofs.Counting.{count-le-length}
use Rattle.lock_rules.proofs.CountBalance.{waits-end-once, requests-answered, counts-bounded}
use Rattle.lock_rules.proofs.CountTallies.{begun-with}
use Rattle.lock_desk.proofs.VictimsOfCalls.{all-victims, all-closings}
use Rattle.lock_desk.proofs.book.counts.counts_told.Goals as goal

pub returns : goal.returns
returns c = λ h legal counted waits waiting served.
    let few : length h < 2 ^ 64 = omega (arith, served) in
    let once = waits-end-once h legal in
    let bounds = counts-bounded h legal in
    let granted = c.requests_replied-granted_at_once.ensures h counted few in
    let refused = c.requests_replied-requests_refused.ensures h counted few in
    let told_waiting = c.requests_replied-told_waiting.ensures h counted few in
    let told_doomed = c.requests_replied-told_doomed.ensures h counted few in
    let withdrawn = c.replied-withdrawn.ensures h counted in
    let begun : c.saturating_add-waits_begun.result ≡ waits_begun h = omega (arith, c.saturating_add-waits_begun.ensures, told_waiting, told_doomed, begun-with h, bounds.begun, few) in
    let victims : c.args.ended.victims ≡ waits_doomed h = waits.victims.victims ∙ all-victims h legal in
    let closing : c.args.ended.closing ≡ deadlocks h = waits.victims.closing ∙ all-closings h legal in
    let otherwise : c.saturating_add-otherwise.result ≡ waits_doomed h + waits_withdrawn h + (waits_aborted h + waits_restarted h) + still_waiting h =
    omega (arith, c.saturating_add-doomed_or_withdrawn.ensures, c.saturating_add-own.ensures, c.saturating_add-not_granted.ensures, c.saturating_add-otherwise.ensures, victims, withdrawn, waits.aborted, waits.restarted, waiting, once, bounds.begun, few) in
    let later : c.saturating_sub-waits_granted.result ≡ waits_granted h = omega (arith, c.saturating_sub-waits_granted.ensures, begun, otherwise, once) in
    let all : c.saturating_add-requests.result ≡ requests h =
    omega (arith, c.saturating_add-not_refused.ensures, c.saturating_add-requests.ensures, granted, begun, refused, requests-answered h legal, count-le-length is_request h, few) in
    let calls = c.calls_of.ensures h counted few in
    let refusals = c.refusals_of.ensures h counted in
    λ i. record {
      calls = calls i;
      refusals = refusals i;
      requests = all i;
      granted_at_once = granted i;
      requests_refused = refused i;
      waits_begun = begun i;
      waits_granted = later i;
      victims = victims i;
      waits_withdrawn = withdrawn i;
      waits_aborted = waits.aborted i;
      waits_restarted = waits.restarted i;
      waiting = waiting i;
      deadlocks = closing i;
    }
