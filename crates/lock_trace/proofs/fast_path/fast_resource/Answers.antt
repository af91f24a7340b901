use Rattle.std.proofs.Common.{◌∙◌, ◌<◌, length, length-set, arith}
use Rattle.lock_trace.proofs.FastPath.{number_and_slash, resource_made}
use Rattle.lock_trace.proofs.fast_path.fast_resource.Goals as goal

pub returns-then-end-field : goal.returns-then-end-field
returns-then-end-field c =
    let l = c.loop-level in
    let deep : l.level < length l.numbers = omega (arith, l.invariant.long, c.loop-level-test.true) in
    resource_made c.args.field.now l.numbers l.level l.start c.in_ok-number.end c.in_ok-number.number c.from_prefix.result deep c.if-end-field.true l.invariant.read c.in_ok-number.ensures.text c.from_prefix.ensures.resource c.from_prefix.ensures.value

pub loop-level-preserved : goal.loop-level-preserved
loop-level-preserved c =
    let l = c.loop-level in
    let deep : l.level < length l.numbers = omega (arith, l.invariant.long, c.loop-level-test.true) in
    let more : c.in_ok-number.end < length c.args.field.now = omega (arith, c.in_ok-number.ensures.end, c.if-end-field.false) in
    record {
      within = omega (arith, more);
      long = length-set l.numbers l.level c.in_ok-number.number ∙ l.invariant.long;
      read = number_and_slash c.args.field.now l.numbers l.level l.start c.in_ok-number.end c.in_ok-number.number deep more c.if-field-end-ne47.false l.invariant.read c.in_ok-number.ensures.text;
    }
