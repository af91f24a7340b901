use Rattle.std.proofs.Common.{◌∙◌, Bool, cond, None, sym, ap}
use Rattle.lock_rules.specs.Legal.{state_of}
use Rattle.lock_rules.specs.State.{request_of}
use Rattle.lock_explain.specs.Waiting.{request_made}
use Rattle.lock_explain.proofs.BegunWaits.{free-asked, nobody}
use Rattle.lock_explain.proofs.asked.asked_if_free.Goals as goal

pub returns : goal.returns
returns c =
    let st = state_of c.args.before.now.history in
    let s = c.args.session in
    let free = sym c.is_waiting.ensures ∙ c.if-is_waiting.false in
    record {
      made = c.asked_by.ensures.made ∙ sym (ap (λ (b : Bool). cond b None (request_made st s c.args.call.now)) free);
      asked = free-asked c.args.before.now.sessions st s c.args.call.now c.asked_by.result c.requires.some c.requires.within (nobody (request_of s st.table.requests) free)
          c.asked_by.ensures.made c.asked_by.ensures.converts;
    }
