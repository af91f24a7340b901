use Rattle.std.proofs.Common.{◌≡◌, ◌<◌, length, sym, subst}
use Rattle.lock_programs.specs.declared.program.Program.{Program}
use Rattle.lock_programs.specs.Answers.{replies_of, program_form}
use Rattle.lock_office.specs.ProgramBoards.{TicketView}
use Rattle.lock_office.specs.SingleCalls.{IsLastReply, IsCollected}
use Rattle.lock_office.proofs.Seen.{counted-behind}
use mathlib.Core.Option as opt
use lib.ListN.{get_elem?}
use Rattle.programs.specs.Flat.{entry, IsAnswer}
use Rattle.lock_office.proofs.Sessions.{some-first, answered-at, replies-at, last-reply, readable-idle}
use Rattle.lock_office.proofs.session.Session.collect.Goals as goal

pub last_of-requires : goal.last_of-requires
last_of-requires c =
    let d = c.in_ok-found.ensures.some in
    let k = c.self.invariant.readable d.call d.floor d.pending in
    let some = replies-at c.collect.new.session.front c.in_ok-found.found.place c.self.inside.session.number d.call c.in_ok-found.found.reply (some-first d.call k.1) d.legal d.stands in
    record { served = subst (λ (p : Program). 0 < length (replies_of p c.in_ok-found.found.reply)) k.0 some }

pub returns-clause-some : goal.returns-clause-some
returns-clause-some c =
    let d = c.in_ok-found.ensures.some in
    let found = c.in_ok-found.found in
    let k = c.self.invariant.readable d.call d.floor d.pending in
    let fits = answered-at c.collect.new.session.front found.place c.self.inside.session.number d.call found.reply d.legal d.stands in
    let read = c.last_of.ensures in
    let last = subst (λ (p : Program). IsLastReply p found.reply c.last_of.result.place c.last_of.result.reply) (sym k.0)
    (last-reply c.self.inside.asked found.reply c.last_of.result.place c.last_of.result.reply (subst (λ (p : Program). IsAnswer program_form p found.reply) k.0 fits) read.last read.first) in
    let done : IsCollected c.self.inside.session c.collect.new.session c.last_of.result.place c.last_of.result.reply = record {
      answer = found.reply;
      at = found.place;
      collected = d;
      last = last;
    } in
    subst (λ (t : TicketView). IsCollected t c.collect.new.session c.last_of.result.place c.last_of.result.reply) c.self.view_is done

pub invariant_of-self-2 : goal.invariant_of-self-2
invariant_of-self-2 c =
    let d = c.in_ok-found.ensures.some in
    let found = c.in_ok-found.found in
    let t = c.collect.new.session in
    let s = c.self.inside.session in
    let asked = c.self.inside.asked in
    let k = c.self.invariant.readable d.call d.floor d.pending in
    let stands = subst (λ (p : Program). get_elem? t.front found.place ≡ opt.some (entry s.number p found.reply)) k.0 d.stands in
    record {
      readable = readable-idle c.seen_behind-self-inside.result asked t c.in_ok-found.ensures.idle.0;
      counted = counted-behind t.front found.place s.number asked found.reply _ _ d.legal stands
          (record { front = s.front; noted = c.self.invariant.counted; longer = d.longer; length_is = d.known }) c.seen_behind-self-inside.ensures;
    }
