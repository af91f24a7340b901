use Rattle.std.proofs.Common.{◌++◌, ◌∷◌, [], List, length, ◌∙◌, sym, ap, subst, arith}
use Rattle.lock_rules.specs.Entries.{Entry}
use Rattle.lock_rules.specs.Step.{step}
use Rattle.lock_rules.specs.Legal.{state_of}
use Rattle.lock_rules.proofs.Steps.{state-lawful}
use Rattle.lock_rules.proofs.Owners.{state-numbered}
use Rattle.lock_desk.specs.Deadlocks.{AreDeadlocksTold, deadlocks_in, newest}
use Rattle.lock_desk.specs.inner.Noting.{LogView}
use Rattle.lock_rules.specs.State.{is_waiting}
use Rattle.lock_desk.specs.inner.Counting.{with_own_wait, AreCallsCounted, AreWaitsCounted}
use Rattle.lock_desk.proofs.DeadlocksOfHistories.{told-more}
use Rattle.lock_desk.proofs.CallsCounted.{waits-counted}
use Rattle.lock_desk.proofs.BookInvariant.{kept-more, kept-same, waits_ended-ends}
use Rattle.lock_desk.specs.declared.call_counts.CallCounts.{CallCounts}
use Rattle.lock_desk.proofs.recording.serve_recorded.Goals as goal

pub returns-in_err-reply-clause-kept : goal.returns-in_err-reply-clause-kept
returns-in_err-reply-clause-kept c =
    let k = c.requires.kept in
    let es = c.args.history.now.items in
    let e = c.in_err-reply.ensures in
    kept-same c.args.table.now c.serve_call.new.table es c.reserve.new.self.items c.reserve.ensures.items k (e.err (state_of es) k.shows) e.kept.whole e.kept.ready e.kept.lockers

pub returns-clause-kept : goal.returns-clause-kept
returns-clause-kept c =
    let k = c.requires.kept in
    let es = c.args.history.now.items in
    let e = c.in_ok-reply.ensures in
    let s = e.step (state_of es) (state-lawful es).sound (state-numbered es) k.shows in
    kept-more c.args.table.now c.serve_call.new.table es c.push_reserved.new.self.items c.args.session c.args.call c.in_ok-reply.reply
    (c.push_reserved.ensures.items ∙ ap (λ (xs : List Entry). xs ++ record { session = c.args.session; call = c.args.call; reply = c.in_ok-reply.reply } ∷ []) c.in_ok-reserve.ensures.items)
    k c.requires.some c.requires.within s.0 s.1 e.kept.whole e.kept.ready e.kept.lockers e.count

pub returns-clause-reply : goal.returns-clause-reply
returns-clause-reply c =
    let es = c.args.history.now.items in
    (c.in_ok-reply.ensures.step (state_of es) (state-lawful es).sound (state-numbered es) c.requires.kept.shows).0

pub returns-clause-ended : goal.returns-clause-ended
returns-clause-ended c = λ u.
    let k = c.requires.kept in
    let es = c.args.history.now.items in
    let e = c.in_ok-reply.ensures in
    let s = e.step (state_of es) (state-lawful es).sound (state-numbered es) k.shows in
    waits_ended-ends c.args.session c.args.table.now c.serve_call.new.table (state_of es) (step (state_of es) c.args.session c.args.call).state k.whole e.kept.whole k.shows s.1 c.serve_call.ensures.waits_ended u

pub returns-in_err-reply-clause-told : goal.returns-in_err-reply-clause-told
returns-in_err-reply-clause-told c =
    let same = c.in_err-reply.ensures.unnoted in
    subst (λ (l : LogView). AreDeadlocksTold (newest l.most (deadlocks_in c.reserve.new.self.items)) l.told) (sym same)
    (subst (λ (es : List Entry). AreDeadlocksTold (newest c.args.notes.now.log.most (deadlocks_in es)) c.args.notes.now.log.told) (sym c.reserve.ensures.items) c.requires.told)

pub returns-clause-told : goal.returns-clause-told
returns-clause-told c =
    let es = c.args.history.now.items in
    let noted = c.in_ok-reply.ensures.noted (state_of es) (state-lawful es).sound (state-numbered es) c.requires.kept.shows in
    told-more es c.push_reserved.new.self.items (record { session = c.args.session; call = c.args.call; reply = c.in_ok-reply.reply }) c.count-served.result
    (record c.args.notes.now.log { counts = with_own_wait (is_waiting (state_of es) c.args.session) c.args.call c.args.notes.now.log.counts }) c.serve_call.new.notes.log
    (c.push_reserved.ensures.items ∙ ap (λ (xs : List Entry). xs ++ record { session = c.args.session; call = c.args.call; reply = c.in_ok-reply.reply } ∷ []) c.in_ok-reserve.ensures.items)
    (c.count-served.ensures.count ∙ ap length c.in_ok-reserve.ensures.items) noted c.requires.told

pub returns-clause-most : goal.returns-clause-most
returns-clause-most c =
    let es = c.args.history.now.items in
    (c.in_ok-reply.ensures.noted (state_of es) (state-lawful es).sound (state-numbered es) c.requires.kept.shows).most

pub returns-clause-log : goal.returns-clause-log
returns-clause-log c = λ some. c.serve_call.ensures.log some ∙ sym c.serve_call.ensures.kept.lockers

pub returns-in_err-reply-clause-log : goal.returns-in_err-reply-clause-log
returns-in_err-reply-clause-log c = λ some. c.serve_call.ensures.log some ∙ sym c.serve_call.ensures.kept.lockers

pub returns-clause-calls : goal.returns-clause-calls
returns-clause-calls c =
    let es = c.args.history.now.items in
    let entry : Entry = record { session = c.args.session; call = c.args.call; reply = c.in_ok-reply.reply } in
    subst (λ (xs : List Entry). AreCallsCounted xs c.serve_call.new.notes.counts) (sym (c.push_reserved.ensures.items ∙ ap (λ (xs : List Entry). xs ++ entry ∷ []) c.in_ok-reserve.ensures.items))
    (c.in_ok-reply.ensures.counted es c.requires.calls (omega (arith, c.in_ok-reserve.ensures.places, ap length c.in_ok-reserve.ensures.items)))

pub returns-clause-waits : goal.returns-clause-waits
returns-clause-waits c =
    let es = c.args.history.now.items in
    let k = c.requires.kept in
    let entry : Entry = record { session = c.args.session; call = c.args.call; reply = c.in_ok-reply.reply } in
    let numbered = state-numbered es in
    let s = c.in_ok-reply.ensures.step (state_of es) (state-lawful es).sound numbered k.shows in
    let noted = c.in_ok-reply.ensures.noted (state_of es) (state-lawful es).sound numbered k.shows in
    waits-counted es c.push_reserved.new.self.items c.args.session c.args.call c.in_ok-reply.reply c.count-served.result c.args.notes.now.log.counts c.serve_call.new.notes.log.counts
    (c.push_reserved.ensures.items ∙ ap (λ (xs : List Entry). xs ++ entry ∷ []) c.in_ok-reserve.ensures.items) k.legal s.0 numbered
    (c.count-served.ensures.count ∙ ap length c.in_ok-reserve.ensures.items) (omega (arith, c.in_ok-reserve.ensures.places, ap length c.in_ok-reserve.ensures.items)) noted.counted c.requires.waits

pub returns-in_err-reply-clause-calls : goal.returns-in_err-reply-clause-calls
returns-in_err-reply-clause-calls c =
    subst (λ (n : CallCounts). AreCallsCounted c.reserve.new.self.items n) (sym c.in_err-reply.ensures.uncounted)
    (subst (λ (es : List Entry). AreCallsCounted es c.args.notes.now.counts) (sym c.reserve.ensures.items) c.requires.calls)

pub returns-in_err-reply-clause-waits : goal.returns-in_err-reply-clause-waits
returns-in_err-reply-clause-waits c =
    subst (λ (l : LogView). AreWaitsCounted c.reserve.new.self.items l.counts) (sym c.in_err-reply.ensures.unnoted)
    (subst (λ (es : List Entry). AreWaitsCounted es c.args.notes.now.log.counts) (sym c.reserve.ensures.items) c.requires.waits)
