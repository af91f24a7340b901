use Rattle.std.proofs.Common.{◌≡◌, ◌∙◌, ℕ, List, length, take, replicate, sym, ap, subst, arith}
use Rattle.std.proofs.lemmas.List.{length-take-le, length-replicate}
use Rattle.lock_rules.specs.declared.calls.TheConstants.{MAX_SESSIONS}
use Rattle.lock_rules.specs.Legal.{state_of}
use Rattle.lock_rules.specs.Waits.{waits_for}
use Rattle.lock_desk.specs.Queries.{blockers_among}
use Rattle.library_books.specs.Calls.{are_written}
use Rattle.library_books.proofs.Blockers.{few-listed, front-written}
use Rattle.library_books.proofs.listing.blockers.Goals as goal

pub slice_bounds-found-end : goal.slice_bounds-found-end
slice_bounds-found-end c =
    let b = c.args.book.now in
    omega (arith, c.blockers-all.ensures.count, few-listed (waits_for (state_of b.history).table c.in-Some.number) 1 b.sessions, c.sessions-sessions.ensures.few, c.blockers-all.auto.list)

pub slice_bounds-write_all-end : goal.slice_bounds-write_all-end
slice_bounds-write_all-end c =
    let b = c.args.book.now in
    sym (length-take-le c.blockers-all.result c.blockers-all.new.list
    (omega (arith, c.blockers-all.ensures.count, few-listed (waits_for (state_of b.history).table c.in-Some.number) 1 b.sessions, c.sessions-sessions.ensures.few, c.blockers-all.auto.list)))

pub returns-clause-ok : goal.returns-clause-ok
returns-clause-ok c =
    let b = c.args.book.now in
    let number = c.in-Some.number in
    let known = c.in-Some.ensures.some in
    let all = blockers_among b.sessions (state_of b.history).table number in
    let told = c.blockers-all.ensures in
    let zeros : List ℕ = replicate MAX_SESSIONS 0 in
    let front : take c.blockers-all.result c.blockers-all.new.list ≡ all = (λ i. take (told.count i) (told.list i))
    ∙ front-written all zeros (length zeros) (omega (arith, few-listed (waits_for (state_of b.history).table number) 1 b.sessions, c.sessions-sessions.ensures.few, length-replicate {A = ℕ} MAX_SESSIONS 0)) in
    let written : c.write_all.new.places ≡ are_written (λ u. u) all c.args.list.now = c.write_all.ensures.written ∙ ap (λ (l : List ℕ). are_written (λ u. u) l c.args.list.now) front in
    λ _. (
      known.1,
      subst (λ (s : ℕ). (c.write_all.new.places ≡ are_written (λ u. u) (blockers_among b.sessions (state_of b.history).table s) c.args.list.now)
          × (c.blockers-all.result ≡ length (blockers_among b.sessions (state_of b.history).table s))) known.0 (written, told.count),
    )
