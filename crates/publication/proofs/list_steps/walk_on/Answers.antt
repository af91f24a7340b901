use Rattle.std.proofs.Common.{rules, ℕ, subst}
use Rattle.publication.specs.StepKinds.{walks_on_from}
use Rattle.publication.proofs.ListKinds.{walk_on_kept, session_of_its_link}
use Rattle.publication.proofs.Routes.{named_first, named_few, route_behind}
use Rattle.publication.specs.List.{behind}
use Rattle.publication.proofs.list_steps.walk_on.Goals as goal

pub load-found-requires : goal.load-found-requires
load-found-requires g c = let m = c.args.seat.now.me in let mine = c.requires.mine in
    (search rules, search rules, walk_on_kept c.args.shared.now.table_id.slots c.args.seat.now.id m.0 m.1 mine.session mine.object c.args.at c.requires.on)

pub record_named-requires : goal.record_named-requires
record_named-requires g c = let n = c.args.shared.now.table_id.slots in let at = c.args.at in let route = c.args.seat.now.me.0.listing.route in
    let t = subst (λ (k : ℕ). walks_on_from n k c.args.seat.now.me c.load-found.result c.load-found.new.seat.me) (session_of_its_link at) c.load-found.ensures.2 in
    named_few n (behind at route) c.load-found.result c.requires.board.few (route_behind n at route t.2) t.1

pub returns-clause-next : goal.returns-clause-next
returns-clause-next g c = let n = c.args.shared.now.table_id.slots in let at = c.args.at in let route = c.args.seat.now.me.0.listing.route in
    let t = subst (λ (k : ℕ). walks_on_from n k c.args.seat.now.me c.load-found.result c.load-found.new.seat.me) (session_of_its_link at) c.load-found.ensures.2 in
    named_first n (behind at route) c.load-found.result c.record_named.result c.requires.board.few (route_behind n at route t.2) t.1 c.record_named.ensures.none c.record_named.ensures.some
