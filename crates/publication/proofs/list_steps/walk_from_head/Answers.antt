use Rattle.std.proofs.Common.{rules, ◌≡◌, ℕ, List, sym, ap, subst}
use Rattle.publication.specs.StepKinds.{Seated}
use Rattle.publication.specs.List.{first_of}
use Rattle.publication.proofs.ListKinds.{walk_kept}
use Rattle.publication.proofs.Routes.{named_first, named_few}
use Rattle.publication.proofs.list_steps.walk_from_head.Goals as goal

pub load-found-requires : goal.load-found-requires
load-found-requires g c = let m = c.args.seat.now.me in let mine = c.requires.mine in
    (search rules, search rules, walk_kept c.args.shared.now.table_id.slots c.args.seat.now.id m.0 m.1 mine.session mine.object c.requires.whole)

pub record_named-requires : goal.record_named-requires
record_named-requires g c = let t = c.load-found.ensures.2 in named_few c.args.shared.now.table_id.slots t.0 c.load-found.result c.requires.board.few t.3 t.2

pub returns-clause-first : goal.returns-clause-first
returns-clause-first g c = let t = c.load-found.ensures.2 in
    let route : c.load-found.new.seat.me.0.listing.route ≡ t.0 = ap (λ (x : Seated _ _ _). x.0.listing.route) t.1 in
    subst (λ (l : List ℕ). c.record_named.result ≡ first_of l) (sym route)
    (named_first c.args.shared.now.table_id.slots t.0 c.load-found.result c.record_named.result c.requires.board.few t.3 t.2 c.record_named.ensures.none c.record_named.ensures.some)
