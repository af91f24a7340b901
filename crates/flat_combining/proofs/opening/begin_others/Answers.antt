use Rattle.std.proofs.Common.{rules, ◌≡◌, ◌∙◌, map, [], ◌∷◌, ◌++◌, sym, refl, subst, ap, ap₂, append_assoc}
use Rattle.std.proofs.lemmas.List.{map_push}
use Rattle.std.proofs.lemmas.List.Elements.{All-nil, All-push, All-head, All-rest, All-same}
use mathlib.Core.Option as opt
use lib.ListN.{get_elem?}
use Rattle.publication.specs.Views.{TicketView, entry, answer}
use Rattle.combining.specs.Sessions.{IsSessionOf, IsIdle}
use Rattle.flat_combining.specs.Runs.{BeginsWith}
use Rattle.flat_combining.proofs.Runs.{begins-longer, begins-at, but_known}
use Rattle.flat_combining.proofs.opening.begin_others.Goals as goal

pub loop-session-init : goal.loop-session-init
loop-session-init g c =
    let ready : TicketView g.row.M-Call.Denot g.row.M-Reply.Denot → Type 0 = λ session. IsSessionOf c.args.office.now session × IsIdle session in
    let a = c.in-Answered.answer in
    let first : a.place ≡ 0 = search rules in
    let called = c.call-next.ensures.answered a c.in-Answered.is in
    let at = subst (λ place. get_elem? c.call-next.new.session.front place ≡ opt.some (entry c.args.own.now.number c.args.first a.reply)) first called.stands in
    let rest : c.into_iter-session-iterator.result.rest.items ≡ c.args.others.items = search rules in (
      ((c.call-next.ensures.ours, c.call-next.ensures.idle a c.in-Answered.is), begins-at c.args.first c.call-next.new.session.front _ refl at),
      All-same ready _ _ c.new-made.ensures.items (All-nil ready),
      All-same (λ session. BeginsWith c.args.first session.front) _ _ c.new-made.ensures.items (All-nil _),
      All-same ready _ _ rest c.requires.others,
      ap₂ (λ made rest. map but_known made ++ map but_known rest) c.new-made.ensures.items rest,
      ap (λ t. t.number) called.session,
      (a.reply, ap (λ t. t.collected) called.session ∙ ap (λ place. c.args.own.now.collected ++ answer place c.args.first a.reply ∷ []) first),
    )

pub loop-session-preserved : goal.loop-session-preserved
loop-session-preserved g c =
    let ready : TicketView g.row.M-Call.Denot g.row.M-Reply.Denot → Type 0 = λ session. IsSessionOf c.args.office.now session × IsIdle session in
    let begun : TicketView g.row.M-Call.Denot g.row.M-Reply.Denot → Type 0 = λ session. BeginsWith c.args.first session.front in
    let now = c.loop-session.invariant in
    let rest = c.next.new.self.rest.items in
    let before = map but_known c.loop-session.made.items in
    let came = c.in-Some.ensures.steps.0 in
    let heard = c.hear.new.session in
    let first : ready c.in-Some.session = All-head ready c.in-Some.session rest (All-same ready _ _ (sym came) now.3) in
    let same : but_known heard ≡ but_known c.in-Some.session = ap but_known c.hear.ensures.session in
    let idle : IsIdle heard = (ap (λ t. t.pending) same ∙ first.1.0, ap (λ t. t.retired) same ∙ first.1.1) in
    let its : begun heard = begins-longer _ c.loop-session.own.front heard.front now.0.1 c.hear.ensures.fronts.1 in (
      subst (λ own. ready own × begun own) (sym c.hear.ensures.other) now.0,
      All-same ready _ _ c.in_ok-push.ensures.items (All-push ready c.loop-session.made.items heard now.1 (c.hear.ensures.ours.0, idle)),
      All-same begun _ _ c.in_ok-push.ensures.items (All-push begun c.loop-session.made.items heard now.2 its),
      All-rest ready c.in-Some.session rest _ came now.3,
      ap (λ made. map but_known made ++ map but_known rest) c.in_ok-push.ensures.items ∙ ap (λ made. made ++ map but_known rest) (map_push but_known c.loop-session.made.items heard)
          ∙ append_assoc before (but_known heard ∷ []) (map but_known rest) ∙ ap (λ session. before ++ session ∷ map but_known rest) same
          ∙ ap (λ rest. before ++ map but_known rest) (sym came) ∙ now.4,
      ap (λ t. t.number) c.hear.ensures.other ∙ now.5,
      (now.6.0, ap (λ t. t.collected) c.hear.ensures.other ∙ now.6.1),
    )
