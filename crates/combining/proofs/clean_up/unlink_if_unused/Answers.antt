use Rattle.std.proofs.Common.{rules, ◌≡◌, ◌∙◌, ⊎_elim, inl, inr, ◌<◌, ℕ, List, length, sym, ap, subst}
use Rattle.publication.specs.Views.{TicketView}
use Rattle.publication.specs.List.{IsOn, first_of, behind, without}
use Rattle.publication.proofs.ListLaws.{first_without}
use Rattle.combining.proofs.CleanUpWalk.{off-shorter, on-shorter, off-left}
use Rattle.combining.proofs.clean_up.unlink_if_unused.Goals as goal
use Rattle.combining.proofs.clean_up.unlink_if_unused.Goals.{else-unused-via-then-unused+else-unlink, else-unused-via-else-unused}

pub returns-then-unlink-clause-on : goal.returns-then-unlink-clause-on
returns-then-unlink-clause-on g c =
    let b = c.args.before in
    let route = c.args.session.now.route in
    let is : c.unlink.new.ticket.route ≡ without b route = ap (λ (t : TicketView _ _). t.route) (c.unlink.ensures.off c.if-unlink.true) in
    (c.requires.before.0, subst (λ (r : List ℕ). IsOn b r) (sym is) (off-shorter b c.args.whose route c.requires.route.apart c.requires.before.1 c.requires.whose.1).0)

pub returns-then-unlink-clause-first : goal.returns-then-unlink-clause-first
returns-then-unlink-clause-first g c =
    let route = c.args.session.now.route in
    let is : c.unlink.new.ticket.route ≡ without c.args.before route = ap (λ (t : TicketView _ _). t.route) (c.unlink.ensures.off c.if-unlink.true) in
    ap (λ (r : List ℕ). first_of r) is ∙ first_without c.args.before route

pub returns-then-unlink-clause-left : goal.returns-then-unlink-clause-left
returns-then-unlink-clause-left g c j on =
    let route = c.args.session.now.route in
    let is : c.unlink.new.ticket.route ≡ without c.args.before route = ap (λ (t : TicketView _ _). t.route) (c.unlink.ensures.off c.if-unlink.true) in
    ⊎_elim (λ still. inl (subst (λ (r : List ℕ). IsOn j r) (sym is) still)) (λ off. inr (off, c.if-unused.true))
    (off-left c.args.before c.args.whose route c.requires.before.1 c.requires.whose.1 j on)

pub returns-then-unlink-clause-shorter : goal.returns-then-unlink-clause-shorter
returns-then-unlink-clause-shorter g c =
    let b = c.args.before in
    let route = c.args.session.now.route in
    let is : c.unlink.new.ticket.route ≡ without b route = ap (λ (t : TicketView _ _). t.route) (c.unlink.ensures.off c.if-unlink.true) in
    subst (λ (r : List ℕ). length (behind b r) < length (behind b route)) (sym is) (off-shorter b c.args.whose route c.requires.route.apart c.requires.before.1 c.requires.whose.1).1

pub returns-clause-on : goal.returns-clause-on
returns-clause-on g c =
    let route = c.args.session.now.route in
    let same : c.else-unused.session ≡ c.args.session.now = elim c.else-unused.branch [
      | else-unused-via-then-unused+else-unlink w ↦ search rules
      | else-unused-via-else-unused w ↦ search rules
    ] in
    (c.requires.whose.0, subst (λ (t : TicketView _ _). IsOn c.args.whose t.route) (sym same) (on-shorter c.args.before c.args.whose route c.requires.route.apart c.requires.before.1 c.requires.whose.1).0)

pub returns-clause-shorter : goal.returns-clause-shorter
returns-clause-shorter g c =
    let route = c.args.session.now.route in
    let same : c.else-unused.session ≡ c.args.session.now = elim c.else-unused.branch [
      | else-unused-via-then-unused+else-unlink w ↦ search rules
      | else-unused-via-else-unused w ↦ search rules
    ] in
    subst (λ (t : TicketView _ _). length (behind c.args.whose t.route) < length (behind c.args.before route)) (sym same)
    (on-shorter c.args.before c.args.whose route c.requires.route.apart c.requires.before.1 c.requires.whose.1).1
