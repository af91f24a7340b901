use Rattle.std.proofs.Common.{◌≡◌, ℕ, true, Some, sym, ap, ◌∙◌, subst}
use Rattle.lock_rules.specs.Waits.{waits_for}
use Rattle.lock_rules.specs.Listing.{waiting_line}
use Rattle.lock_desk.proofs.CyclesTold.{line-session, line-some}
use Rattle.lock_table.proofs.Listings.{request-shown}
use Rattle.lock_table.proofs.Simulation.{mode-shown}
use Rattle.lock_desk.proofs.deadlock_log.push_member.Goals as goal

pub returns-clause-told : goal.returns-clause-told
returns-clause-told c = λ st i h w.
    let d = c.args.table.now in
    let s = c.args.session in
    let q = c.in-Some.request in
    let line : waiting_line st s ≡ Some q = sym (request-shown d st c.requires.whole h s i) ∙ sym c.in-Some.ensures in
    let own = line-session st s q line in (
      record { request = q; held = c.held-held.result },
      c.push_reserved.ensures.items,
      own,
      record {
        request = ap (waiting_line st) own ∙ line;
        waits = subst (λ (u : ℕ). waits_for st.table u c.args.next ≡ true) (sym own) w;
        held = c.held-held.ensures ∙ mode-shown d st c.args.next q.resource h;
      },
    )

pub returns-in_default-clause-told : goal.returns-in_default-clause-told
returns-in_default-clause-told c = λ st i h w. absurd (line-some st c.args.session c.args.next w (sym (request-shown c.args.table.now st c.requires.whole h c.args.session i) ∙ sym c.in_default.ensures))
