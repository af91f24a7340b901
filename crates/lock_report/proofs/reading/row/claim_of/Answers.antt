use Rattle.std.proofs.Common.{rules, ◌≡◌, None}
use Rattle.lock_report.specs.declared.snapshot.OpenTransaction.{OpenTransaction}
use Rattle.lock_report.proofs.ReadRows.{claim-iff}
use Rattle.lock_report.proofs.reading.row.claim_of.Goals as goal

pub returns-in_err-begun : goal.returns-in_err-begun
returns-in_err-begun c = λ x. (
  λ e. absurd cc,
  λ h.
      let begun : OpenTransaction = record { session = x.session; transaction = x.transaction } in
      let read = (c.open_of.ensures begun).1 ((h.0.0, h.0.1), h.2, h.3, h.4) in
      let none : c.open_of.result ≡ None = search rules in
      absurd cc,
)

pub returns : goal.returns
returns c =
    claim-iff c.args.sessions c.args.fields.word.now c.args.fields.session.now c.args.fields.number.now c.args.fields.victim.now c.args.fields.resource.now c.args.fields.mode.now c.kind_of.result c.open_of.result c.resource_of.result c.mode_of.result
    c.in_ok-kind.kind c.in_ok-begun.begun c.in_ok-resource.resource c.in_ok-mode.mode
    c.kind_of.ensures c.open_of.ensures c.resource_of.ensures c.mode_of.ensures (search rules) (search rules) (search rules) (search rules)
