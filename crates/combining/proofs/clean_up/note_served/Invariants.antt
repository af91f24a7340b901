use Rattle.std.proofs.Common.{◌≡◌, drop, vec_len}
use Rattle.combining.specs.inner.Ages.{sessions_of, noted}
use Rattle.combining.proofs.clean_up.note_served.Given as goal

abbrev pub invariant-loop-item : goal.invariant-loop-item
invariant-loop-item g l = record {
  len : vec_len l.ages ≡ vec_len l.initial.ages;
  ages : noted l.ages.items (sessions_of (drop l.item-index l.served)) l.passes ≡ noted l.initial.ages.items (sessions_of l.served) l.passes;
}
