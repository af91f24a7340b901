use Rattle.std.proofs.Common.{◌∙◌, List, ap, rules}
use Rattle.std.proofs.lemmas.Fn.{always_returns_same}
use Rattle.std.proofs.lemmas.List.Sorted.{IsNonDecreasingBy-from_sort_by_key}
use Rattle.lock_rules.specs.declared.listing.Claim.{Claim}
use Rattle.lock_report.specs.StateText.{claims_of}
use Rattle.lock_report.specs.inner.BySession.{session_of}
use Rattle.lock_report.proofs.Sessions.{stable_keeps}
use Rattle.lock_report.proofs.by_session.claims_by_session.Goals as goal

pub returns : goal.returns
returns c = record {
  ascends = IsNonDecreasingBy-from_sort_by_key session_of _ c.in_ok-sort_by_key.ensures.sorted (λ a r q k. search rules);
  each = λ s. stable_keeps c.in_ok-sorted.sorted.items c.sort_by_key.new.self.items s (c.in_ok-sort_by_key.ensures.stable session_of (always_returns_same _ _ _ (λ a r q k. search rules)))
      ∙ ap (λ (cs : List Claim). claims_of s cs) (c.in_ok-sorted.ensures.items_if_clones_equal (λ x y e. e));
}
