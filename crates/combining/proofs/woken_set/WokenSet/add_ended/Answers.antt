use Rattle.std.proofs.Common.{◌≤◌, inl, inr, ⊎_elim, length, get_or, arith}
use Rattle.std.proofs.lemmas.List.Elements.{Contains-get_or}
use Rattle.combining.proofs.EndedWaits.{none-from}
use Rattle.combining.proofs.woken_set.WokenSet.add_ended.Goals as goal

pub add_all-requires : goal.add_all-requires
add_all-requires g c = record {
  within = λ k d few.
      let tells = c.requires.tells c.if-served-gt0.true in
      let u = get_or c.ended.result.now k d in
      let w = (c.ended.ensures tells.0 u tells.1).0 (Contains-get_or c.ended.result.now k d few) in
      let most = w.1 in (w.0, omega (arith, most, c.requires.within));
}

pub returns-then-served-gt0-clause-members : goal.returns-then-served-gt0-clause-members
returns-then-served-gt0-clause-members g c from u tells count =
    let l = c.add_all.ensures.members u in
    let e = c.ended.ensures from u (tells c.if-served-gt0.true) in (
      λ h. ⊎_elim (λ o. inl o) (λ x. inr (e.0 x)) (l.0 h),
      λ h. l.1 (⊎_elim (λ o. inl o) (λ x. inr (e.1 x)) h),
    )

pub returns-else-served-gt0-clause-members : goal.returns-else-served-gt0-clause-members
returns-else-served-gt0-clause-members g c from u tells count =
    let history = g.O.Sequential.history c.args.object.now in
    let late : length history ≤ from = omega (arith, count, c.if-served-gt0.false) in (
      λ h. inl h,
      λ h. ⊎_elim (λ o. o) (λ x. absurd (none-from (g.O.Sequential.sessions c.args.object.now) history from u late x)) h,
    )
