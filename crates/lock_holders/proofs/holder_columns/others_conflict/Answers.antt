use Rattle.std.proofs.Common.{◌≡◌, ℕ, ◌+◌, ◌-◌, ◌||◌, false, Some, add-one, length, take, drop, ◌∙◌, sym, ap, arith}
use Rattle.std.specs.List.{list_any}
use Rattle.std.proofs.lemmas.List.{take_all, length-drop}
use Rattle.mode_lanes.specs.Masks.{meets}
use Rattle.lock_holders.proofs.Columns.{none-before-first, one-of-others, none-of-others}
use Rattle.lock_holders.proofs.holder_columns.others_conflict.Goals as goal

pub returns-in-Some : goal.returns-in-Some
returns-in-Some c =
    let p = meets c.args.mask in
    let cs = c.args.codes.now in
    let n = c.args.own in
    let front : list_any p (take n cs) ≡ false = none-before-first p cs n (sym c.in-Some.ensures ∙ ap (λ (k : ℕ). Some k) c.if-at-own.true) in
    let whole : take (length cs - (n + 1)) (drop (n + 1) cs) ≡ drop (n + 1) cs = take_all _ _ (omega (arith, length-drop (n + 1) cs)) in
    c.conflicts-in-Some.ensures ∙ (ap (list_any p) whole ∙ (λ i. sym front i || list_any p (drop (n + 1) cs)))

pub returns-in-Some-2 : goal.returns-in-Some-2
returns-in-Some-2 c = sym (rw add-one (one-of-others (meets c.args.mask) c.args.codes.now c.in-Some.at c.args.own (sym c.in-Some.ensures) c.if-at-own.false))

pub returns-in-None : goal.returns-in-None
returns-in-None c = sym (rw add-one (none-of-others (meets c.args.mask) c.args.codes.now c.args.own (sym c.in-None.ensures)))
