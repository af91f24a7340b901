use Rattle.std.proofs.Common.{◌+◌, ◌||◌, not, add-one, take, drop, ◌∙◌, sym, ap, subst}
use Rattle.std.specs.List.{list_any}
use Rattle.mode_lanes.specs.Masks.{meets}
use Rattle.lock_holders.specs.Holders.{IsOwn, IsBetween, IsPlaceOf}
use Rattle.lock_holders.proofs.Columns.{columns-of, meets-goes, goes-beside}
use Rattle.lock_holders.proofs.Rising.{fits-own, fits-between}
use Rattle.lock_holders.proofs.holder_columns.Columns.fits.Goals as goal

pub returns-in-Own : goal.returns-in-Own
returns-in-Own c =
    let hs = c.args.self.now.items in
    let n = c.in-Own.index in
    let cs = c.as_slice.result.now in
    let o = columns-of c.self.inside c.args.self.now c.self.view_is c.self.invariant in
    let here : IsOwn c.args.asker.session hs n = subst (IsPlaceOf c.args.asker.session hs) c.in-Own.is c.requires.place in
    let mask = c.conflict_mask-mask.ensures in
    ap not (c.others_conflict.ensures ∙ (λ i. list_any (meets (mask i)) (take n cs) || list_any (meets (mask i)) (drop (n + 1) cs)))
    ∙ rw add-one (goes-beside c.args.asker.mode cs hs n (c.as_slice.ensures ∙ o.codes) ∙ sym (fits-own c.args.asker hs n here))

pub returns-in-Between : goal.returns-in-Between
returns-in-Between c =
    let hs = c.args.self.now.items in
    let o = columns-of c.self.inside c.args.self.now c.self.view_is c.self.invariant in
    let here : IsBetween c.args.asker.session hs c.in-Between.field-0 = subst (IsPlaceOf c.args.asker.session hs) c.in-Between.is c.requires.place in
    ap not (c.conflicts.ensures ∙ (λ i. list_any (meets (c.conflict_mask-mask.ensures i)) ((c.as_slice-in-Between.ensures ∙ o.codes) i)))
    ∙ (meets-goes c.args.asker.mode hs ∙ sym (fits-between c.args.asker hs c.in-Between.field-0 here))
