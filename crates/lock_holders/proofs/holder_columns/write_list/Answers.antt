use Rattle.std.proofs.Common.{◌≡◌, ◌+◌, ◌∷◌, ◌++◌, [], ℕ, List, map, take, get_or, sym, ◌∙◌, ap, arith}
use Rattle.std.proofs.lemmas.List.{append_assoc, map-append, take_all}
use Rattle.lock_modes.specs.declared.Mode.{Mode}
use Rattle.lock_modes.specs.Codes.{mode_of_code}
use Rattle.lock_holders.specs.declared.session_mode.SessionMode.{SessionMode}
use Rattle.lock_holders.specs.SessionModes.{pair_of}
use Rattle.lock_holders.specs.inner.Columns.{side_by_side}
use Rattle.lock_holders.proofs.Columns.{side-next, side-long}
use Rattle.lock_holders.proofs.holder_columns.write_list.Goals as goal

pub loop-index-preserved : goal.loop-index-preserved
loop-index-preserved c =
    let ss = c.args.sessions.now in
    let cs = c.args.codes.now in
    let i = c.loop-index.index in
    let k = c.loop-index.invariant in
    let hs = take i (side_by_side ss cs) in
    let x = get_or ss i 0 in
    let y = get_or cs i 0 in
    let next : map pair_of (take (i + 1) (side_by_side ss cs)) ≡ map pair_of hs ++ (x, mode_of_code y) ∷ [] =
    ap (map pair_of) (side-next ss cs i c.requires.long c.loop-index-test.true) ∙ map-append pair_of hs (record { session = x; mode = mode_of_code y } ∷ []) in
    record {
      items = c.push_reserved.ensures.items ∙ ((λ j. k.items j ++ (x, c.from_code_or_nl.ensures j) ∷ []) ∙ (append_assoc c.args.list.now.items (map pair_of hs) ((x, mode_of_code y) ∷ []) ∙ ap (λ (ps : List (ℕ × Mode)). c.args.list.now.items ++ ps) (sym next)));
      len = omega (arith, k.len, c.push_reserved.ensures.len);
      room = omega (arith, k.room, c.push_reserved.ensures.capacity);
    }

pub returns : goal.returns
returns c =
    let ss = c.args.sessions.now in
    let cs = c.args.codes.now in
    record {
      items = c.loop-index.invariant.items ∙ ap (λ (hs : List SessionMode). c.args.list.now.items ++ map pair_of hs)
          (take_all c.loop-index.index (side_by_side ss cs) (omega (arith, side-long ss cs c.requires.long, c.loop-index-test.false)));
    }
