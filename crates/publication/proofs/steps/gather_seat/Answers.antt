use Rattle.std.proofs.Common.{rules, ◌≡◌, ◌≢◌, ◌∷◌, ◌∙◌, ℕ, List, [], refl, sym, ap, subst, arith}
use mathlib.Core.Option as opt
use Rattle.atomic_table.specs.Table.{Allows, Joins, step, rest}
use Rattle.publication.specs.Words.{word_of}
use Rattle.publication.specs.Rule.{blank}
use Rattle.publication.specs.List.{IsBounded, bound_of}
use Rattle.publication.specs.StepKinds.{Seated, leaving, leaves, gathered}
use Rattle.publication.specs.declared.slot.SlotValue.{SlotValue}
use Rattle.publication.specs.declared.slot.SlotValue.TheVariants.{Empty}
use Rattle.publication.proofs.RecordStates.{lacks}
use Rattle.publication.proofs.SessionKinds.{leave_kept}
use Rattle.publication.proofs.LaidDown.{joins_bounded}
use Rattle.publication.proofs.SplitsAndJoins.{gathers}
use Rattle.publication.proofs.steps.gather_seat.Goals as goal

pub load-requires : goal.load-requires
load-requires g c = let m = c.args.other.me in let at = c.args.at in let n = c.args.shared.now.table_id.slots in let id = c.args.other.id in (
  search rules,
  search rules,
  λ state rule many seated short. let r = (subst (λ (l : List (ℕ × SlotValue _ _ _)). Allows (IsBounded g.O.Sequential (bound_of g.O.Sequential.bound c.args.shared.now.key.object.items)) n id (m.0, l) (word_of at) (λ y. y) (leaves (step n (word_of at) 0 0 opt.none) (m.0, l))) (sym c.requires.carried)
      (leave_kept n id at m.0 [] c.requires.theirs c.requires.at.some c.requires.settled.0)) state rule many seated short in (
        r.0,
        r.1,
        r.2,
        r.3,
        (
          r.4,
          (
            lacks m.0.own.pending c.requires.settled.0,
            record {
              session = λ z. omega (arith, z, c.requires.theirs, c.requires.at.some);
              slot = Empty;
              more = [];
              carried = c.requires.carried ∙ ap (λ (k : ℕ). (k, Empty) ∷ []) (sym c.requires.theirs);
            },
          ),
        ),
      ),
)

pub join_seat-requires : goal.join_seat-requires
join_seat-requires g c = let v = c.args.seat.now.me.0 in let w = c.args.other.me.0 in let id = c.load.new.seat.id in
    let after : c.load.new.seat.me ≡ (leaving w, []) = c.load.ensures.2.0 ∙ ap (λ (l : List (ℕ × SlotValue _ _ _)). (leaving w, rest l)) c.requires.carried in
    let named : w.number ≢ 0 = λ e. omega (arith, c.requires.theirs, c.requires.at.some) in (
      search rules,
      search rules,
      ap (λ (x : Seated _ _ _). x.1) after,
      search rules,
      subst (λ (x : Seated _ _ _). Joins (IsBounded g.O.Sequential (bound_of g.O.Sequential.bound c.args.shared.now.key.object.items)) c.args.seat.now.id v id x.0 (gathered v x.0) blank) (sym after) (joins_bounded (gathers c.args.seat.now.id v id (leaving w) c.requires.closing named refl c.requires.settled.1)),
    )
