use Rattle.std.proofs.Common.{rules, ◌≡◌, ◌∷◌, ℕ, None, sym, ap, subst, arith}
use mathlib.Core.Option as opt
use Rattle.atomic_table.specs.Table.{Allows, step, rest}
use Rattle.publication.specs.Words.{word_of, POSTED}
use Rattle.publication.specs.List.{IsBounded, bound_of}
use Rattle.publication.specs.StepKinds.{Seated, posts}
use Rattle.publication.specs.Runs.{LaysDownItsOwn}
use Rattle.publication.specs.declared.slot.SlotValue.TheVariants.{PostedCall}
use Rattle.publication.proofs.RecordStates.{lacks}
use Rattle.publication.proofs.SessionKinds.{post_kept}
use Rattle.publication.proofs.steps.publish_in_record.Goals as goal

pub swap-requires : goal.swap-requires
swap-requires g c = let v = c.args.seat.now.me.0 in let at = c.args.at in let n = c.args.shared.now.table_id.slots in let id = c.exchange.new.seat.id in (
  search rules,
  search rules,
  λ state rule many seated short. let r = (subst (λ (m : Seated _ _ _). Allows (IsBounded g.O.Sequential (bound_of g.O.Sequential.bound c.args.shared.now.key.object.items)) n id m (word_of at) (λ _. POSTED) (posts g.O.Sequential (step n (word_of at) POSTED 0 opt.none) m)) (sym c.exchange.ensures.3)
      (post_kept n id at v (rest c.args.seat.now.me.1) c.requires.mine c.requires.at.some c.args.call c.requires.idle.0 c.requires.idle.1)) state rule many seated short in (
        r.0,
        r.1,
        r.2,
        r.3,
        (
          r.4,
          subst (λ (m : Seated _ _ _). (m.0.own.pending ≡ None) × LaysDownItsOwn m) (sym c.exchange.ensures.3) (
            lacks v.own.pending c.requires.idle.0,
            record {
              session = λ z. omega (arith, z, c.requires.mine, c.requires.at.some);
              slot = PostedCall c.args.call;
              more = rest c.args.seat.now.me.1;
              carried = ap (λ (k : ℕ). (k, PostedCall c.args.call) ∷ rest c.args.seat.now.me.1) (sym c.requires.mine);
            },
          ),
        ),
      ),
)
