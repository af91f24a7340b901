-- Steps that lay down no load: an object that is at home afterwards was at home before.
use Rattle.std.proofs.Common.{◌≡◌, ◌≢◌, ℕ, zero, suc, List, [], ◌∷◌, get_or, set, sym, subst}
use Rattle.sequential.specs.Bounds.{Bounds}
use mathlib.Core.Option as opt
use lib.ListN.{get_elem?}
use Rattle.std.specs.Global.{Box}
use Rattle.atomic_table.specs.Table.{Act, keeps, takes, gives, chain, Valid, homes_after, Splits, Joins}
use Rattle.sequential.specs.declared.object.Sequential.{Ghosts}
use Rattle.publication.specs.List.{IsRuled, IsBounded}
use Rattle.publication.specs.declared.view.View.{View}
use Rattle.publication.specs.declared.slot.Load.{Load}
use Rattle.publication.specs.declared.slot.SlotValue.{SlotValue}
use Rattle.publication.specs.declared.slot.SlotValue.TheVariants.{Empty, PostedCall, ServedReply, ObjectLoad}

module _ {O C R : Type 0} where
  -- The value isn't the load.
  abbrev pub IsNoLoad : SlotValue O C R → Type 0
  IsNoLoad Empty = Unit {0}
  IsNoLoad (PostedCall call) = Unit {0}
  IsNoLoad (ServedReply place reply) = Unit {0}
  IsNoLoad (ObjectLoad load) = ⊥

  -- The slot taken last doesn't have the load.
  abbrev pub LaysNoLoad : List (ℕ × SlotValue O C R) → Type 0
  LaysNoLoad [] = Unit {0}
  LaysNoLoad (x ∷ xs) = IsNoLoad x.1

  -- The act fits the slots at home, and lays down no load.
  abbrev pub Fits : List (opt.Option (SlotValue O C R)) → List (ℕ × SlotValue O C R) → Act (SlotValue O C R) → Type 0
  Fits hs c keeps = Unit {0}
  Fits hs c (takes k y) = get_elem? hs k ≡ opt.some (opt.some y)
  Fits hs c gives = LaysNoLoad c
  Fits hs c (chain a b) = ⊥

  pub valid_of : (hs : List (opt.Option (SlotValue O C R))) (c : List (ℕ × SlotValue O C R)) (a : Act (SlotValue O C R)) → Fits hs c a → Valid hs c a
  valid_of hs c keeps fits = tt
  valid_of hs c (takes k y) fits = fits
  valid_of hs c gives fits = tt
  valid_of hs c (chain a b) fits = absurd fits

  -- A slot that is taken has nothing at home.
  taken : (hs : List (opt.Option (SlotValue O C R))) (k : ℕ) (load : Box (Load O C R)) → get_or (set hs k opt.none) 0 opt.none ≡ opt.some (ObjectLoad load) → get_or hs 0 opt.none ≡ opt.some (ObjectLoad load)
  taken [] k load there = there
  taken (h ∷ hs) zero load there = absurd (opt.some-ne-none (ObjectLoad load) (sym there))
  taken (h ∷ hs) (suc k) load there = there

  no_load : (y : SlotValue O C R) → IsNoLoad y → (load : Box (Load O C R)) → y ≢ ObjectLoad load
  no_load y other load is = subst IsNoLoad is other

  -- A slot that is laid down has no load.
  laid : (hs : List (opt.Option (SlotValue O C R))) (k : ℕ) (y : SlotValue O C R) → IsNoLoad y → (load : Box (Load O C R))
      → get_or (set hs k (opt.some y)) 0 opt.none ≡ opt.some (ObjectLoad load) → get_or hs 0 opt.none ≡ opt.some (ObjectLoad load)
  laid [] k y other load there = there
  laid (h ∷ hs) zero y other load there = absurd (no_load y other load (opt.some-injective y (ObjectLoad load) there))
  laid (h ∷ hs) (suc k) y other load there = there

  pub stays_home : (hs : List (opt.Option (SlotValue O C R))) (c : List (ℕ × SlotValue O C R)) (a : Act (SlotValue O C R)) → Fits hs c a → (load : Box (Load O C R))
      → get_or (homes_after hs c a) 0 opt.none ≡ opt.some (ObjectLoad load) → get_or hs 0 opt.none ≡ opt.some (ObjectLoad load)
  stays_home hs c keeps fits load there = there
  stays_home hs c (takes k y) fits load there = taken hs k load there
  stays_home hs [] gives fits load there = there
  stays_home hs (x ∷ xs) gives fits load there = laid hs x.0 x.1 fits load there
  stays_home hs c (chain a b) fits load there = absurd fits

module _ {O C R : Type 0} {obj : Ghosts O C R} {bound : Bounds} where
  -- A split or a join of seats moves no value.

  pub splits_bounded : {id : ℕ} {v left right : View C R} → Splits (IsRuled obj) id v left right → Splits (IsBounded obj bound) id v left right
  splits_bounded t s b me = record { ruled = t s b.ruled me; within = b.within }

  pub joins_bounded : {id : ℕ} {v : View C R} {other : ℕ} {w both spent : View C R} → Joins (IsRuled obj) id v other w both spent → Joins (IsBounded obj bound) id v other w both spent
  joins_bounded t s b me apart beside = record { ruled = t s b.ruled me apart beside; within = b.within }
