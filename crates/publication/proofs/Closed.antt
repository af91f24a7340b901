-- A closed board: once each session was handed in, the object is at home, and each session's calls in the history are
-- those that it collected.
use Rattle.std.proofs.Common.{◌≡◌, ℕ, ◌^◌, ◌<◌, true, List, length, get_or, sym, refl, ap, ◌∙◌, subst, arith}
use Rattle.sequential.specs.Bounds.{Bounds}
use mathlib.Core.Option as opt
use mathlib.Core.Logic.{dite}
use mathlib.Core.List.{IsPrefix}
use native.Mathlib.Decide.{ℕ_discrete}
use lib.ListN.{get_elem?}
use Rattle.std.specs.Global.{Box}
use Rattle.std.specs.Prelude.{All}
use Rattle.atomic_table.specs.Table.{Seen, Final}
use Rattle.sequential.specs.declared.entry.Entry.{Entry}
use Rattle.sequential.specs.Histories.{calls_of}
use Rattle.publication.specs.Pieces.{pieces_of}
use Rattle.publication.specs.declared.piece.Piece.{Piece}
use Rattle.publication.specs.Views.{Handed}
use Rattle.publication.specs.inner.Closing.{WereHanded, Ends}
use Rattle.publication.specs.Rule.{blank, BoardState, word, home, seat, own_at, pieces_in, IsHome, IsHanded, IsOrderly}
use Rattle.publication.specs.List.{IsBounded}
use Rattle.publication.specs.declared.view.View.{View}
use Rattle.publication.specs.declared.slot.Load.{Load}
use Rattle.publication.specs.declared.slot.SlotValue.{SlotValue}
use Rattle.publication.specs.declared.slot.SlotValue.TheVariants.{ObjectLoad}
use Rattle.publication.proofs.Lists.{at_there, at_home}
use Rattle.publication.proofs.SeatViews.{others_of, pieces_of_seat}
use Rattle.publication.proofs.RecordStates.{leaves_record}
use Rattle.sequential.specs.declared.object.Sequential.{Ghosts}

module _ {C R : Type 0} where
  -- Each session was handed in to the seat with view v.
  abbrev pub HasAll : ℕ → View C R → Type 0
  HasAll slots v = WereHanded slots v.others.handed

module _ {O C R : Type 0} (obj : Ghosts O C R) where
  -- What holds of the load in the lock's slot then.
  pub record IsLast (slots : ℕ) (v : View C R) (l : Load O C R) : Type 0 where
    pub home : IsHome obj (obj.history l.object) slots l
    pub legal : obj.is_legal (obj.history l.object)
    pub short : length (obj.history l.object) < 2 ^ 64
    pub ends : (p : ℕ) (x : Handed C R) → get_elem? v.others.handed p ≡ opt.some x → Ends (obj.history l.object) x
    pub within : All (λ x. (0 < x.session) × (x.session < slots)) l.pieces.items
    pub pieces : (p : ℕ) (x : Handed C R) → get_elem? v.others.handed p ≡ opt.some x → x.pieces ≡ pieces_of x.number l.pieces.items

module _ {O C R : Type 0} (obj : Ghosts O C R) where
  -- The same, and its object keeps so many entries at most.
  pub record IsLastWithin (bound : Bounds) (slots : ℕ) (v : View C R) (l : Load O C R) : Type 0 where
    pub last : IsLast obj slots v l
    pub within : obj.bound l.object ≡ bound

module _ {O C R : Type 0} {obj : Ghosts O C R} where
  ends : (s : BoardState O C R) (o : IsOrderly obj s) (id : ℕ) (v : View C R) → get_elem? s.views id ≡ opt.some v → HasAll o.slots v → (l : Box (Load O C R)) × (home s 0 ≡ opt.some (ObjectLoad l)) × IsLast obj o.slots v l.value
  ends s o id v me all =
      let v_is : seat s id ≡ v = (at_there s.views id v blank me).0 in
      let has : (p : ℕ) (x : Handed C R) → get_elem? v.others.handed p ≡ opt.some x → IsHanded o.history s o.slots o.owns x = (others_of s o id v me).handed in
      let is_free : word s 0 ≡ 0 = dite (ℕ_discrete (word s 0) 0) (λ e. e) (λ ne. absurd (
      let t = o.taken ne in let b = o.combiners (word s 0) t.0 in let g = all (word s 0) b.session t.1 in let y = has g.0 g.1 g.2 in
      not_gone s o (word s 0) t.0 (ap (λ (j : ℕ). (seat s j).number) (sym g.3) ∙ y.gone))) in
      let t = o.free is_free in let h = t.2.history in let noted_all : t.0.value.pieces.items ≡ o.pieces.all = ap pieces_in (sym t.1) ∙ o.pieces.home is_free in (
        t.0,
        t.1,
        record {
          home = record { history = refl; sessions = t.2.sessions; empty = t.2.empty; room = t.2.room; ages = t.2.ages; past = t.2.past; pieces = t.2.pieces; in_a_row = t.2.in_a_row };
          legal = subst obj.is_legal (sym h) o.legal;
          short = subst (λ (f : List (Entry C R)). length f < 2 ^ 64) (sym h) o.short;
          ends = λ p x e. let y = has p x e in record {
            calls = ap (calls_of x.number) h ∙ ((leaves_record o.history x.number (word s x.number) (home s x.number) (own_at o.owns x.number) (o.stands x.number y.some y.small) y.settled).calls ∙ y.collected);
            begins = subst (IsPrefix x.front) (sym h) y.begins;
          };
          within = λ k d few. let w = o.pieces.within k d (subst (λ (ps : List Piece). k < length ps) noted_all few) in subst (λ (ps : List Piece). (0 < (get_or ps k d).session) × ((get_or ps k d).session < o.slots)) (sym noted_all) (w.0, w.1);
          pieces = λ p x e. (pieces_of_seat s o id v me).handed p x e ∙ ap (pieces_of x.number) (sym noted_all);
        },
      )
    where
      not_gone : (s : BoardState O C R) (o : IsOrderly obj s) (k : ℕ) → (seat s k).combiner.has_object ≡ true → (seat s k).number ≡ 0 → ⊥
      not_gone s o k has none = let b = o.combiners k has in absurd (omega (arith, b.session, b.named))

module _ {O C R : Type 0} {obj : Ghosts O C R} {bound : Bounds} where
  -- A closed table has such a load in the lock's slot.
  pub ended : (ws : List ℕ) (xs : List (SlotValue O C R)) (id slots : ℕ) (v : View C R) → Final (Seen (IsBounded obj bound) id v) ws xs → length xs ≡ slots → HasAll slots v
      → (l : Box (Load O C R)) × (get_elem? xs 0 ≡ opt.some (ObjectLoad l)) × IsLastWithin obj bound slots v l.value
  ended ws xs id slots v final long all =
      let s : BoardState O C R = final.0 in let o : IsOrderly obj s = final.1.0.ruled.records in
      let same : slots ≡ o.slots = (let a = o.homes_are in let b = final.3 in omega arith) in
      let t = ends s o id v final.1.1 (subst (λ (n : ℕ). HasAll n v) same all) in
      (t.0, final.4 0 (ObjectLoad t.0) (at_home s.homes 0 (ObjectLoad t.0) t.1), record { last = subst (λ (n : ℕ). IsLast obj n v t.0.value) (sym same) t.2; within = final.1.0.within t.0 t.1 })

  -- The lock's slot holds such a load.
  pub last_load : (ws : List ℕ) (xs : List (SlotValue O C R)) (id slots : ℕ) (v : View C R) → Final (Seen (IsBounded obj bound) id v) ws xs → length xs ≡ slots → HasAll slots v
      → (held : SlotValue O C R) → get_elem? xs 0 ≡ opt.some held → (load : Box (Load O C R)) → held ≡ ObjectLoad load → (out : Load O C R) → out ≡ load.value → IsLastWithin obj bound slots v out
  last_load ws xs id slots v final long all held at load is out unboxed =
      let t = ended ws xs id slots v final long all in
      let e : ObjectLoad load ≡ ObjectLoad t.0 = sym is ∙ opt.some-injective held (ObjectLoad t.0) (sym at ∙ t.1) in
      let q : load ≡ t.0 = cc e in
      subst (λ (l : Load O C R). IsLastWithin obj bound slots v l) (sym (unboxed ∙ ap (λ (b : Box (Load O C R)). b.value) q)) t.2
