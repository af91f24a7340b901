-- What the walks of pointers that may be null share. Assumes `Logic`.
use Rattle.std.proofs.Common.{◌≡◌, ℕ, List, [], ◌∷◌, refl, subst}
use Rattle.library_books.proofs.Walking.{Ura, Ty, Body, Calls, Loops, at_ret, ty_bool, Val, SProp, sep, emp, via, never_e, Share, Fml, ftrue, fat, fact, fact_i, Logic, Item, Goal, Seq, Step, step, prop, raw, ‵, given, learn, ◌$◌, !, qed, done}
use Rattle.library_books.proofs.Walking.{move, use0, use1, cell_raw, RattleType, Ptr, block_ptr, null_ptr, InBlock, Testable, Owning}
use prog.Wp.{Env, Wp, after_seq, after_block}
use types.Kit.{Post, any_q, post}
use denote.Struct.Field.{RawPtr-field}

module _ {M : Type 1} {𝓤 : Ura M} {𝓛 : Logic 𝓤} {K : Type 0} {Γ : List (Item 𝓤)} {G : Goal 𝓤 𝓛.H} where
  -- by the pointer's form
  pub null_or_block : K → (p : Ptr) (F : Ptr → Fml) → (p ≡ null_ptr → Seq K 𝓛 (‵ (F null_ptr) ∷ Γ) G)
      → ((b o : ℕ) → p ≡ block_ptr b o → Seq K 𝓛 (‵ (F (block_ptr b o)) ∷ Γ) G) → Seq K 𝓛 (‵ (F p) ∷ Γ) G
  null_or_block t null_ptr F k h = k refl
  null_or_block t (block_ptr b o) F k h = h b o refl

  -- a cell of one machine type holds one machine value
  pub one_value : K → (q : Share) (ρ : Ty) (vs : List Val) (b o : ℕ) → ((v : Val) → vs ≡ v ∷ [] → Seq K 𝓛 (‵ (fat q ρ b o v) ∷ Γ) G)
      → Seq K 𝓛 (‵ (cell_raw q (ρ ∷ []) vs b o) ∷ Γ) G
  one_value t q ρ [] b o k = use1 𝓛 (given ⊥ (‵ ftrue)) (never_e 𝓤 _) $ learn t (λ x. absurd x)
  one_value t q ρ (v ∷ []) b o k = k v refl
  one_value t q ρ (v ∷ w ∷ vs) b o k = use1 𝓛 (given ⊥ (‵ ftrue)) (never_e 𝓤 _) $ learn t (λ x. absurd x)

module _ {M : Type 1} {𝓤 : Ura M} {𝓛 : Logic 𝓤} {K : Type 0} {Γ : List (Item 𝓤)} where
  -- an `ensures` of two facts
  pub says_both : K → {φ ψ : Type 0} {P : SProp 𝓤} → φ → ψ → Step K 𝓛 Γ (prop P) Γ (prop (sep 𝓤 P (sep 𝓤 (fact 𝓤 φ) (fact 𝓤 ψ))))
  says_both t {φ} {ψ} {P} x y = step (λ s. record {
    prf = via 𝓤 P s.prf (qed 𝓛 (raw P ∷ []) {P = sep 𝓤 P (sep 𝓤 (fact 𝓤 φ) (fact 𝓤 ψ))} (
        use0 𝓛 (raw (fact 𝓤 φ)) (fact_i 𝓤 φ (emp 𝓤) x) $ use0 𝓛 (raw (fact 𝓤 ψ)) (fact_i 𝓤 ψ (emp 𝓤) y) $ move ! (2 ∷ 1 ∷ 0 ∷ []) $ done !));
  })

-- what runs behind a block with which a function begins
abbrev pub behind_block : {M : Type 1} {𝓤 : Ura M} (𝓛 : Logic 𝓤) → Calls 𝓤 𝓛.H → Loops 𝓤 𝓛.H → Env 𝓤 𝓛.H → Body → (Val → SProp 𝓤) → Post 𝓤 𝓛.H
behind_block {𝓤 = 𝓤} 𝓛 C Λ E rest Q =
    let End = post 𝓤 𝓛.H (at_ret E Q) in
    any_q (after_block 𝓤 𝓛.H (after_seq 𝓤 𝓛.H (Wp 𝓤 𝓛.H C Λ E rest End) End))

-- the machine type of a type that has one
abbrev pub first_of : List Ty → Ty
first_of [] = ty_bool
first_of (ty ∷ tys) = ty

-- a block is not null
pub not_null : {b o : ℕ} → block_ptr b o ≡ null_ptr → ⊥
not_null e = subst InBlock e tt

-- a type with one machine type
abbrev pub sized : RattleType → Ty → RattleType
sized X ty = record X { mir = ty ∷ [] }

-- a struct that begins with a pointer, and has what lies behind it as a ghost field
pub record PointerTo (T : RattleType) : Type 2 where
  pub owning : Owning
  pub at : owning.D → Ptr
  pub testable : (d : owning.D) → Testable (at d)
  pub behind : owning.D → T.Denot

-- one by its type
abbrev pub pointer_of : (T : RattleType) (o : Owning) (at : o.D → Ptr) → ((d : o.D) → Testable (at d)) → (o.D → T.Denot) → PointerTo T
pointer_of T o at testable behind = record { owning = o; at = at; testable = testable; behind = behind }

-- the type of one with no other field, by what it owns beside its field
abbrev pub pointing : (T : RattleType) → PointerTo T → (Ptr → T.Denot → Fml) → Owning
pointing T P own = record {
  name = P.owning.name;
  args = [];
  types = [];
  parts = RawPtr-field ∷ [];
  D = P.owning.D;
  as_values = λ d. (P.at d, tt);
  coded = P.owning.coded;
  heap = λ d. own (P.at d) (P.behind d);
  exit = P.owning.exit;
  shr_at = P.owning.shr_at;
}
